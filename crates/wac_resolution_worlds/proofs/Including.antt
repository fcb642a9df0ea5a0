-- Includes of worlds, in order.
use Rattle.wac_resolution_worlds.proofs.Common.{◌≡◌, ◌∙◌, ◌+◌, ◌<◌, ◌⊎◌, inl, inr, ℕ, suc, List, [], ◌∷◌, ◌++◌, Option, Some, None, refl, sym, ap, subst, map, take, drop, length, get_or, cons_option, take-append-drop, take_more, length-map, get_or-map, WorldInclude, ItemKind, UsedType, Meaning, Named, Scope, Uses, IsA, is_world_form, entry_of, items_mean, uses_mean, Steps, Fails, ItemsNamed, Parts, means, entry_means, declared_count, Numbering, Error, Body, WorldRefBroken, IsNoWorld, TakingBroken, IncludeBroken, Included, HasInclude, include_in, includes_of, values_of, scope_of, Expands, AllSupplied, Found, packages_in, context_of, expands_self, expands_on, items_expanded, scope_expanded, Lists, body_in, UsesNamed}
use Rattle.wac_resolution_worlds.specs.Entries.{Renamings, entries_of, AreAll}
use Rattle.std.proofs.lemmas.List.Elements.{filter_map-append}
use Rattle.std.proofs.Math.Seq.{drop-cons}
use Rattle.wac_ast_grammar.specs.Tree.{WorldItem}
use Rattle.wac_graph_types.specs.declared.kind.ItemKind.TheVariants as kinds
use Rattle.wac_resolution_rules.specs.Paths as rules
use Rattle.wac_resolution_state.specs.declared.context.Context.{Context}
use Rattle.wac_resolution_worlds.specs.Taking.{with_both, IsIncluded}
use Rattle.wac_resolution_worlds.specs.WorldItems.{AreNamed, IncludeSteps, IncludeStep}

-- ---- more types and packages

uses_still : (old new : Parts) (all : Named UsedType) → Expands old new → UsesNamed old.types all → UsesNamed new.types all
uses_still old new [] e h = tt
uses_still old new (u ∷ all) e h = (e.named (kinds.Instance u.1.interface) h.0, uses_still old new all e h.1)

uses_kept : (numbering : Numbering) (old new : Parts) (all : Named UsedType) → Expands old new → UsesNamed old.types all → uses_mean (entry_means numbering new) all ≡ uses_mean (entry_means numbering old) all
uses_kept numbering old new [] e h = refl
uses_kept numbering old new (u ∷ all) e h =
    let one : means numbering new (kinds.Instance u.1.interface) ≡ means numbering old (kinds.Instance u.1.interface) = e.kinds numbering (kinds.Instance u.1.interface) h.0 in
    let rest : uses_mean (entry_means numbering new) all ≡ uses_mean (entry_means numbering old) all = uses_kept numbering old new all e h.1 in
    cc

pub are_still : (old new : Parts) (b : Lists) → Expands old new → AreNamed old.types b → AreNamed new.types b
are_still old new b e h = record {
  names = items_expanded old new (values_of b.names) e h.names;
  uses = uses_still old new b.uses e h.uses;
  imports = items_expanded old new b.imports e h.imports;
  exports = items_expanded old new b.exports e h.exports;
}

-- where no resource was declared a body still means the same
pub lists_kept : (numbering : Numbering) (old new : Parts) (b : Lists) → Expands old new → declared_count new ≡ declared_count old → AreNamed old.types b → body_in numbering new b ≡ body_in numbering old b
lists_kept numbering old new b e count h =
    let scope : scope_of numbering new (values_of b.names) ≡ scope_of numbering old (values_of b.names) = scope_expanded old new (values_of b.names) numbering e h.names in
    let uses : uses_mean (entry_means numbering new) b.uses ≡ uses_mean (entry_means numbering old) b.uses = uses_kept numbering old new b.uses e h.uses in
    let imports : items_mean (entry_means numbering new) b.imports ≡ items_mean (entry_means numbering old) b.imports = scope_expanded old new b.imports numbering e h.imports in
    let exports : items_mean (entry_means numbering new) b.exports ≡ items_mean (entry_means numbering old) b.exports = scope_expanded old new b.exports numbering e h.exports in
    let made : Scope → Uses → Named Meaning → Named Meaning → ℕ → Body = λ sc us is es n. record { scope = sc; uses = us; imports = is; exports = es; resources = n } in
    cc

-- ---- one include

abbrev pub IsNamedWorld : Context → Parts → Parts → Named ItemKind → WorldInclude → ItemKind → Type 0
IsNamedWorld context old new root x k = Found (packages_in context) old new (λ numbering m. rules.WorldNames (context_of numbering context) (scope_of numbering old root) x.world m) k

pub include_goes : (context : Context) (old new : Parts) (root : Named ItemKind) (b c : Lists) (x : WorldInclude) (es : Renamings) (k : ItemKind)
    → AreNamed old.types b → AreAll x.items es → IsNamedWorld context old new root x k → IsIncluded new (entries_of es) k b.imports b.exports c.imports c.exports → c.names ≡ b.names → c.uses ≡ b.uses → IncludeStep context old new root b c x
include_goes context old new root b c x es k body all found h names uses =
    let still = are_still old new b found.grows body in
    let same : c ≡ record b { imports = c.imports; exports = c.exports } = ap (λ n. record c { names = n }) names ∙ ap (λ u. record b { uses = u; imports = c.imports; exports = c.exports }) uses in
    record {
      grows = found.grows;
      supplied = found.supplied;
      named = subst (AreNamed new.types) (sym same) (record { names = still.names; uses = still.uses; imports = h.imports still.imports; exports = h.exports still.exports });
      goes = λ numbering.
          let taken : Included (entries_of es) (entry_of (means numbering new k)) (body_in numbering new b) (body_in numbering new (record b { imports = c.imports; exports = c.exports })) = h.included numbering (body_in numbering new b) in (
            entries_of es,
            means numbering new k,
            all.once,
            found.is numbering,
            h.is_world numbering,
            subst (λ (l : Lists). Included (entries_of es) (entry_of (means numbering new k)) (body_in numbering old b) (body_in numbering new l)) (sym same)
                (subst (λ (before : Body). Included (entries_of es) (entry_of (means numbering new k)) before (body_in numbering new (record b { imports = c.imports; exports = c.exports }))) (lists_kept numbering old new b found.grows found.count body) taken),
          );
    }

-- nothing is found
pub world_breaks : (context : Context) (g : Parts) (root : Named ItemKind) (b : Lists) (world : List ℕ) (x : WorldInclude) (es : Renamings) (e : Error) → AreAll x.items es
    → ((numbering : Numbering) → WorldRefBroken (context_of numbering context) (scope_of numbering g root) x.world e)
    → (numbering : Numbering) (before : List WorldInclude) → IncludeBroken (context_of numbering context) (scope_of numbering g root) world e (body_in numbering g b) before x
world_breaks context g root b world x es e all h numbering before = inr (entries_of es, all.once, inl (h numbering))

-- the world can't be included
pub taking_breaks : (context : Context) (old new : Parts) (root : Named ItemKind) (b : Lists) (world : List ℕ) (x : WorldInclude) (es : Renamings) (k : ItemKind) (e : Error)
    → AreNamed old.types b → AreAll x.items es → IsNamedWorld context old new root x k
    → ((numbering : Numbering) (l : Body) → IsNoWorld (means numbering new k) x.world e ⊎ (IsA is_world_form (means numbering new k) × TakingBroken x world (entries_of es) (entry_of (means numbering new k)) (with_both numbering new l b.imports b.exports) e))
    → (numbering : Numbering) (before : List WorldInclude) → IncludeBroken (context_of numbering context) (scope_of numbering old root) world e (body_in numbering old b) before x
taking_breaks context old new root b world x es k e body all found h numbering before = inr (
  entries_of es,
  all.once,
  inr (
    means numbering new k,
    found.is numbering,
    subst (λ (l : Body). IsNoWorld (means numbering new k) x.world e ⊎ (IsA is_world_form (means numbering new k) × TakingBroken x world (entries_of es) (entry_of (means numbering new k)) l e)) (lists_kept numbering old new b found.grows found.count body) (h numbering (body_in numbering new b)),
  ),
)

-- ---- in order

steps_after : {S X : Type 0} (step : S → X → S → Type 0) (old : S) (xs : List X) (mid : S) (ys : List X) (new : S) → Steps step old xs mid → Steps step mid ys new → Steps step old (xs ++ ys) new
steps_after {S} step old [] mid ys new p q = subst (λ (m : S). Steps step m ys new) p q
steps_after step old (x ∷ xs) mid ys new p q = (p.0, p.1, steps_after step p.0 xs mid ys new p.2 q)

-- nothing was included yet
pub none_include : (context : Context) (g : Parts) (root : Named ItemKind) (b : Lists) → AllSupplied (packages_in context) g → AreNamed g.types b → IncludeSteps context g g root b b []
none_include context g root b held h = record { grows = expands_self g; supplied = held; named = h; goes = λ numbering. refl }

includes_one : (x : WorldItem) (o : Option WorldInclude) → include_in x ≡ o → includes_of (x ∷ []) ≡ cons_option o []
includes_one x o is = ap (λ (p : Option WorldInclude). cons_option p []) is

-- an item that is no include
pub no_include : (context : Context) (g : Parts) (root : Named ItemKind) (b : Lists) (x : WorldItem) → include_in x ≡ None → AllSupplied (packages_in context) g → AreNamed g.types b → IncludeSteps context g g root b b (includes_of (x ∷ []))
no_include context g root b x is held h = subst (IncludeSteps context g g root b b) (sym (includes_one x None is)) (none_include context g root b held h)

-- an include
pub one_include : (context : Context) (old new : Parts) (root : Named ItemKind) (b c : Lists) (x : WorldItem) (i : WorldInclude) → include_in x ≡ Some i → IncludeStep context old new root b c i → IncludeSteps context old new root b c (includes_of (x ∷ []))
one_include context old new root b c x i is h = subst (IncludeSteps context old new root b c) (sym (includes_one x (Some i) is)) (record {
  grows = h.grows;
  supplied = h.supplied;
  named = h.named;
  goes = λ numbering. (body_in numbering new c, h.goes numbering, refl);
})

-- the includes up to the next item
pub includes_step : {Y : Type 0} (f : Y → WorldItem) (context : Context) (old mid new : Parts) (root : Named ItemKind) (b c d : Lists) (ys : List Y) (i : ℕ) (y : Y)
    → i < length ys → y ≡ get_or ys i y → ItemsNamed old.types root
    → IncludeSteps context old mid root b c (includes_of (take i (map f ys))) → IncludeSteps context mid new root c d (includes_of (f y ∷ [])) → IncludeSteps context old new root b d (includes_of (take (i + 1) (map f ys)))
includes_step {Y} f context old mid new root b c d ys i y within at named p q =
    let inside : i < length (map f ys) = subst (λ (n : ℕ). i < n) (sym (length-map ys f)) within in
    let one : get_or (map f ys) i (f y) ≡ f y = get_or-map f ys i y (f y) within ∙ sym (ap f at) in
    let all : includes_of (take (i + 1) (map f ys)) ≡ includes_of (take i (map f ys)) ++ includes_of (f y ∷ [])
    = ap includes_of (take_more (map f ys) i (f y) inside ∙ ap (λ (x : WorldItem). take i (map f ys) ++ x ∷ []) one) ∙ filter_map-append include_in (take i (map f ys)) (f y ∷ []) in
    subst (IncludeSteps context old new root b d) (sym all) (record {
      grows = expands_on old mid new p.grows q.grows;
      supplied = q.supplied;
      named = q.named;
      goes = λ numbering.
          steps_after (HasInclude (context_of numbering context) (scope_of numbering old root)) (body_in numbering old b) (includes_of (take i (map f ys))) (body_in numbering mid c) (includes_of (f y ∷ [])) (body_in numbering new d) (p.goes numbering)
          (subst (λ (s : Scope). Steps (HasInclude (context_of numbering context) s) (body_in numbering mid c) (includes_of (f y ∷ [])) (body_in numbering new d)) (scope_expanded old mid root numbering p.grows named) (q.goes numbering));
    })

-- the next item is an include, and broken
pub includes_break : {Y : Type 0} (f : Y → WorldItem) (context : Context) (old mid : Parts) (root : Named ItemKind) (world : List ℕ) (b c : Lists) (ys : List Y) (i : ℕ) (y : Y) (e : Error)
    → i < length ys → y ≡ get_or ys i y → ItemsNamed old.types root → IncludeSteps context old mid root b c (includes_of (take i (map f ys)))
    → ((numbering : Numbering) (before : List WorldInclude) → (x : WorldInclude) × (include_in (f y) ≡ Some x) × IncludeBroken (context_of numbering context) (scope_of numbering mid root) world e (body_in numbering mid c) before x)
    → (numbering : Numbering) → Fails (HasInclude (context_of numbering context) (scope_of numbering old root)) (IncludeBroken (context_of numbering context) (scope_of numbering old root) world e) (body_in numbering old b) (includes_of (map f ys))
includes_break {Y} f context old mid root world b c ys i y e within at named p h numbering =
    let inside : i < length (map f ys) = subst (λ (n : ℕ). i < n) (sym (length-map ys f)) within in
    let one : get_or (map f ys) i (f y) ≡ f y = get_or-map f ys i y (f y) within ∙ sym (ap f at) in
    let broken = h numbering (includes_of (take i (map f ys))) in
    let all : map f ys ≡ take i (map f ys) ++ f y ∷ drop (suc i) (map f ys)
    = sym (take-append-drop i (map f ys)) ∙ ap (λ (r : List WorldItem). take i (map f ys) ++ r) (drop-cons (map f ys) i (f y) inside ∙ ap (λ (x : WorldItem). x ∷ drop (suc i) (map f ys)) one) in
    let first : includes_of (f y ∷ drop (suc i) (map f ys)) ≡ broken.0 ∷ includes_of (drop (suc i) (map f ys))
    = ap (λ (o : Option WorldInclude). cons_option o (includes_of (drop (suc i) (map f ys)))) broken.1 in
    record {
      before = includes_of (take i (map f ys));
      failing = broken.0;
      after = includes_of (drop (suc i) (map f ys));
      split = ap includes_of all ∙ filter_map-append include_in (take i (map f ys)) (f y ∷ drop (suc i) (map f ys)) ∙ ap (λ (r : List WorldInclude). includes_of (take i (map f ys)) ++ r) first;
      reached = body_in numbering mid c;
      leads = p.goes numbering;
      breaks = subst (λ (s : Scope). IncludeBroken (context_of numbering context) s world e (body_in numbering mid c) (includes_of (take i (map f ys))) broken.0) (scope_expanded old mid root numbering p.grows named) broken.2;
    }
