-- Included worlds, by what is taken of them.
use Rattle.wac_resolution_worlds.proofs.Common.{◌≡◌, ◌⊎◌, ℕ, List, [], refl, sym, ap, subst, inl, inr, WorldInclude, WorldIncludeItem, ItemKind, Meaning, Named, IsA, is_world_form, entry_of, imports_of, exports_of, items_mean, Steps, Fails, Names, EachEntryNamed, Parts, means, entry_means, EntriesMean, origin_at, Numbering, Error, Entries, Takes, Included, IsIncludeConflict, IsLeftOver, IsNoWorld, TakingBroken}
use Rattle.wac_graph_types.specs.declared.kind.«Type».TheVariants as types
use Rattle.wac_graph_types.specs.declared.kind.ItemKind.TheVariants as kinds
use Rattle.wac_graph_types.specs.declared.kind.ExternKind.TheVariants as sides
use Rattle.wac_graph_types.specs.declared.kind.WorldId.{WorldId}
use Rattle.wac_graph_types.specs.Readings.{world_imports, world_exports}
use Rattle.wac_graph_types.proofs.Found.{world_imports_mean, world_exports_mean, world_imports_named, world_exports_named}
use Rattle.wac_resolution_rules.specs.Bodies.{Body}
use Rattle.wac_resolution_worlds.specs.Entries.{Renamings, entries_of}
use Rattle.wac_resolution_worlds.specs.Taking.{taking_of, NamesTaken, IsWorldKind, with_both, WorldTaken, IsIncluded}
use Rattle.wac_resolution_state.proofs.Scopes.{memory_model}

-- ---- which kinds are worlds

pub world_type_is : (w : WorldId) → IsWorldKind (kinds.Ty (types.World w)) w
world_type_is w = record { is = λ numbering g. refl; entry = λ numbering g. refl; named = λ ts h. h }

pub component_is : (w : WorldId) → IsWorldKind (kinds.Component w) w
component_is w = record { is = λ numbering g. refl; entry = λ numbering g. refl; named = λ ts h. h }

pub ruleset worlds_told = (world_type_is, component_is, memory_model)

-- ---- worlds of a graph

pub imports_mean : (g : Parts) (numbering : Numbering) (w : WorldId) → EntriesMean g → Names g.types (kinds.Component w) → imports_of (entry_means numbering g w.0) ≡ items_mean (entry_means numbering g) (world_imports g.types w.0)
imports_mean g numbering w mean named = world_imports_mean (λ i. numbering (origin_at g i)) g.types (entry_means numbering g) (mean numbering) w.0 named.1

pub exports_mean : (g : Parts) (numbering : Numbering) (w : WorldId) → EntriesMean g → Names g.types (kinds.Component w) → exports_of (entry_means numbering g w.0) ≡ items_mean (entry_means numbering g) (world_exports g.types w.0)
exports_mean g numbering w mean named = world_exports_mean (λ i. numbering (origin_at g i)) g.types (entry_means numbering g) (mean numbering) w.0 named.1

module _ (g : Parts) (items : List WorldIncludeItem) (w : WorldId) (mean : EntriesMean g) (here : Names g.types (kinds.Component w)) where
  -- the names of a world, taken as those of its entry
  imports_take : (es fs : Renamings) (ks ls : Named ItemKind) (numbering : Numbering) → NamesTaken items es fs ks ls (world_imports g.types w.0) → Steps Takes (taking_of numbering g es ks) (imports_of (entry_means numbering g w.0)) (taking_of numbering g fs ls)
  imports_take es fs ks ls numbering h = subst (λ (l : Named Meaning). Steps Takes (taking_of numbering g es ks) l (taking_of numbering g fs ls)) (sym (imports_mean g numbering w mean here)) (h.take numbering g)

  exports_take : (es fs : Renamings) (ks ls : Named ItemKind) (numbering : Numbering) → NamesTaken items es fs ks ls (world_exports g.types w.0) → Steps Takes (taking_of numbering g es ks) (exports_of (entry_means numbering g w.0)) (taking_of numbering g fs ls)
  exports_take es fs ks ls numbering h = subst (λ (l : Named Meaning). Steps Takes (taking_of numbering g es ks) l (taking_of numbering g fs ls)) (sym (exports_mean g numbering w mean here)) (h.take numbering g)

  pub world_taken : (es mid left : Renamings) (is exs js fs : Named ItemKind) → EachEntryNamed g.types
      → NamesTaken items es mid is js (world_imports g.types w.0) → NamesTaken items mid left exs fs (world_exports g.types w.0) → left ≡ [] → WorldTaken g (entries_of es) w is exs js fs
  world_taken es mid left is exs js fs entries p q none = record {
    included = λ numbering b. record {
      imports = taking_of numbering g mid js;
      exports = taking_of numbering g left fs;
      takes_imports = imports_take es mid is js numbering p;
      takes_exports = exports_take mid left exs fs numbering q;
      none_left = ap entries_of none;
      is = refl;
    };
    imports = λ h. p.named g.types h (world_imports_named g.types entries w.0);
    exports = λ h. q.named g.types h (world_exports_named g.types entries w.0);
  }

  pub imports_break : (x : WorldInclude) (world : List ℕ) (es : Renamings) (is exs : Named ItemKind) (e : Error)
      → ((numbering : Numbering) (h : Parts) → Fails Takes (IsIncludeConflict x world sides.Import e) (taking_of numbering h es is) (items_mean (entry_means numbering h) (world_imports g.types w.0)))
      → (numbering : Numbering) (b : Body) → TakingBroken x world (entries_of es) (entry_means numbering g w.0) (with_both numbering g b is exs) e
  imports_break x world es is exs e fails numbering b =
      inl (subst (λ (l : Named Meaning). Fails Takes (IsIncludeConflict x world sides.Import e) (taking_of numbering g es is) l) (sym (imports_mean g numbering w mean here)) (fails numbering g))

  pub exports_break : (x : WorldInclude) (world : List ℕ) (es mid : Renamings) (is exs js : Named ItemKind) (e : Error) → NamesTaken items es mid is js (world_imports g.types w.0)
      → ((numbering : Numbering) (h : Parts) → Fails Takes (IsIncludeConflict x world sides.Export e) (taking_of numbering h mid exs) (items_mean (entry_means numbering h) (world_exports g.types w.0)))
      → (numbering : Numbering) (b : Body) → TakingBroken x world (entries_of es) (entry_means numbering g w.0) (with_both numbering g b is exs) e
  exports_break x world es mid is exs js e p fails numbering b =
      inr (
        taking_of numbering g mid js,
        imports_take es mid is js numbering p,
        inl (subst (λ (l : Named Meaning). Fails Takes (IsIncludeConflict x world sides.Export e) (taking_of numbering g mid exs) l) (sym (exports_mean g numbering w mean here)) (fails numbering g)),
      )

  pub left_breaks : (x : WorldInclude) (world : List ℕ) (es mid left : Renamings) (is exs js fs : Named ItemKind) (e : Error) → NamesTaken items es mid is js (world_imports g.types w.0) → NamesTaken items mid left exs fs (world_exports g.types w.0)
      → IsLeftOver x (entries_of left) e → (numbering : Numbering) (b : Body) → TakingBroken x world (entries_of es) (entry_means numbering g w.0) (with_both numbering g b is exs) e
  left_breaks x world es mid left is exs js fs e p q over numbering b =
      inr (taking_of numbering g mid js, imports_take es mid is js numbering p, inr (taking_of numbering g left fs, exports_take mid left exs fs numbering q, over))

-- ---- kinds of a graph

pub is_included : (g : Parts) (entries : Entries) (k : ItemKind) (w : WorldId) (is es js fs : Named ItemKind) → IsWorldKind k w → WorldTaken g entries w is es js fs → IsIncluded g entries k is es js fs
is_included g entries k w is es js fs h p = record {
  is_world = λ numbering. h.is numbering g;
  included = λ numbering b. subst (λ (m : Meaning). Included entries m (with_both numbering g b is es) (with_both numbering g b js fs)) (sym (h.entry numbering g)) (p.included numbering b);
  imports = p.imports;
  exports = p.exports;
}

pub world_breaks : (g : Parts) (x : WorldInclude) (world : List ℕ) (entries : Entries) (k : ItemKind) (w : WorldId) (is es : Named ItemKind) (e : Error) → IsWorldKind k w
    → ((numbering : Numbering) (b : Body) → TakingBroken x world entries (entry_means numbering g w.0) (with_both numbering g b is es) e)
    → (numbering : Numbering) (b : Body) → IsNoWorld (means numbering g k) x.world e ⊎ (IsA is_world_form (means numbering g k) × TakingBroken x world entries (entry_of (means numbering g k)) (with_both numbering g b is es) e)
world_breaks g x world entries k w is es e h breaks numbering b =
    inr (h.is numbering g, subst (λ (m : Meaning). TakingBroken x world entries m (with_both numbering g b is es) e) (sym (h.entry numbering g)) (breaks numbering b))
