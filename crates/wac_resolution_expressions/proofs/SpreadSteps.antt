-- Spreads, in order.
use Rattle.wac_resolution_expressions.proofs.Common.{◌≡◌, ◌∙◌, ◌+◌, ◌<◌, ℕ, suc, List, [], ◌∷◌, ◌++◌, Option, Some, None, Bool, true, false, cond, inr, refl, sym, ap, subst, map, take, drop, length, get_or, fold, is_some, append_assoc, append-nil, arith, string_bytes, String, flat_map, Global, length-map, get_or-map, take_more, take-append-drop, drop-cons, Ident, arguments_from, Entry, InterfaceId, WorldId, Meaning, by_name, Named, look_up, exports_of, imports_of, Steps, Fails, Names, argument_of, NodeId, Parts, entry_means, Numbering, Error, spread_instantiation_no_match, SpreadBroken, Giving, at, alias_at, given_too, spread_step, spread_from, Spreads, spread_of, spreads_of, Root, GrowsNodes, IsInstance, NodesStand, numbers_of, NodeIs, grows_none, grows_on}
use Rattle.wac_ast_grammar.specs.Tree.{InstantiationArgument}
use Rattle.wac_graph_types.specs.declared.kind.ItemKind.TheVariants as kinds
use Rattle.wac_ast_base.specs.declared.names.Ident.{Ident as CodeIdent}
use Rattle.wac_ast_statements.specs.declared.expr.InstantiationArgument.{InstantiationArgument as CodeArgument, Inferred, Spread, Named', Fill}
use Rattle.wac_resolution_expressions.specs.Arguments.{given_nodes}
use Rattle.wac_resolution_expressions.specs.GivenByNodes.{Gave}
use Rattle.wac_resolution_expressions.specs.Spreads.{giving_of, GivenThere, imports_at, NodeSpread}
use Rattle.wac_resolution_expressions.proofs.Spreading.{entry_same}

-- ---- a spread only adds arguments

abbrev Longer : Named ℕ → Named ℕ → Type 0
Longer old new = (more : Named ℕ) × (new ≡ old ++ more)

step_longer : (node : ℕ) (exports : Named Meaning) (g : Giving) (x : List ℕ × Meaning) → Longer g.arguments (spread_step node exports g x).arguments
step_longer node exports g x = go (is_some (look_up x.0 g.arguments)) (look_up x.0 exports)
  where
    go : (b : Bool) (o : Option Meaning) → Longer g.arguments (cond b g (elim o as (λ _. Giving) [ None ↦ g | Some k ↦ given_too g x.0 (alias_at (at g.composition node) x.0 k) ])).arguments
    go true o = ([], sym (append-nil g.arguments))
    go false None = ([], sym (append-nil g.arguments))
    go false (Some k) = ((x.0, (alias_at (at g.composition node) x.0 k).node) ∷ [], refl)

from_longer : (node : ℕ) (exports : Named Meaning) (g : Giving) (imports : Named Meaning) → Longer g.arguments (fold (spread_step node exports) g imports).arguments
from_longer node exports g [] = ([], sym (append-nil g.arguments))
from_longer node exports g (x ∷ imports) =
    let a = step_longer node exports g x in
    let b = from_longer node exports (spread_step node exports g x) imports in
    (a.0 ++ b.0, b.1 ∙ ap (λ (l : Named ℕ). l ++ b.0) a.1 ∙ append_assoc g.arguments a.0 b.0)

nothing_more : (old more : Named ℕ) → length (old ++ more) ≡ length old → more ≡ []
nothing_more [] [] h = refl
nothing_more [] (m ∷ more) h = (let longer : suc (length more) ≡ 0 = h in absurd (omega (arith, longer)))
nothing_more (o ∷ old) more h = (let both : suc (length (old ++ more)) ≡ suc (length old) = h in nothing_more old more (omega (arith, both)))

same_length : (old new : Named ℕ) → Longer old new → length new ≡ length old → new ≡ old
same_length old new longer h =
    let none : longer.0 ≡ [] = nothing_more old longer.0 (ap length (sym longer.1) ∙ h) in
    longer.1 ∙ ap (λ (l : Named ℕ). old ++ l) none ∙ append-nil old

-- ---- a spread

-- how many arguments are given
given_length : (es : List (String Global × NodeId)) → length (given_nodes (by_name es)) ≡ length es
given_length es = length-map (by_name es) (λ (e : List ℕ × NodeId). (e.0, e.1.0)) ∙ length-map es (λ (e : String Global × NodeId). (string_bytes e.0, e.1))

pub spread_goes : (old new : Parts) (root : Root) (before after : List (String Global × NodeId)) (count : ℕ) (x : Ident) (n : NodeId) (i : InterfaceId) (w : WorldId) → NodeIs root x n → IsInstance old n.0 i
    → NodeSpread old new (by_name before) (by_name after) n.0 w → count ≡ length before → (length after ≡ count → ⊥)
    → Gave old new (by_name before) (by_name after) (numbers_of root.nodes) (λ numbering a b. Spreads (imports_at numbering old w) a x b)
spread_goes old new root before after count x n i w is instance p counted apart = record {
  grows = p.grows;
  there = p.there;
  is = λ numbering. (
    n.0,
    entry_means numbering old i.0,
    is.is,
    instance.is numbering (numbers_of root.nodes),
    p.is i instance numbering (numbers_of root.nodes),
    λ same. apart (sym (given_length after) ∙ ap length same ∙ given_length before ∙ sym counted),
  );
}

pub spread_matches_none : (old new : Parts) (root : Root) (before after : List (String Global × NodeId)) (count : ℕ) (x : Ident) (n : NodeId) (i : InterfaceId) (w : WorldId) (e : Error) → NodeIs root x n → IsInstance old n.0 i
    → NodeSpread old new (by_name before) (by_name after) n.0 w → count ≡ length before → length after ≡ count → e ≡ spread_instantiation_no_match x.span
    → (numbering : Numbering) (earlier : List Ident) → SpreadBroken (imports_at numbering old w) e (giving_of numbering old (numbers_of root.nodes) (by_name before)) earlier x
spread_matches_none old new root before after count x n i w e is instance p counted same error_is numbering earlier =
    let start : Giving = giving_of numbering old (numbers_of root.nodes) (by_name before) in
    let exports : Named Meaning = exports_of (entry_means numbering old i.0) in
    let gave : given_nodes (by_name after) ≡ (spread_from (imports_at numbering old w) n.0 exports start).arguments = ap (λ (g : Giving). g.arguments) (p.is i instance numbering (numbers_of root.nodes)) in
    let none : (spread_from (imports_at numbering old w) n.0 exports start).arguments ≡ start.arguments =
    same_length start.arguments (spread_from (imports_at numbering old w) n.0 exports start).arguments (from_longer n.0 exports start (imports_at numbering old w))
    (ap length (sym gave) ∙ given_length after ∙ same ∙ counted ∙ sym (given_length before)) in
    inr (n.0, is.is, inr (record { instance = entry_means numbering old i.0; there = instance.is numbering (numbers_of root.nodes); unchanged = none; error = error_is }))

-- ---- an argument

module _ (old : Parts) (w : WorldId) (declared : Named ℕ) where
  -- these spreads were given
  abbrev pub SpreadsGave : Parts → Named NodeId → Named NodeId → List Ident → Type 0
  SpreadsGave new before after xs = Gave old new before after declared (λ numbering a b. Steps (Spreads (imports_at numbering old w)) a xs b)

  -- one of them is broken
  abbrev pub SpreadsBreak : Error → Named NodeId → List Ident → Type 0
  SpreadsBreak e before xs = (numbering : Numbering) → Fails (Spreads (imports_at numbering old w)) (SpreadBroken (imports_at numbering old w) e) (giving_of numbering old declared before) xs

  pub gave_none : (before : Named NodeId) (xs : List Ident) → NodesStand old → GivenThere old before → xs ≡ [] → SpreadsGave old before before xs
  gave_none before xs stand there is = subst (SpreadsGave old before before) (sym is) (record { grows = grows_none old stand; there = there; is = λ numbering. refl })

  pub gave_one : (new : Parts) (before after : Named NodeId) (x : Ident) (xs : List Ident) → xs ≡ x ∷ [] → Gave old new before after declared (λ numbering a b. Spreads (imports_at numbering old w) a x b) → SpreadsGave new before after xs
  gave_one new before after x xs is p = subst (SpreadsGave new before after) (sym is) (record { grows = p.grows; there = p.there; is = λ numbering. (giving_of numbering new declared after, p.is numbering, refl) })

  pub breaks_one : (before : Named NodeId) (x : Ident) (xs : List Ident) (e : Error) → xs ≡ x ∷ []
      → ((numbering : Numbering) (earlier : List Ident) → SpreadBroken (imports_at numbering old w) e (giving_of numbering old declared before) earlier x) → SpreadsBreak e before xs
  breaks_one before x xs e is h = subst (SpreadsBreak e before) (sym is)
      (λ numbering. record { before = []; failing = x; after = []; split = refl; reached = giving_of numbering old declared before; leads = refl; breaks = h numbering [] })

pub not_spread : (a : CodeArgument) → ((x : CodeIdent) → a ≡ Spread x → ⊥) → spread_of (argument_of a) ≡ []
not_spread (Inferred x) h = refl
not_spread (Spread x) h = absurd (h x refl)
not_spread (Named' name span primary postfix) h = refl
not_spread (Fill s) h = refl

-- ---- in order

spreads_flat : (xs : List InstantiationArgument) → spreads_of (arguments_from xs) ≡ flat_map spread_of xs
spreads_flat [] = refl
spreads_flat (x ∷ xs) = ap (λ (l : List Ident). spread_of x ++ l) (spreads_flat xs)

flat_join : (xs ys : List InstantiationArgument) → flat_map spread_of (xs ++ ys) ≡ flat_map spread_of xs ++ flat_map spread_of ys
flat_join [] ys = refl
flat_join (x ∷ xs) ys = ap (λ (l : List Ident). spread_of x ++ l) (flat_join xs ys) ∙ sym (append_assoc (spread_of x) (flat_map spread_of xs) (flat_map spread_of ys))

spreads_more : (xs : List InstantiationArgument) (i : ℕ) (d : InstantiationArgument) → i < length xs → spreads_of (arguments_from (take (i + 1) xs)) ≡ spreads_of (arguments_from (take i xs)) ++ spread_of (get_or xs i d)
spreads_more xs i d within =
    spreads_flat (take (i + 1) xs)
    ∙ ap (flat_map spread_of) (take_more xs i d within)
    ∙ flat_join (take i xs) (get_or xs i d ∷ [])
    ∙ ap (λ (l : List Ident). flat_map spread_of (take i xs) ++ l) (append-nil (spread_of (get_or xs i d)))
    ∙ ap (λ (l : List Ident). l ++ spread_of (get_or xs i d)) (sym (spreads_flat (take i xs)))

spreads_split : (xs : List InstantiationArgument) (i : ℕ) (d : InstantiationArgument) → i < length xs
    → spreads_of (arguments_from xs) ≡ spreads_of (arguments_from (take i xs)) ++ (spread_of (get_or xs i d) ++ flat_map spread_of (drop (suc i) xs))
spreads_split xs i d within =
    spreads_flat xs
    ∙ ap (flat_map spread_of) (sym (take-append-drop i xs) ∙ ap (λ (l : List InstantiationArgument). take i xs ++ l) (drop-cons xs i d within))
    ∙ flat_join (take i xs) (get_or xs i d ∷ drop (suc i) xs)
    ∙ ap (λ (l : List Ident). l ++ (spread_of (get_or xs i d) ++ flat_map spread_of (drop (suc i) xs))) (sym (spreads_flat (take i xs)))

steps_join : {S X : Type 0} (step : S → X → S → Type 0) (old : S) (xs ys : List X) (mid new : S) → Steps step old xs mid → Steps step mid ys new → Steps step old (xs ++ ys) new
steps_join {S} step old [] ys mid new p q = subst (λ (m : S). Steps step m ys new) p q
steps_join step old (x ∷ xs) ys mid new p q = (p.0, p.1, steps_join step p.0 xs ys mid new p.2 q)

-- where it doesn't matter what comes before
fails_within : {S X : Type 0} (step : S → X → S → Type 0) (broken : S → List X → X → Type 0) → ((s : S) (a b : List X) (x : X) → broken s a x → broken s b x)
    → (old : S) (xs ys zs : List X) (mid : S) → Steps step old xs mid → Fails step broken mid ys → Fails step broken old (xs ++ (ys ++ zs))
fails_within {S} {X} step broken loose old xs ys zs mid p f = record {
  before = xs ++ f.before;
  failing = f.failing;
  after = f.after ++ zs;
  split =
      ap (λ (l : List X). xs ++ (l ++ zs)) f.split
      ∙ ap (λ (l : List X). xs ++ l) (append_assoc f.before (f.failing ∷ f.after) zs)
      ∙ sym (append_assoc xs f.before (f.failing ∷ (f.after ++ zs)));
  reached = f.reached;
  leads = steps_join step old xs f.before mid f.reached p f.leads;
  breaks = loose f.reached f.before (xs ++ f.before) f.failing f.breaks;
}

pub imports_same : (old new : Parts) (w : WorldId) → GrowsNodes old new → (numbering : Numbering) → imports_at numbering new w ≡ imports_at numbering old w
imports_same old new w g numbering = ap imports_of (entry_same old new g numbering w.0)

pub world_kept : (old new : Parts) (w : WorldId) → GrowsNodes old new → Names old.types (kinds.Component w) → Names new.types (kinds.Component w)
world_kept old new w g h = subst (λ (es : List Entry). Names es (kinds.Component w)) (sym (ap (λ (p : Parts). p.types) g.same)) h

module _ (old mid : Parts) (w : WorldId) (declared : Named ℕ) (before between : Named NodeId) (ys : List CodeArgument) (i : ℕ) (y : CodeArgument) (within : i < length ys) (is : y ≡ get_or ys i y)
    (p : SpreadsGave old w declared mid before between (spreads_of (arguments_from (take i (map argument_of ys))))) where
  inside : i < length (map argument_of ys)
  inside = subst (λ (k : ℕ). i < k) (sym (length-map ys argument_of)) within

  here : spread_of (get_or (map argument_of ys) i (argument_of y)) ≡ spread_of (argument_of y)
  here = ap spread_of (get_or-map argument_of ys i y (argument_of y) within) ∙ ap (λ (a : CodeArgument). spread_of (argument_of a)) (sym is)

  pub spreads_next : (new : Parts) (after : Named NodeId) → SpreadsGave mid w declared new between after (spread_of (argument_of y))
      → SpreadsGave old w declared new before after (spreads_of (arguments_from (take (i + 1) (map argument_of ys))))
  spreads_next new after q = record {
    grows = grows_on old mid new p.grows q.grows;
    there = q.there;
    is = λ numbering.
        let now : List Ident = spread_of (argument_of y) in
        let so_far : List Ident = spreads_of (arguments_from (take i (map argument_of ys))) in
        let all : spreads_of (arguments_from (take (i + 1) (map argument_of ys))) ≡ so_far ++ now = spreads_more (map argument_of ys) i (argument_of y) inside ∙ ap (λ (l : List Ident). so_far ++ l) here in
        subst (λ (l : List Ident). Steps (Spreads (imports_at numbering old w)) (giving_of numbering old declared before) l (giving_of numbering new declared after)) (sym all)
        (steps_join (Spreads (imports_at numbering old w)) (giving_of numbering old declared before) so_far now (giving_of numbering mid declared between) (giving_of numbering new declared after) (p.is numbering)
        (subst (λ (l : Named Meaning). Steps (Spreads l) (giving_of numbering mid declared between) now (giving_of numbering new declared after)) (imports_same old mid w p.grows numbering) (q.is numbering)));
  }

  pub spreads_break : (e : Error) → SpreadsBreak mid w declared e between (spread_of (argument_of y)) → SpreadsBreak old w declared e before (spreads_of (arguments_from (map argument_of ys)))
  spreads_break e h numbering =
      let imports : Named Meaning = imports_at numbering old w in
      let now : List Ident = spread_of (argument_of y) in
      let so_far : List Ident = spreads_of (arguments_from (take i (map argument_of ys))) in
      let rest : List Ident = flat_map spread_of (drop (suc i) (map argument_of ys)) in
      let all : spreads_of (arguments_from (map argument_of ys)) ≡ so_far ++ (now ++ rest) = spreads_split (map argument_of ys) i (argument_of y) inside ∙ ap (λ (l : List Ident). so_far ++ (l ++ rest)) here in
      subst (λ (l : List Ident). Fails (Spreads imports) (SpreadBroken imports e) (giving_of numbering old declared before) l) (sym all)
      (fails_within (Spreads imports) (SpreadBroken imports e) (λ s a b x broken. broken) (giving_of numbering old declared before) so_far now rest (giving_of numbering mid declared between) (p.is numbering)
      (subst (λ (l : Named Meaning). Fails (Spreads l) (SpreadBroken l e) (giving_of numbering mid declared between) now) (imports_same old mid w p.grows numbering) (h numbering)))
