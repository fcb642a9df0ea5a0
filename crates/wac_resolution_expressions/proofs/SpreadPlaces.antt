-- Places of spreads that give a name.
use Rattle.wac_resolution_expressions.proofs.Common.{◌≡◌, ◌∙◌, ◌+◌, ◌<◌, ℕ, suc, List, [], ◌∷◌, ◌++◌, Option, Some, None, Bool, true, false, cond, refl, sym, ap, subst, map, take, drop, length, get_or, option_map, option_and_then, flat_map, bytes_eq, length-map, get_or-map, take_more, take-append-drop, drop-cons, Span, Ident, arguments_from, ItemKind, InterfaceId, Meaning, Named, look_up, exports_of, Names, argument_of, Parts, export_kind, means, entry_means, EntriesMean, Numbering, spread_places, Composition, spread_of, spreads_of, instance_of, instance_at, read_found, IsInstance, composition_of, kind_in, is_instance, no_instance, export_meant, kind_means}
use Rattle.std.proofs.lemmas.Grind.{flat_map-append}
use Rattle.wac_ast_grammar.specs.Tree.{InstantiationArgument}
use Rattle.wac_graph_types.specs.declared.kind.ItemKind.TheVariants as kinds
use Rattle.wac_ast_statements.specs.declared.expr.InstantiationArgument.{InstantiationArgument as CodeArgument}
use Rattle.wac_resolution_expressions.specs.Places.{exports_at}

-- ---- a node

-- what an instance exports under a name, read at a span
module _ (g : Parts) (node : ℕ) (i : InterfaceId) (name : List ℕ) (span : Span) (kind : kind_in g.nodes node ≡ Some (kinds.Instance i)) (named : Names g.types (kinds.Instance i)) (law : EntriesMean g) where
  read_at : (r : Option ItemKind) → r ≡ export_kind g node name → (numbering : Numbering) (declared : Named ℕ)
      → look_up name (exports_at span (instance_at (composition_of numbering g declared) node)) ≡ option_map (λ (m : Meaning). span) (option_map (means numbering g) r)
  read_at r is numbering declared =
      let h : IsInstance g node i = is_instance g node i kind named law in
      ap (λ (o : Option Meaning). look_up name (exports_at span o)) (h.is numbering declared)
      ∙ read_found (λ (m : Meaning). span) name (exports_of (entry_means numbering g i.0))
      ∙ ap (option_map (λ (m : Meaning). span)) (export_meant g node i name h numbering ∙ ap (option_map (means numbering g)) (sym is))

  pub exported_here : (k : ItemKind) → Some k ≡ export_kind g node name → (numbering : Numbering) (declared : Named ℕ) → look_up name (exports_at span (instance_at (composition_of numbering g declared) node)) ≡ Some span
  exported_here k is numbering declared = read_at (Some k) is numbering declared

  pub not_exported_here : None ≡ export_kind g node name → (numbering : Numbering) (declared : Named ℕ) → look_up name (exports_at span (instance_at (composition_of numbering g declared) node)) ≡ None
  not_exported_here is numbering declared = read_at None is numbering declared

pub exports_nothing : (g : Parts) (node : ℕ) (k : ItemKind) (name : List ℕ) (span : Span) → kind_in g.nodes node ≡ Some k → ((i : InterfaceId) → k ≡ kinds.Instance i → ⊥)
    → (numbering : Numbering) (declared : Named ℕ) → look_up name (exports_at span (instance_at (composition_of numbering g declared) node)) ≡ None
exports_nothing g node k name span kind none numbering declared =
    ap (λ (o : Option Meaning). look_up name (exports_at span o)) (ap instance_of (kind_means numbering g node k kind) ∙ no_instance (entry_means numbering g) k none)

-- ---- a spread

spread_read : (span : Span) (o : Option Meaning) → elim o as (λ _. Named Span) [ None ↦ [] | Some i ↦ map (λ (x : List ℕ × Meaning). (x.0, span)) (exports_of i) ] ≡ exports_at span o
spread_read span None = refl
spread_read span (Some i) = refl

pub spread_at : (c : Composition) (id : Ident) (name : List ℕ) (node : ℕ) (r : Option Span) → look_up id.string c.declared ≡ Some node → look_up name (exports_at id.span (instance_at c node)) ≡ r → look_up name (spread_places c id) ≡ r
spread_at c id name node r is read =
    ap (λ (o : Option ℕ). look_up name (elim (option_and_then (instance_at c) o) as (λ _. Named Span) [ None ↦ [] | Some i ↦ map (λ (x : List ℕ × Meaning). (x.0, id.span)) (exports_of i) ])) is
    ∙ ap (look_up name) (spread_read id.span (instance_at c node)) ∙ read

pub spread_nowhere : (c : Composition) (id : Ident) (name : List ℕ) → look_up id.string c.declared ≡ None → look_up name (spread_places c id) ≡ None
spread_nowhere c id name is = ap (λ (o : Option ℕ). look_up name (elim (option_and_then (instance_at c) o) as (λ _. Named Span) [ None ↦ [] | Some i ↦ map (λ (x : List ℕ × Meaning). (x.0, id.span)) (exports_of i) ])) is

-- ---- in order

-- where a name isn't found in the first list, the rest decides
pub after_none : {X : Type 0} (name : List ℕ) (xs ys : Named X) → look_up name xs ≡ None → look_up name (xs ++ ys) ≡ look_up name ys
after_none name [] ys h = refl
after_none {X} name (x ∷ xs) ys h = go (bytes_eq name x.0) (after_none name xs ys) h
  where
    go : (b : Bool) → (look_up name xs ≡ None → look_up name (xs ++ ys) ≡ look_up name ys) → cond b (Some x.1) (look_up name xs) ≡ None → cond b (Some x.1) (look_up name (xs ++ ys)) ≡ look_up name ys
    go true later is = absurd (cc)
    go false later is = later is

pub first_found : {X : Type 0} (name : List ℕ) (xs ys : Named X) (v : X) → look_up name xs ≡ Some v → look_up name (xs ++ ys) ≡ Some v
first_found name [] ys v h = absurd (cc)
first_found {X} name (x ∷ xs) ys v h = go (bytes_eq name x.0) (first_found name xs ys v) h
  where
    go : (b : Bool) → (look_up name xs ≡ Some v → look_up name (xs ++ ys) ≡ Some v) → cond b (Some x.1) (look_up name xs) ≡ Some v → cond b (Some x.1) (look_up name (xs ++ ys)) ≡ Some v
    go true later is = is
    go false later is = later is

module _ (c : Composition) (name : List ℕ) where
  -- where the spreads among arguments are
  abbrev pub places : List InstantiationArgument → Named Span
  places xs = flat_map (spread_places c) (spreads_of (arguments_from xs))

  abbrev pub place_of : InstantiationArgument → Named Span
  place_of x = flat_map (spread_places c) (spread_of x)

  places_first : (x : InstantiationArgument) (xs : List InstantiationArgument) → places (x ∷ xs) ≡ place_of x ++ places xs
  places_first x xs = flat_map-append (spread_places c) (spread_of x) (spreads_of (arguments_from xs))

  rest_only : (xs ys : List InstantiationArgument) → look_up name (places xs) ≡ None → look_up name (places (xs ++ ys)) ≡ look_up name (places ys)
  rest_only [] ys h = refl
  rest_only (x ∷ xs) ys h = ap (look_up name) (places_first x (xs ++ ys)) ∙ go (look_up name (place_of x)) (rest_only xs ys) refl (ap (look_up name) (sym (places_first x xs)) ∙ h)
    where
      go : (o : Option Span) → (look_up name (places xs) ≡ None → look_up name (places (xs ++ ys)) ≡ look_up name (places ys)) → look_up name (place_of x) ≡ o → look_up name (place_of x ++ places xs) ≡ None
          → look_up name (place_of x ++ places (xs ++ ys)) ≡ look_up name (places ys)
      go (Some s) later is none = absurd (let found : look_up name (place_of x ++ places xs) ≡ Some s = first_found name (place_of x) (places xs) s is in cc)
      go None later is none = after_none name (place_of x) (places (xs ++ ys)) is ∙ later (sym (after_none name (place_of x) (places xs) is) ∙ none)

  module _ (ys : List CodeArgument) (i : ℕ) (y : CodeArgument) (within : i < length ys) (is : y ≡ get_or ys i y) where
    inside : i < length (map argument_of ys)
    inside = subst (λ (k : ℕ). i < k) (sym (length-map ys argument_of)) within

    here : get_or (map argument_of ys) i (argument_of y) ≡ argument_of y
    here = get_or-map argument_of ys i y (argument_of y) within ∙ ap argument_of (sym is)

    pub open_next : look_up name (places (take i (map argument_of ys))) ≡ None → look_up name (place_of (argument_of y)) ≡ None → look_up name (places (take (i + 1) (map argument_of ys))) ≡ None
    open_next h none =
        ap (λ (l : List InstantiationArgument). look_up name (places l)) (take_more (map argument_of ys) i (argument_of y) inside ∙ ap (λ (x : InstantiationArgument). take i (map argument_of ys) ++ x ∷ []) here)
        ∙ rest_only (take i (map argument_of ys)) (argument_of y ∷ []) h
        ∙ ap (look_up name) (places_first (argument_of y) [])
        ∙ after_none name (place_of (argument_of y)) [] none

    pub found_here : (s : Span) → look_up name (places (take i (map argument_of ys))) ≡ None → look_up name (place_of (argument_of y)) ≡ Some s → look_up name (places (map argument_of ys)) ≡ Some s
    found_here s h found =
        let rest : List InstantiationArgument = drop (suc i) (map argument_of ys) in
        ap (λ (l : List InstantiationArgument). look_up name (places l))
        (sym (take-append-drop i (map argument_of ys)) ∙ ap (λ (l : List InstantiationArgument). take i (map argument_of ys) ++ l) (drop-cons (map argument_of ys) i (argument_of y) inside ∙ ap (λ (x : InstantiationArgument). x ∷ rest) here))
        ∙ rest_only (take i (map argument_of ys)) (argument_of y ∷ rest) h
        ∙ ap (look_up name) (places_first (argument_of y) rest)
        ∙ first_found name (place_of (argument_of y)) (places rest) s found
