-- Where the arguments that aren't spreads are.
use Rattle.wac_resolution_expressions.proofs.Common.{◌≡◌, ◌∙◌, ◌+◌, ◌<◌, ℕ, suc, List, [], ◌∷◌, ◌++◌, Option, Some, None, Bool, true, false, cond, refl, sym, ap, subst, map, take, drop, length, get_or, bytes_eq, length-map, get_or-map, take_more, take-append-drop, drop-cons, Span, arguments_from, Meaning, Named, look_up, argument_of, argument_place, own_places, Composition}
use Rattle.wac_ast_grammar.specs.Tree.{InstantiationArgument}
use Rattle.wac_ast_statements.specs.declared.expr.InstantiationArgument.{InstantiationArgument as CodeArgument}

-- where a name isn't found in the first list, the rest decides
after_none : {X : Type 0} (name : List ℕ) (xs ys : Named X) → look_up name xs ≡ None → look_up name (xs ++ ys) ≡ look_up name ys
after_none name [] ys h = refl
after_none {X} name (x ∷ xs) ys h = go (bytes_eq name x.0) (after_none name xs ys) h
  where
    go : (b : Bool) → (look_up name xs ≡ None → look_up name (xs ++ ys) ≡ look_up name ys) → cond b (Some x.1) (look_up name xs) ≡ None → cond b (Some x.1) (look_up name (xs ++ ys)) ≡ look_up name ys
    go true later is = absurd (cc)
    go false later is = later is

first_found : {X : Type 0} (name : List ℕ) (xs ys : Named X) (v : X) → look_up name xs ≡ Some v → look_up name (xs ++ ys) ≡ Some v
first_found name [] ys v h = absurd (cc)
first_found {X} name (x ∷ xs) ys v h = go (bytes_eq name x.0) (first_found name xs ys v) h
  where
    go : (b : Bool) → (look_up name xs ≡ Some v → look_up name (xs ++ ys) ≡ Some v) → cond b (Some x.1) (look_up name xs) ≡ Some v → cond b (Some x.1) (look_up name (xs ++ ys)) ≡ Some v
    go true later is = is
    go false later is = later is

module _ (c : Composition) (imports : Named Meaning) (name : List ℕ) where
  -- the first arguments have no such place
  abbrev Open : List InstantiationArgument → Type 0
  Open xs = look_up name (own_places c imports (arguments_from xs)) ≡ None

  rest_only : (xs ys : List InstantiationArgument) → Open xs → look_up name (own_places c imports (arguments_from (xs ++ ys))) ≡ look_up name (own_places c imports (arguments_from ys))
  rest_only [] ys h = refl
  rest_only (x ∷ xs) ys h = go (look_up name (argument_place c imports x)) (rest_only xs ys) refl
    where
      go : (o : Option Span) → (Open xs → look_up name (own_places c imports (arguments_from (xs ++ ys))) ≡ look_up name (own_places c imports (arguments_from ys)))
          → look_up name (argument_place c imports x) ≡ o → look_up name (own_places c imports (arguments_from (x ∷ (xs ++ ys)))) ≡ look_up name (own_places c imports (arguments_from ys))
      go (Some s) later is = absurd (let found : look_up name (own_places c imports (arguments_from (x ∷ xs))) ≡ Some s = first_found name (argument_place c imports x) (own_places c imports (arguments_from xs)) s is in cc)
      go None later is =
          after_none name (argument_place c imports x) (own_places c imports (arguments_from (xs ++ ys))) is
          ∙ later (sym (after_none name (argument_place c imports x) (own_places c imports (arguments_from xs)) is) ∙ h)

  module _ (ys : List CodeArgument) (i : ℕ) (y : CodeArgument) (within : i < length ys) (is : y ≡ get_or ys i y) where
    inside : i < length (map argument_of ys)
    inside = subst (λ (k : ℕ). i < k) (sym (length-map ys argument_of)) within

    here : get_or (map argument_of ys) i (argument_of y) ≡ argument_of y
    here = get_or-map argument_of ys i y (argument_of y) within ∙ ap argument_of (sym is)

    pub open_next : look_up name (own_places c imports (arguments_from (take i (map argument_of ys)))) ≡ None → look_up name (argument_place c imports (argument_of y)) ≡ None
        → look_up name (own_places c imports (arguments_from (take (i + 1) (map argument_of ys)))) ≡ None
    open_next h none =
        ap (λ (l : List InstantiationArgument). look_up name (own_places c imports (arguments_from l))) (take_more (map argument_of ys) i (argument_of y) inside)
        ∙ rest_only (take i (map argument_of ys)) (get_or (map argument_of ys) i (argument_of y) ∷ []) h
        ∙ after_none name (argument_place c imports (get_or (map argument_of ys) i (argument_of y))) [] (ap (λ (a : InstantiationArgument). look_up name (argument_place c imports a)) here ∙ none)

    pub found_here : (s : Span) → look_up name (own_places c imports (arguments_from (take i (map argument_of ys)))) ≡ None → look_up name (argument_place c imports (argument_of y)) ≡ Some s
        → look_up name (own_places c imports (arguments_from (map argument_of ys))) ≡ Some s
    found_here s h found =
        ap (λ (l : List InstantiationArgument). look_up name (own_places c imports (arguments_from l)))
        (sym (take-append-drop i (map argument_of ys)) ∙ ap (λ (l : List InstantiationArgument). take i (map argument_of ys) ++ l) (drop-cons (map argument_of ys) i (argument_of y) inside))
        ∙ rest_only (take i (map argument_of ys)) (get_or (map argument_of ys) i (argument_of y) ∷ drop (suc i) (map argument_of ys)) h
        ∙ first_found name (argument_place c imports (get_or (map argument_of ys) i (argument_of y))) (own_places c imports (arguments_from (drop (suc i) (map argument_of ys)))) s
        (ap (λ (a : InstantiationArgument). look_up name (argument_place c imports a)) here ∙ found)
