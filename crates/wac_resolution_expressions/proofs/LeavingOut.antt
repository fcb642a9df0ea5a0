-- Imports that are left out, unless there is a fill.
use Rattle.wac_resolution_expressions.proofs.Common.{◌≡◌, ◌∙◌, ◌+◌, ◌<◌, ◌||◌, ℕ, suc, List, [], ◌∷◌, ◌++◌, Option, Some, None, Bool, true, false, inl, inr, refl, sym, ap, subst, map, take, drop, length, get_or, length-map, get_or-map, take_more, take-append-drop, drop-cons, ItemKind, WorldId, Meaning, world_imports, Named, items_mean, Names, PackageName, Arguments, arguments_from, argument_of, Parts, entry_means, EntriesMean, Numbering, Error, missing_instantiation_arg, is_fill, has_fill, left_out, IsComplete}
use Rattle.wac_graph_types.specs.declared.kind.ItemKind.TheVariants as kinds
use Rattle.wac_ast_grammar.specs.Tree.{InstantiationArgument}
use Rattle.wac_ast_statements.specs.declared.expr.InstantiationArgument.{InstantiationArgument as CodeArgument}
use Rattle.wac_resolution_expressions.specs.Arguments.{first_name}
use Rattle.wac_resolution_expressions.specs.Incomplete.{IsIncomplete}
use Rattle.wac_resolution_expressions.specs.Spreads.{imports_at}
use Rattle.wac_resolution_expressions.proofs.Imports.{imports_meant}

-- ---- fills

no_fill_more : (xs : List InstantiationArgument) (x : InstantiationArgument) → has_fill (arguments_from xs) ≡ false → is_fill x ≡ false → has_fill (arguments_from (xs ++ x ∷ [])) ≡ false
no_fill_more [] x h here = ap (λ (b : Bool). b || false) here
no_fill_more (y ∷ xs) x h here = go (is_fill y) (λ later. no_fill_more xs x later here) h
  where
    go : (b : Bool) → (has_fill (arguments_from xs) ≡ false → has_fill (arguments_from (xs ++ x ∷ [])) ≡ false) → (b || has_fill (arguments_from xs)) ≡ false → (b || has_fill (arguments_from (xs ++ x ∷ []))) ≡ false
    go true more is = absurd (cc)
    go false more is = more is

fill_within : (xs ys : List InstantiationArgument) (x : InstantiationArgument) → is_fill x ≡ true → has_fill (arguments_from (xs ++ x ∷ ys)) ≡ true
fill_within [] ys x here = ap (λ (b : Bool). b || has_fill (arguments_from ys)) here
fill_within (y ∷ xs) ys x here = go (is_fill y) (fill_within xs ys x here)
  where
    go : (b : Bool) → has_fill (arguments_from (xs ++ x ∷ ys)) ≡ true → (b || has_fill (arguments_from (xs ++ x ∷ ys))) ≡ true
    go true later = refl
    go false later = later

module _ (ys : List CodeArgument) (i : ℕ) (y : CodeArgument) (within : i < length ys) (is : y ≡ get_or ys i y) where
  inside : i < length (map argument_of ys)
  inside = subst (λ (k : ℕ). i < k) (sym (length-map ys argument_of)) within

  here : get_or (map argument_of ys) i (argument_of y) ≡ argument_of y
  here = get_or-map argument_of ys i y (argument_of y) within ∙ ap argument_of (sym is)

  pub no_fill_next : has_fill (arguments_from (take i (map argument_of ys))) ≡ false → is_fill (argument_of y) ≡ false → has_fill (arguments_from (take (i + 1) (map argument_of ys))) ≡ false
  no_fill_next h none =
      ap (λ (l : List InstantiationArgument). has_fill (arguments_from l)) (take_more (map argument_of ys) i (argument_of y) inside)
      ∙ no_fill_more (take i (map argument_of ys)) (get_or (map argument_of ys) i (argument_of y)) h (ap is_fill here ∙ none)

  pub fill_found : is_fill (argument_of y) ≡ true → has_fill (arguments_from (map argument_of ys)) ≡ true
  fill_found found =
      ap (λ (l : List InstantiationArgument). has_fill (arguments_from l))
      (sym (take-append-drop i (map argument_of ys)) ∙ ap (λ (l : List InstantiationArgument). take i (map argument_of ys) ++ l) (drop-cons (map argument_of ys) i (argument_of y) inside))
      ∙ fill_within (take i (map argument_of ys)) (drop (suc i) (map argument_of ys)) (get_or (map argument_of ys) i (argument_of y)) (ap is_fill here ∙ found)

-- ---- left out

pub left_here : (g : Parts) (w : WorldId) (given : Named ℕ) (all : Named ItemKind) (r : Option (List ℕ)) → EntriesMean g → Names g.types (kinds.Component w) → all ≡ world_imports g.types w.0
    → ((f : ℕ → Meaning) → r ≡ first_name (left_out (items_mean f all) given)) → (numbering : Numbering) → r ≡ first_name (left_out (imports_at numbering g w) given)
left_here g w given all r law named is said numbering =
    said (entry_means numbering g) ∙ ap (λ (l : Named Meaning). first_name (left_out l given)) (sym (imports_meant g w law named numbering ∙ ap (items_mean (entry_means numbering g)) (sym is)))

none_first : (l : Named Meaning) → None ≡ first_name l → l ≡ []
none_first [] is = refl
none_first (x ∷ l) is = absurd (cc)

some_first : (l : Named Meaning) (name : List ℕ) → Some name ≡ first_name l → (i : List ℕ × Meaning) × (others : Named Meaning) × (l ≡ i ∷ others) × (i.0 ≡ name)
some_first [] name is = absurd (cc)
some_first (x ∷ l) name is = (x, l, refl, cc)

pub complete_filled : (g : Parts) (w : WorldId) (given : Named ℕ) (b : Bool) → b ≡ true → (numbering : Numbering) → IsComplete (imports_at numbering g w) b given
complete_filled g w given b is numbering = inl is

pub complete_given : (g : Parts) (w : WorldId) (given : Named ℕ) (b : Bool) → ((numbering : Numbering) → None ≡ first_name (left_out (imports_at numbering g w) given)) → (numbering : Numbering) → IsComplete (imports_at numbering g w) b given
complete_given g w given b none numbering = inr (none_first (left_out (imports_at numbering g w) given) (none numbering))

pub incomplete : (g : Parts) (w : WorldId) (x : PackageName) (args : Arguments) (given : Named ℕ) (name : List ℕ) (e : Error) → has_fill args ≡ false → ((numbering : Numbering) → Some name ≡ first_name (left_out (imports_at numbering g w) given))
    → e ≡ missing_instantiation_arg name x.string x.span → IsIncomplete g w x args given e
incomplete g w x args given name e none left error_is = (
  none,
  λ numbering.
      let f = some_first (left_out (imports_at numbering g w) given) name (left numbering) in
      (f.0, f.1, f.2, error_is ∙ ap (λ (n : List ℕ). missing_instantiation_arg n x.string x.span) (sym f.3)),
)
