-- The trees of values that hold themselves.
use Rattle.wac_ast_grammar.specs.Walk.{walk_ty, walk_types}
use Rattle.wac_printer.specs.Sliced.{printable}
use Rattle.wac_printer_layout.specs.Bare.{bare}
use Rattle.wac_printer.proofs.Common.{◌≡◌, ℕ, ◌≤◌, ◌<◌, List, [], ◌∷◌, ◌++◌, codes, map, subst, Global, get_or, length, zero, suc, refl, ap, ◌∙◌, arith, Vec, All, flat_map, token, space, ty_layout, types_layout, further_types_layout, Span, types_from, ty_of, types_of_row}
use Rattle.wac_printer_layout.specs.Parts.{joined}
use mathlib.Core.Former.{Count}
use denote.Param.Weighed.{most}
use Rattle.wac_ast_grammar.specs.Tree as tree
use Rattle.wac_ast_types.specs.declared.types.«Type».TheViews.{sized-Tuple}
use Rattle.wac_ast_types.specs.declared.types.«Type».{«Type», Tuple, Tuple', Row_of-Type, end_of-Type, more_of-Type, items-the_row-Type, items_hidden-the_row-Type-0, size-Type}

of_row : (n : _) (row : Row_of-Type n) → types_of_row row ≡ types_from (map ty_of (items-the_row-Type n row))
of_row _ end_of-Type = refl
of_row _ (more_of-Type x rest) = ap (tree.Types.more (ty_of x)) (of_row _ rest)

pub most_at : {X : Type 0} (f : X → ℕ) (xs : List X) (i : ℕ) (d : X) → i < length xs → f (get_or xs i d) ≤ most f xs
most_at f [] i d h = absurd (omega arith)
most_at f (x ∷ xs) zero d h = omega arith
most_at f (x ∷ xs) (suc i) d h = omega (arith, most_at f xs i d (omega arith))

pub most_rest : {X : Type 0} (f : X → ℕ) (xs : List X) (x : X) (rest : List X) → xs ≡ x ∷ rest → most f rest ≤ most f xs
most_rest f xs x rest e = omega (arith, ap (most f) e)

packed : «Type» → (n : Count) × Row_of-Type n
packed (Tuple' shape row s) = (_, row)
packed _ = (_, end_of-Type)

pub tuple_is : (types : Vec «Type» Global) (s : Span) → ty_of (Tuple types s) ≡ tree.Ty.tuple (types_from (map ty_of types.items)) s
unfolding packed
tuple_is types s =
    let row = packed (Tuple types s) in
    ap (λ l. tree.Ty.tuple l s) (of_row row.0 row.1 ∙ ap (λ l. types_from (map ty_of l)) (items_hidden-the_row-Type-0 types))

types_sliced : (source : List ℕ) (xs : List «Type») → walk_types (printable source) (types_from (map ty_of xs)) → All (λ x. walk_ty (printable source) (ty_of x)) xs
types_sliced source [] h i d k = absurd (omega arith)
types_sliced source (x ∷ xs) h zero d k = h.0
types_sliced source (x ∷ xs) h (suc i) d k = types_sliced source xs h.1 i d (omega arith)

pub tuple_sliced : (source : List ℕ) (ty : «Type») (types : Vec «Type» Global) (s : Span) → ty ≡ Tuple types s → walk_ty (printable source) (ty_of ty) → All (λ x. walk_ty (printable source) (ty_of x)) types.items
tuple_sliced source ty types s e h = types_sliced source types.items (subst (walk_ty (printable source)) (ap ty_of e ∙ tuple_is types s) h)

further : (source : List ℕ) (xs : List «Type») → further_types_layout (walk_types (bare source) (types_from (map ty_of xs))) ≡ flat_map (λ x. (token (codes ",") ∷ space ∷ []) ++ ty_layout (walk_ty (bare source) (ty_of x))) xs
further source [] = refl
further source (x ∷ xs) = ap (λ r. token (codes ",") ∷ space ∷ (ty_layout (walk_ty (bare source) (ty_of x)) ++ r)) (further source xs)

types_joined : (source : List ℕ) (xs : List «Type») → types_layout (walk_types (bare source) (types_from (map ty_of xs))) ≡ joined (λ x. ty_layout (walk_ty (bare source) (ty_of x))) xs
unfolding joined
types_joined source [] = refl
types_joined source (x ∷ xs) = ap (λ r. ty_layout (walk_ty (bare source) (ty_of x)) ++ r) (further source xs)

pub tuple_printed : (source : List ℕ) (ty : «Type») (types : Vec «Type» Global) (s : Span) → ty ≡ Tuple types s
    → ty_layout (walk_ty (bare source) (ty_of ty)) ≡ token (codes "tuple") ∷ token (codes "<") ∷ (joined (λ x. ty_layout (walk_ty (bare source) (ty_of x))) types.items ++ token (codes ">") ∷ [])
tuple_printed source ty types s e =
    ap (λ x. ty_layout (walk_ty (bare source) x)) (ap ty_of e ∙ tuple_is types s)
    ∙ ap (λ r. token (codes "tuple") ∷ token (codes "<") ∷ (r ++ token (codes ">") ∷ [])) (types_joined source types.items)

pub size_tuple : (types : Vec «Type» Global) (s : Span) → most size-Type types.items < size-Type (Tuple types s)
size_tuple types s = omega (arith, sized-Tuple types s)
