-- The arguments of an instantiation, printed from the values.
use Rattle.wac_ast_grammar.specs.Walk.{walk_arguments, walk_expr, walk_instantiation_argument, walk_instantiation_argument_name, walk_primary_expr}
use Rattle.wac_printer.specs.Sliced.{printable}
use Rattle.wac_printer_layout.specs.Bare.{bare}
use Rattle.wac_printer.proofs.Common.{rules, ◌≡◌, ℕ, Bool, true, false, List, [], ◌∷◌, ◌++◌, codes, map, length, append_assoc, refl, sym, ap, ◌∙◌, zero, suc, arith, ◌<◌, ◌≤◌, subst, All, flat_map, Span, Arguments, arguments_from, argument_name_of, argument_of, expr_of, primary_expr_of, InstantiationArgument, Fill, Named, PrimaryExpr, Nested, NestedExpr, out-NestedExpr, nested_out, Piece, token, line, deeper, space, newline, argument_name_layout, braced_layout, comma_layout, ending_layout}
use Rattle.wac_printer_layout.specs.ExpressionLayout.{argument_layout, arguments_layout, expr_layout, primary_expr_layout}
use Rattle.std.specs.Bool.{◌==◌}
use Rattle.wac_ast_grammar.specs.Tree as tree
use denote.Param.Weighed.{most}
use Rattle.wac_ast_statements.specs.declared.expr.NamedInstantiationArgument.{NamedInstantiationArgument}
use Rattle.wac_printer.specs.Arguments.{argument_line_layout, braces_layout, is_lone_fill}

pub lone : (b : Bool) (xs rest : List InstantiationArgument) (s : Span) → xs ≡ Fill s ∷ rest → b ≡ (length rest == 0) → b ≡ is_lone_fill (arguments_from (map argument_of xs))
lone b xs [] s e h = h ∙ ap (λ ys. is_lone_fill (arguments_from (map argument_of ys))) (sym e)
lone b xs (y ∷ rest) s e h = h ∙ more ∙ ap (λ ys. is_lone_fill (arguments_from (map argument_of ys))) (sym e)
  where
    more : (length (y ∷ rest) == 0) ≡ false
    more = search rules

-- what is required of each argument
pub arguments_sliced : (source : List ℕ) (xs : List InstantiationArgument) → walk_arguments (printable source) (arguments_from (map argument_of xs)) → All (λ x. walk_instantiation_argument (printable source) (argument_of x)) xs
arguments_sliced source [] h i d k = absurd (omega arith)
arguments_sliced source (x ∷ xs) h zero d k = h.0
arguments_sliced source (x ∷ xs) h (suc i) d k = arguments_sliced source xs h.1 i d (omega arith)

-- how an argument's line ends does not depend on spellings
pub ending_bare : (source : List ℕ) (is_last : Bool) (x : tree.InstantiationArgument) → ending_layout is_last (walk_instantiation_argument (bare source) x) ≡ ending_layout is_last x
ending_bare source true (tree.InstantiationArgument.fill s) = refl
ending_bare source true (tree.InstantiationArgument.spread x) = refl
ending_bare source true (tree.InstantiationArgument.named n x) = refl
ending_bare source true (tree.InstantiationArgument.inferred x) = refl
ending_bare source false (tree.InstantiationArgument.fill s) = refl
ending_bare source false (tree.InstantiationArgument.spread x) = refl
ending_bare source false (tree.InstantiationArgument.named n x) = refl
ending_bare source false (tree.InstantiationArgument.inferred x) = refl

ending_last : (x : tree.InstantiationArgument) → comma_layout x tree.Arguments.none ++ newline ∷ [] ≡ ending_layout true x
ending_last (tree.InstantiationArgument.fill s) = refl
ending_last (tree.InstantiationArgument.spread x) = refl
ending_last (tree.InstantiationArgument.named n x) = refl
ending_last (tree.InstantiationArgument.inferred x) = refl

comma_more : (x y : tree.InstantiationArgument) (ys : Arguments) → comma_layout x (tree.Arguments.more y ys) ≡ token (codes ",") ∷ []
comma_more (tree.InstantiationArgument.fill s) y ys = refl
comma_more (tree.InstantiationArgument.spread x) y ys = refl
comma_more (tree.InstantiationArgument.named n x) y ys = refl
comma_more (tree.InstantiationArgument.inferred x) y ys = refl

ending_more : (x : tree.InstantiationArgument) → ending_layout false x ≡ token (codes ",") ∷ newline ∷ []
ending_more (tree.InstantiationArgument.fill s) = refl
ending_more (tree.InstantiationArgument.spread x) = refl
ending_more (tree.InstantiationArgument.named n x) = refl
ending_more (tree.InstantiationArgument.inferred x) = refl

abbrev pub bared : List ℕ → List InstantiationArgument → Arguments
bared source xs = walk_arguments (bare source) (arguments_from (map argument_of xs))

-- the line of one argument of a source
abbrev pub its_line : Bool → List ℕ → ℕ → InstantiationArgument → List Piece
its_line is_last source depth x = argument_line_layout depth is_last (walk_instantiation_argument (bare source) (argument_of x))

pub no_arguments : (source : List ℕ) (depth : ℕ) (xs : List InstantiationArgument) → xs ≡ [] → arguments_layout depth (bared source xs) ≡ []
unfolding arguments_layout
no_arguments source depth xs e = ap (λ ys. arguments_layout depth (bared source ys)) e

first_of_more : (source : List ℕ) (depth : ℕ) (x y : InstantiationArgument) (ys : List InstantiationArgument)
    → arguments_layout depth (bared source (x ∷ y ∷ ys)) ≡ its_line false source depth x ++ arguments_layout depth (bared source (y ∷ ys))
unfolding arguments_layout
first_of_more source depth x y ys =
    let b = walk_instantiation_argument (bare source) (argument_of x) in
    let r = arguments_layout depth (bared source (y ∷ ys)) in
    let c : comma_layout b (bared source (y ∷ ys)) ++ newline ∷ r ≡ ending_layout false b ++ r = ap (λ k. k ++ newline ∷ r) (comma_more b (walk_instantiation_argument (bare source) (argument_of y)) (bared source ys)) ∙ ap (λ k. k ++ r) (sym (ending_more b)) in
    ap (λ k. line depth ∷ (argument_layout depth b ++ k)) c ∙ ap (λ k. line depth ∷ k) (sym (append_assoc (argument_layout depth b) (ending_layout false b) r))

the_last : (source : List ℕ) (depth : ℕ) (x : InstantiationArgument) → arguments_layout depth (bared source (x ∷ [])) ≡ its_line true source depth x
unfolding arguments_layout
the_last source depth x =
    let b = walk_instantiation_argument (bare source) (argument_of x) in
    ap (λ k. line depth ∷ (argument_layout depth b ++ k)) (ending_last b)

lines_of : (source : List ℕ) (depth : ℕ) (front : List InstantiationArgument) (last : InstantiationArgument)
    → arguments_layout depth (bared source (front ++ last ∷ [])) ≡ flat_map (its_line false source depth) front ++ its_line true source depth last
lines_of source depth [] last = the_last source depth last
lines_of source depth (x ∷ []) last =
    first_of_more source depth x last [] ∙ ap (λ k. its_line false source depth x ++ k) (the_last source depth last)
    ∙ sym (append_assoc (its_line false source depth x) [] (its_line true source depth last))
lines_of source depth (x ∷ y ∷ front) last =
    first_of_more source depth x y (front ++ last ∷ []) ∙ ap (λ k. its_line false source depth x ++ k) (lines_of source depth (y ∷ front) last)
    ∙ sym (append_assoc (its_line false source depth x) (flat_map (its_line false source depth) (y ∷ front)) (its_line true source depth last))

-- arguments are printed line by line
pub arguments_lines : (source : List ℕ) (depth : ℕ) (xs front : List InstantiationArgument) (last : InstantiationArgument) → xs ≡ front ++ last ∷ []
    → arguments_layout depth (bared source xs) ≡ flat_map (its_line false source depth) front ++ its_line true source depth last
arguments_lines source depth xs front last e = ap (λ ys. arguments_layout depth (bared source ys)) e ∙ lines_of source depth front last

-- what is between the braces
pub braces_none : (source : List ℕ) (depth : ℕ) (xs : List InstantiationArgument) → length xs ≡ 0 → braces_layout depth (bared source xs) ≡ []
braces_none source depth [] h = refl
braces_none source depth (x ∷ xs) h = absurd (omega arith)

lone_braces : (source : List ℕ) (depth : ℕ) (xs : Arguments) (lines : List Piece) → is_lone_fill xs ≡ true → braced_layout depth (walk_arguments (bare source) xs) lines ≡ space ∷ token (codes "...") ∷ space ∷ []
lone_braces source depth (tree.Arguments.more (tree.InstantiationArgument.fill s) tree.Arguments.none) lines h = refl
lone_braces source depth (tree.Arguments.more (tree.InstantiationArgument.fill s) (tree.Arguments.more y ys)) lines h = absurd cc
lone_braces source depth (tree.Arguments.more (tree.InstantiationArgument.spread x) xs) lines h = absurd cc
lone_braces source depth (tree.Arguments.more (tree.InstantiationArgument.named n x) xs) lines h = absurd cc
lone_braces source depth (tree.Arguments.more (tree.InstantiationArgument.inferred x) xs) lines h = absurd cc
lone_braces source depth tree.Arguments.none lines h = absurd cc

pub braces_lone : (source : List ℕ) (depth : ℕ) (xs : List InstantiationArgument) → is_lone_fill (arguments_from (map argument_of xs)) ≡ true → braces_layout depth (bared source xs) ≡ space ∷ token (codes "...") ∷ space ∷ []
braces_lone source depth xs h = lone_braces source depth (arguments_from (map argument_of xs)) (arguments_layout (deeper depth) (bared source xs)) h

line_braces : (source : List ℕ) (depth : ℕ) (x : tree.InstantiationArgument) (xs : Arguments) (lines : List Piece) → is_lone_fill (tree.Arguments.more x xs) ≡ false
    → braced_layout depth (walk_arguments (bare source) (tree.Arguments.more x xs)) lines ≡ newline ∷ (lines ++ line depth ∷ [])
line_braces source depth (tree.InstantiationArgument.fill s) tree.Arguments.none lines h = absurd cc
line_braces source depth (tree.InstantiationArgument.fill s) (tree.Arguments.more y ys) lines h = refl
line_braces source depth (tree.InstantiationArgument.spread x) xs lines h = refl
line_braces source depth (tree.InstantiationArgument.named n x) xs lines h = refl
line_braces source depth (tree.InstantiationArgument.inferred x) xs lines h = refl

pub braces_lines : (source : List ℕ) (depth : ℕ) (xs : List InstantiationArgument) → 0 < length xs → is_lone_fill (arguments_from (map argument_of xs)) ≡ false
    → braces_layout depth (bared source xs) ≡ newline ∷ (arguments_layout (deeper depth) (bared source xs) ++ line depth ∷ [])
braces_lines source depth [] n h = absurd (omega arith)
braces_lines source depth (x ∷ xs) n h = line_braces source depth (argument_of x) (arguments_from (map argument_of xs)) (arguments_layout (deeper depth) (bared source (x ∷ xs))) h

-- ---- the trees of expressions that hold others

pub nested_layout : (source : List ℕ) (depth : ℕ) (p : PrimaryExpr) (x : NestedExpr) → p ≡ Nested x
    → primary_expr_layout depth (walk_primary_expr (bare source) (primary_expr_of p)) ≡ token (codes "(") ∷ (expr_layout depth (walk_expr (bare source) (expr_of (out-NestedExpr x).inner.value)) ++ token (codes ")") ∷ [])
unfolding primary_expr_layout
nested_layout source depth p x e =
    ap (λ y. primary_expr_layout depth (walk_primary_expr (bare source) (primary_expr_of y))) e ∙ ap (λ y. primary_expr_layout depth (walk_primary_expr (bare source) y)) (nested_out x)

pub named_is : (source : List ℕ) (depth : ℕ) (x : InstantiationArgument) (a : NamedInstantiationArgument) → x ≡ Named a
    → argument_layout depth (walk_instantiation_argument (bare source) (argument_of x)) ≡ argument_name_layout (walk_instantiation_argument_name (bare source) (argument_name_of a.name)) ++ token (codes ":") ∷ space ∷ expr_layout depth (walk_expr (bare source) (expr_of a.expr))
unfolding argument_layout
named_is source depth x a e = ap (λ y. argument_layout depth (walk_instantiation_argument (bare source) (argument_of y))) e

-- ---- the start of a list, and its last item

most_in_front : {X : Type 0} (f : X → ℕ) (front : List X) (last : X) → most f front ≤ most f (front ++ last ∷ [])
most_in_front f [] last = omega arith
most_in_front f (x ∷ front) last = omega (arith, most_in_front f front last)

most_at_last : {X : Type 0} (f : X → ℕ) (front : List X) (last : X) → f last ≤ most f (front ++ last ∷ [])
most_at_last f [] last = omega arith
most_at_last f (x ∷ front) last = omega (arith, most_at_last f front last)

pub most_front : {X : Type 0} (f : X → ℕ) (xs front : List X) (last : X) → xs ≡ front ++ last ∷ [] → most f front ≤ most f xs
most_front f xs front last e = omega (arith, ap (most f) e, most_in_front f front last)

pub most_last : {X : Type 0} (f : X → ℕ) (xs front : List X) (last : X) → xs ≡ front ++ last ∷ [] → f last ≤ most f xs
most_last f xs front last e = omega (arith, ap (most f) e, most_at_last f front last)

all_front : {X : Type 0} (P : X → Type 0) (front : List X) (last : X) → All P (front ++ last ∷ []) → All P front
all_front P [] last h i d k = absurd (omega arith)
all_front P (x ∷ front) last h zero d k = h 0 d (omega arith)
all_front P (x ∷ front) last h (suc i) d k = all_front P front last (λ j e l. h (suc j) e (omega arith)) i d (omega arith)

all_last : {X : Type 0} (P : X → Type 0) (front : List X) (last : X) → All P (front ++ last ∷ []) → P last
all_last P [] last h = h 0 last (omega arith)
all_last P (x ∷ front) last h = all_last P front last (λ j e l. h (suc j) e (omega arith))

pub front_sliced : (source : List ℕ) (xs front : List InstantiationArgument) (last : InstantiationArgument) → xs ≡ front ++ last ∷ [] → walk_arguments (printable source) (arguments_from (map argument_of xs)) → All (λ x. walk_instantiation_argument (printable source) (argument_of x)) front
front_sliced source xs front last e h = all_front (λ x. walk_instantiation_argument (printable source) (argument_of x)) front last (subst (All (λ x. walk_instantiation_argument (printable source) (argument_of x))) e (arguments_sliced source xs h))

pub last_sliced : (source : List ℕ) (xs front : List InstantiationArgument) (last : InstantiationArgument) → xs ≡ front ++ last ∷ [] → walk_arguments (printable source) (arguments_from (map argument_of xs)) → walk_instantiation_argument (printable source) (argument_of last)
last_sliced source xs front last e h = all_last (λ x. walk_instantiation_argument (printable source) (argument_of x)) front last (subst (All (λ x. walk_instantiation_argument (printable source) (argument_of x))) e (arguments_sliced source xs h))
