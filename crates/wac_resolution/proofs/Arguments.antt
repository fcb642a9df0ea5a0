-- The arguments of an instantiation, from the values.
use Rattle.wac_resolution.proofs.Common.{◌≡◌, ◌∙◌, ℕ, List, [], ◌∷◌, ◌++◌, map, flat_map, ap, refl, Arguments, arguments_from, package_name_of, argument_of, arguments_of_row, new_expr_of, primary_expr_of, argument_mentions, arguments_mentions}
use mathlib.Core.Former.{Count}
use Rattle.wac_ast_grammar.specs.Tree as tree
use Rattle.wac_ast_statements.specs.declared.expr.InstantiationArgument.{InstantiationArgument}
use Rattle.wac_ast_statements.specs.declared.expr.NewExpr.{NewExpr, Row_of-InstantiationArgument, end_of-InstantiationArgument, more_of-InstantiationArgument, items-the_row-InstantiationArgument, items_hidden-the_row-InstantiationArgument-0}
use Rattle.wac_ast_statements.specs.declared.expr.PrimaryExpr.{PrimaryExpr, New, New'}

-- what arguments mention they mention in order
pub in_a_row : (own : List ℕ) (xs : List InstantiationArgument) → arguments_mentions own (arguments_from (map argument_of xs)) ≡ flat_map (argument_mentions own) (map argument_of xs)
in_a_row own [] = refl
in_a_row own (x ∷ xs) = ap (λ l. argument_mentions own (argument_of x) ++ l) (in_a_row own xs)

of_row : (n : _) (row : Row_of-InstantiationArgument n) → arguments_of_row row ≡ arguments_from (map argument_of (items-the_row-InstantiationArgument n row))
of_row _ end_of-InstantiationArgument = refl
of_row _ (more_of-InstantiationArgument x others) = ap (Arguments.more (argument_of x)) (of_row _ others)

abbrev packed : PrimaryExpr → (n : Count) × Row_of-InstantiationArgument n
packed (New' span name shape row) = (_, row)
packed _ = (_, end_of-InstantiationArgument)

pub new_is : (x : NewExpr) → primary_expr_of (New x) ≡ new_expr_of x
new_is x =
    let row = packed (New x) in
    ap (tree.PrimaryExpr.new x.span (package_name_of x.«package»)) (of_row row.0 row.1 ∙ ap (λ l. arguments_from (map argument_of l)) (items_hidden-the_row-InstantiationArgument-0 x.arguments))
