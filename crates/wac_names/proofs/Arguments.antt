-- The arguments of an instantiation and the types of a tuple, from the values.
use Rattle.std.proofs.Common.{◌≡◌, ◌∙◌, List, [], ◌∷◌, ◌++◌, map, flat_map, ap, refl}
use mathlib.Core.Former.{Count}
use Rattle.wac_ast_grammar.specs.Tree as tree
use Rattle.wac_ast_grammar.specs.Tree.{Arguments, arguments_from, types_from}
use Rattle.wac_ast_base.specs.Names.{package_name_of}
use Rattle.wac_ast_statements.specs.Expressions.{argument_of, arguments_of_row, new_expr_of, primary_expr_of}
use Rattle.wac_ast_statements.specs.declared.expr.InstantiationArgument.{InstantiationArgument}
use Rattle.wac_ast_statements.specs.declared.expr.NewExpr.{NewExpr, Row_of-InstantiationArgument, end_of-InstantiationArgument, more_of-InstantiationArgument, items-the_row-InstantiationArgument, items_hidden-the_row-InstantiationArgument-0}
use Rattle.wac_ast_statements.specs.declared.expr.PrimaryExpr.{PrimaryExpr, New, New'}
use Rattle.wac_ast_types.specs.Types.{ty_of}
use Rattle.wac_ast_types.specs.declared.types.«Type».{«Type»}
use Rattle.wac_names.specs.declared.steps.Level.{Level}
use Rattle.wac_names.specs.Steps.{argument_steps, arguments_steps, type_steps, types_steps}

-- the steps of arguments are those of each, in order
pub in_a_row : (xs : List InstantiationArgument) → arguments_steps (arguments_from (map argument_of xs)) ≡ flat_map argument_steps (map argument_of xs)
in_a_row [] = refl
in_a_row (x ∷ xs) = ap (λ l. argument_steps (argument_of x) ++ l) (in_a_row xs)

-- and those of types too
pub types_in_a_row : (l : Level) (xs : List «Type») → types_steps l (types_from (map ty_of xs)) ≡ flat_map (type_steps l) (map ty_of xs)
types_in_a_row l [] = refl
types_in_a_row l (x ∷ xs) = ap (λ ys. type_steps l (ty_of x) ++ ys) (types_in_a_row l xs)

of_row : (n : _) (row : Row_of-InstantiationArgument n) → arguments_of_row row ≡ arguments_from (map argument_of (items-the_row-InstantiationArgument n row))
of_row _ end_of-InstantiationArgument = refl
of_row _ (more_of-InstantiationArgument x others) = ap (Arguments.more (argument_of x)) (of_row _ others)

abbrev packed : PrimaryExpr → (n : Count) × Row_of-InstantiationArgument n
packed (New' span name shape row) = (_, row)
packed _ = (_, end_of-InstantiationArgument)

pub new_is : (x : NewExpr) → primary_expr_of (New x) ≡ new_expr_of x
new_is x =
    let row = packed (New x) in
    ap (tree.PrimaryExpr.new x.span (package_name_of x.«package»)) (of_row row.0 row.1 ∙ ap (λ l. arguments_from (map argument_of l)) (items_hidden-the_row-InstantiationArgument-0 x.arguments))
