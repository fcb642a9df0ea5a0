-- The trees of expressions that hold others.
use Rattle.wac_ast_statements.proofs.Common.{◌≡◌, List, map, ap, ◌∙◌, refl, Ok, Err, Global, Box, Span, Expr, PrimaryExpr, PostfixExpr, Arguments, arguments_from, Item, build, expr, primary_expr, postfixes, mapped, read, Reads, read_is}
use mathlib.Core.Former.{Count}
use Rattle.wac_ast_statements.specs.declared.expr.Expr.{Expr as CodeExpr}
use Rattle.wac_ast_statements.specs.declared.expr.NewExpr.{NewExpr as CodeNewExpr, Row_of-InstantiationArgument, end_of-InstantiationArgument, more_of-InstantiationArgument, items-the_row-InstantiationArgument, items_hidden-the_row-InstantiationArgument-0}
use Rattle.wac_ast_statements.specs.declared.expr.PrimaryExpr.{PrimaryExpr as CodePrimaryExpr, New, New'}
use Rattle.wac_ast_statements.specs.declared.expr.NestedExpr.{NestedExpr as CodeNestedExpr, NestedExpr', roll-NestedExpr, out-NestedExpr, out-roll-NestedExpr}
use Rattle.wac_ast_base.specs.Names.{package_name_of}
use Rattle.wac_ast_statements.specs.Expressions.{argument_of, arguments_of_row, primary_expr_of, new_expr_of, nested_expr_of, expr_of, after_primary}

of_row : (n : _) (row : Row_of-InstantiationArgument n) → arguments_of_row row ≡ arguments_from (map argument_of (items-the_row-InstantiationArgument n row))
of_row _ end_of-InstantiationArgument = refl
of_row _ (more_of-InstantiationArgument x others) = ap (Arguments.more (argument_of x)) (of_row _ others)

abbrev packed : CodePrimaryExpr → (n : Count) × Row_of-InstantiationArgument n
packed (New' span name shape row) = (_, row)
packed _ = (_, end_of-InstantiationArgument)

pub new_is : (x : CodeNewExpr) → primary_expr_of (New x) ≡ new_expr_of x
new_is x =
    let row = packed (New x) in
    ap (PrimaryExpr.new x.span (package_name_of x.«package»)) (of_row row.0 row.1 ∙ ap (λ l. arguments_from (map argument_of l)) (items_hidden-the_row-InstantiationArgument-0 x.arguments))

pub nested_out : (x : CodeNestedExpr) → nested_expr_of x ≡ PrimaryExpr.nested (out-NestedExpr x).span (expr_of (out-NestedExpr x).inner.value)
unfolding out-NestedExpr denote.Hole.Carrier.out
nested_out (NestedExpr' s p outer first others) = refl

pub nested_is : (s : Span) (b : Box CodeExpr Global) → nested_expr_of (roll-NestedExpr (record { span = s; inner = b })) ≡ PrimaryExpr.nested s (expr_of b.value)
nested_is s b = nested_out (roll-NestedExpr (record { span = s; inner = b })) ∙ ap (λ r. PrimaryExpr.nested r.span (expr_of r.inner.value)) (out-roll-NestedExpr (record { span = s; inner = b }))

-- ---- how an expression is read

pub after_is : (xs : List Item) (first : PrimaryExpr) (ys : List Item) → read primary_expr xs ≡ Ok (first, ys) → read expr xs ≡ after_primary first ys
after_is xs first ys r = read_is expr xs ∙ rw r (go (read postfixes ys))
  where
    go : (m : Reads (List PostfixExpr)) → mapped {B = Expr} (build expr) (mapped {B = PrimaryExpr × List PostfixExpr} (λ others. (first, others)) m) ≡ mapped {B = Expr} (λ others. build expr (first, others)) m
    go (Ok y) = refl
    go (Err s) = refl
