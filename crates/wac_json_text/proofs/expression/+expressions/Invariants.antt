use Rattle.wac_json_text.proofs.Common.{◌+◌, ◌*◌, argument_of, size-InstantiationArgument, size-PrimaryExpr, IsSoFar}
use Rattle.wac_json_forms.specs.Forms.{argument_json}
use denote.Param.Weighed.{most}
use Rattle.wac_ast_statements.specs.declared.expr.Expr.{size-Expr}
use Rattle.wac_ast_statements.specs.declared.expr.NewExpr.{size-NewExpr}
use Rattle.wac_json_text.specs.Pieces.{after_comma, pieces}
use Rattle.wac_json_text.proofs.expression.+expressions.Given as goal

abbrev pub invariant-further_arguments-loop-tree : goal.invariant-further_arguments-loop-tree
invariant-further_arguments-loop-tree g l = IsSoFar (λ source depth x. after_comma (pieces (argument_json (argument_of x)))) l.arguments l.tree-index l.fn.out l.out

abbrev pub decreases-expr : goal.decreases-expr
decreases-expr g l = 8 * size-Expr l.tree.now + 0

abbrev pub decreases-primary : goal.decreases-primary
decreases-primary g l = 8 * size-PrimaryExpr l.tree.now + 0

abbrev pub decreases-new_expr : goal.decreases-new_expr
decreases-new_expr g l = 8 * size-NewExpr l.tree.now + 0

abbrev pub decreases-argument : goal.decreases-argument
decreases-argument g l = 8 * size-InstantiationArgument l.tree.now + 0

abbrev pub decreases-further_argument : goal.decreases-further_argument
decreases-further_argument g l = 8 * size-InstantiationArgument l.tree.now + 1

abbrev pub decreases-nested : goal.decreases-nested
decreases-nested g l = 8 * size-Expr l.inner.now + 2

abbrev pub decreases-named : goal.decreases-named
decreases-named g l = 8 * size-Expr l.value.now + 2

abbrev pub decreases-further_arguments : goal.decreases-further_arguments
decreases-further_arguments g l = 8 * most size-InstantiationArgument l.arguments.now + 2

abbrev pub decreases-joined_arguments : goal.decreases-joined_arguments
decreases-joined_arguments g l = 8 * most size-InstantiationArgument l.arguments.now + 3
