use Rattle.wac_resolution_expressions.proofs.Common.{◌+◌, ◌*◌, by_name, size-InstantiationArgument, size-NewExpr, rules_of, numbers_of}
use denote.Param.Weighed.{most}
use Rattle.wac_ast_statements.specs.declared.expr.Expr.{size-Expr}
use Rattle.wac_ast_statements.specs.declared.expr.PrimaryExpr.{size-PrimaryExpr}
use Rattle.wac_resolution_expressions.proofs.Standing.{InLoop}
use Rattle.wac_resolution_expressions.proofs.expr.+expression.Given as goal

abbrev pub invariant-arguments-loop-one : goal.invariant-arguments-loop-one
invariant-arguments-loop-one g l = InLoop l.scope.context.now (rules_of g.R.Rules l.scope.rules.now) l.fn.state.graph (by_name l.fn.given.entries) (numbers_of l.scope.root.now.nodes) l.world l.state.graph (by_name l.given.entries) l.arguments l.one-index l.left

abbrev pub decreases-expression : goal.decreases-expression
decreases-expression g l = 8 * size-Expr l.expr.now + 0

abbrev pub decreases-primary : goal.decreases-primary
decreases-primary g l = 8 * size-PrimaryExpr l.expr.now + 0

abbrev pub decreases-instantiation : goal.decreases-instantiation
decreases-instantiation g l = 8 * size-NewExpr l.new.now + 0

abbrev pub decreases-arguments : goal.decreases-arguments
decreases-arguments g l = 8 * most size-InstantiationArgument l.arguments.now + 1

abbrev pub decreases-argument : goal.decreases-argument
decreases-argument g l = 8 * size-InstantiationArgument l.next.now.argument.now + 0
