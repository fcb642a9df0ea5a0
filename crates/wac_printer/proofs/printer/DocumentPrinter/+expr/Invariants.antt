use Rattle.wac_printer.proofs.Common.{◌+◌, ◌*◌, false, size-InstantiationArgument, size-PrimaryExpr, IsSoFar}
use denote.Param.Weighed.{most}
use Rattle.wac_ast_statements.specs.declared.expr.Expr.{size-Expr}
use Rattle.wac_ast_statements.specs.declared.expr.NewExpr.{size-NewExpr}
use Rattle.wac_printer.proofs.Arguments.{its_line}
use Rattle.wac_printer.proofs.printer.DocumentPrinter.+expr.Given as goal

abbrev pub invariant-front_arguments-loop-argument : goal.invariant-front_arguments-loop-argument
invariant-front_arguments-loop-argument g l = IsSoFar (its_line false) l.arguments l.argument-index l.fn.self l.self

abbrev pub decreases-expr : goal.decreases-expr
decreases-expr g l = 8 * size-Expr l.expr.now + 0

abbrev pub decreases-primary_expr : goal.decreases-primary_expr
decreases-primary_expr g l = 8 * size-PrimaryExpr l.expr.now + 0

abbrev pub decreases-new_expr : goal.decreases-new_expr
decreases-new_expr g l = 8 * size-NewExpr l.expr.now + 0

abbrev pub decreases-argument : goal.decreases-argument
decreases-argument g l = 8 * size-InstantiationArgument l.argument.now + 0

abbrev pub decreases-argument_line : goal.decreases-argument_line
decreases-argument_line g l = 8 * size-InstantiationArgument l.argument.now + 1

abbrev pub decreases-front_arguments : goal.decreases-front_arguments
decreases-front_arguments g l = 8 * most size-InstantiationArgument l.arguments.now + 2

abbrev pub decreases-arguments : goal.decreases-arguments
decreases-arguments g l = 8 * most size-InstantiationArgument l.arguments.now + 3

abbrev pub decreases-deeper_arguments : goal.decreases-deeper_arguments
decreases-deeper_arguments g l = 8 * most size-InstantiationArgument l.arguments.now + 4

abbrev pub decreases-argument_lines : goal.decreases-argument_lines
decreases-argument_lines g l = 8 * most size-InstantiationArgument l.arguments.now + 5

abbrev pub decreases-braced : goal.decreases-braced
decreases-braced g l = 8 * most size-InstantiationArgument l.arguments.now + 6
