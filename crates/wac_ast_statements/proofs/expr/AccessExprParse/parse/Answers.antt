use Rattle.wac_ast_statements.proofs.Common.{access_expr}
use Rattle.wac_ast_base.proofs.Exits as x
use Rattle.wac_ast_base.proofs.Yields as y
use Rattle.wac_ast_statements.proofs.expr.AccessExprParse.parse.Goals as goal

pub returns-in_err-first-clause-gives : goal.returns-in_err-first-clause-gives
returns-in_err-first-clause-gives c = x.exits access_expr _ _ _ c.from_residual.ensures.1 (x.here c.in_err-first.ensures.takes)

pub returns-in_err-id-clause-gives : goal.returns-in_err-id-clause-gives
returns-in_err-id-clause-gives c = x.exits access_expr _ _ _ c.from_residual-in_err-id.ensures.1 (x.took c.in_ok-first.ensures.takes (x.last c.in_err-id.ensures.gives))

pub returns-clause-gives : goal.returns-clause-gives
returns-clause-gives c = y.gives access_expr (y.took c.in_ok-first.ensures.takes (y.last c.in_ok-id.ensures.gives)) (rw (c.join.ensures, c.in_ok-first.ensures.takes.1))
