use Rattle.wac_ast_statements.proofs.Common.{named_access_expr}
use Rattle.wac_ast_base.proofs.Exits as x
use Rattle.wac_ast_base.proofs.Yields as y
use Rattle.wac_ast_statements.proofs.expr.NamedAccessExprParse.parse.Goals as goal

pub returns-in_err-first-clause-gives : goal.returns-in_err-first-clause-gives
returns-in_err-first-clause-gives c = x.exits named_access_expr _ _ _ c.from_residual.ensures.1 (x.here c.in_err-first.ensures.takes)

pub returns-in_err-string-clause-gives : goal.returns-in_err-string-clause-gives
returns-in_err-string-clause-gives c = x.exits named_access_expr _ _ _ c.from_residual-in_err-string.ensures.1 (x.took c.in_ok-first.ensures.takes (x.here c.in_err-string.ensures.gives))

pub returns-in_err-last-clause-gives : goal.returns-in_err-last-clause-gives
returns-in_err-last-clause-gives c = x.exits named_access_expr _ _ _ c.from_residual-in_err-last.ensures.1 (x.took c.in_ok-first.ensures.takes (x.past c.in_ok-string.ensures.gives (x.last c.in_err-last.ensures.takes)))

pub returns-clause-gives : goal.returns-clause-gives
returns-clause-gives c = y.gives named_access_expr (y.took c.in_ok-first.ensures.takes (y.past c.in_ok-string.ensures.gives (y.last_took c.in_ok-last.ensures.takes))) (rw (c.join.ensures, c.in_ok-first.ensures.takes.1, c.in_ok-last.ensures.takes.1))
