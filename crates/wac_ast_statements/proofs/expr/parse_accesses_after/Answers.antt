use Rattle.wac_ast_statements.proofs.Common.{refl, fails_bind}
use Rattle.wac_ast_base.proofs.Exits as x
use Rattle.wac_ast_statements.proofs.expr.parse_accesses_after.Goals as goal

pub returns-in_err-postfix-clause-gives : goal.returns-in_err-postfix-clause-gives
returns-in_err-postfix-clause-gives c = x.passed _ _ _ _ _ _ c.from_residual.ensures.1 (fails_bind _ _ _ _ c.in_err-postfix.ensures.gives)

pub returns-clause-gives : goal.returns-clause-gives
returns-clause-gives c = (rw (c.in_ok-postfix.ensures.gives.0, c.join.ensures, c.last_span.ensures, c.deref.ensures.value, c.span-first.ensures) refl, c.in_ok-postfix.ensures.gives.1)
