use Rattle.wac_ast_types.proofs.Common.{borrow_type}
use Rattle.wac_ast_base.proofs.Exits as x
use Rattle.wac_ast_base.proofs.Yields as y
use Rattle.wac_ast_types.proofs.types.parse_borrow.Goals as goal

pub returns-in_err-first-clause-gives : goal.returns-in_err-first-clause-gives
returns-in_err-first-clause-gives c = x.exits borrow_type _ _ _ c.from_residual.ensures.1 (x.here c.in_err-first.ensures.takes)

pub returns-in_err-take_token-clause-gives : goal.returns-in_err-take_token-clause-gives
returns-in_err-take_token-clause-gives c = x.exits borrow_type _ _ _ c.from_residual-in_err-take_token.ensures.1 (x.took c.in_ok-first.ensures.takes (x.here c.in_err-take_token.ensures.takes))

pub returns-in_err-id-clause-gives : goal.returns-in_err-id-clause-gives
returns-in_err-id-clause-gives c = x.exits borrow_type _ _ _ c.from_residual-in_err-id.ensures.1 (x.took c.in_ok-first.ensures.takes (x.took c.in_ok-take_token.ensures.takes (x.here c.in_err-id.ensures.gives)))

pub returns-in_err-last-clause-gives : goal.returns-in_err-last-clause-gives
returns-in_err-last-clause-gives c = x.exits borrow_type _ _ _ c.from_residual-in_err-last.ensures.1 (x.took c.in_ok-first.ensures.takes (x.took c.in_ok-take_token.ensures.takes (x.past c.in_ok-id.ensures.gives (x.last c.in_err-last.ensures.takes))))

pub returns-clause-gives : goal.returns-clause-gives
returns-clause-gives c = y.gives borrow_type (y.took c.in_ok-first.ensures.takes (y.took c.in_ok-take_token.ensures.takes (y.past c.in_ok-id.ensures.gives (y.last_took c.in_ok-last.ensures.takes)))) (rw (c.join.ensures, c.in_ok-first.ensures.takes.1, c.in_ok-last.ensures.takes.1))
