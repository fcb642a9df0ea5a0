use Rattle.wac_ast_base.proofs.Common.{refl}
use Rattle.wac_ast_base.proofs.Exits as x
use Rattle.wac_ast_base.proofs.Yields as y
use Rattle.wac_ast_base.proofs.pieces.parse_before.Goals as goal

pub returns-in_err-part-clause-gives : goal.returns-in_err-part-clause-gives
returns-in_err-part-clause-gives g c = x.part_exits _ c.from_residual.ensures.1 (x.here c.in_err-part.ensures.gives)

pub returns-in_err-take_token-clause-gives : goal.returns-in_err-take_token-clause-gives
returns-in_err-take_token-clause-gives g c = x.part_exits _ c.from_residual-in_err-take_token.ensures.1 (x.past c.in_ok-part.ensures.gives (x.last c.in_err-take_token.ensures.takes))

pub returns-clause-gives : goal.returns-clause-gives
returns-clause-gives g c = y.part (y.past c.in_ok-part.ensures.gives (y.last_took c.in_ok-take_token.ensures.takes)) refl
