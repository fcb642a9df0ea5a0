use Rattle.std.proofs.Common.{refl}
use Rattle.wac_ast_base.proofs.Exits as x
use Rattle.wac_ast_base.proofs.Yields as y
use Rattle.wac_ast_uses.proofs.uses.parse_use_items.Goals as goal

pub returns-in_err-take_token-clause-gives : goal.returns-in_err-take_token-clause-gives
returns-in_err-take_token-clause-gives c = x.part_exits _ c.from_residual.ensures.1 (x.here c.in_err-take_token.ensures.takes)

pub returns-in_err-items-clause-gives : goal.returns-in_err-items-clause-gives
returns-in_err-items-clause-gives c = x.part_exits _ c.from_residual-in_err-items.ensures.1 (x.took c.in_ok-take_token.ensures.takes (x.here (x.same_error _ _ _ c.in_err-items.ensures.takes)))

pub returns-in_err-take_token-2-clause-gives : goal.returns-in_err-take_token-2-clause-gives
returns-in_err-take_token-2-clause-gives c = x.part_exits _ c.from_residual-in_err-take_token-2.ensures.1 (x.took c.in_ok-take_token.ensures.takes (x.listed c.in_ok-items.ensures.takes (x.last c.in_err-take_token-2.ensures.takes)))

pub returns-clause-gives : goal.returns-clause-gives
returns-clause-gives c = y.part (y.took c.in_ok-take_token.ensures.takes (y.listed c.in_ok-items.ensures.takes (y.last_took c.in_ok-take_token-2.ensures.takes))) refl
