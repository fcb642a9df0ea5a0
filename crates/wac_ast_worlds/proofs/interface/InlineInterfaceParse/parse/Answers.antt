use Rattle.wac_ast_worlds.proofs.Common.{refl, inline_interface}
use Rattle.wac_ast_base.proofs.Exits as x
use Rattle.wac_ast_base.proofs.Yields as y
use Rattle.wac_ast_worlds.proofs.interface.InlineInterfaceParse.parse.Goals as goal

pub returns-in_err-take_token-clause-gives : goal.returns-in_err-take_token-clause-gives
returns-in_err-take_token-clause-gives c = x.exits inline_interface _ _ _ c.from_residual.ensures.1 (x.here c.in_err-take_token.ensures.takes)

pub returns-in_err-take_token-2-clause-gives : goal.returns-in_err-take_token-2-clause-gives
returns-in_err-take_token-2-clause-gives c = x.exits inline_interface _ _ _ c.from_residual-in_err-take_token-2.ensures.1 (x.took c.in_ok-take_token.ensures.takes (x.here c.in_err-take_token-2.ensures.takes))

pub returns-in_err-items-clause-gives : goal.returns-in_err-items-clause-gives
returns-in_err-items-clause-gives c = x.exits inline_interface _ _ _ c.from_residual-in_err-items.ensures.1 (x.took c.in_ok-take_token.ensures.takes (x.took c.in_ok-take_token-2.ensures.takes (x.last (x.same_error _ _ _ c.in_err-items.ensures.takes))))

pub returns-clause-gives : goal.returns-clause-gives
returns-clause-gives c = y.gives inline_interface (y.took c.in_ok-take_token.ensures.takes (y.took c.in_ok-take_token-2.ensures.takes (y.last_listed c.in_ok-items.ensures.takes))) refl
