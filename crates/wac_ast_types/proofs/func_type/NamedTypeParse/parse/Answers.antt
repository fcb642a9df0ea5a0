use Rattle.wac_ast_types.proofs.Common.{refl, named_type}
use Rattle.wac_ast_base.proofs.Exits as x
use Rattle.wac_ast_base.proofs.Yields as y
use Rattle.wac_ast_types.proofs.func_type.NamedTypeParse.parse.Goals as goal

pub returns-in_err-id-clause-gives : goal.returns-in_err-id-clause-gives
returns-in_err-id-clause-gives c = x.exits named_type _ _ _ c.from_residual.ensures.1 (x.here c.in_err-id.ensures.gives)

pub returns-in_err-take_token-clause-gives : goal.returns-in_err-take_token-clause-gives
returns-in_err-take_token-clause-gives c = x.exits named_type _ _ _ c.from_residual-in_err-take_token.ensures.1 (x.past c.in_ok-id.ensures.gives (x.here c.in_err-take_token.ensures.takes))

pub returns-in_err-ty-clause-gives : goal.returns-in_err-ty-clause-gives
returns-in_err-ty-clause-gives c = x.exits named_type _ _ _ c.from_residual-in_err-ty.ensures.1 (x.past c.in_ok-id.ensures.gives (x.took c.in_ok-take_token.ensures.takes (x.last c.in_err-ty.ensures.gives)))

pub returns-clause-gives : goal.returns-clause-gives
returns-clause-gives c = y.gives named_type (y.past c.in_ok-id.ensures.gives (y.took c.in_ok-take_token.ensures.takes (y.last c.in_ok-ty.ensures.gives))) refl
