use Rattle.wac_ast_types.proofs.Common.{refl, method}
use Rattle.wac_ast_types.proofs.Built.{method_built}
use Rattle.wac_ast_base.proofs.Exits as x
use Rattle.wac_ast_base.proofs.Yields as y
use Rattle.wac_ast_types.proofs.resource.MethodParse.parse.Goals as goal

pub returns-in_err-id-clause-gives : goal.returns-in_err-id-clause-gives
returns-in_err-id-clause-gives c = x.exits method _ _ _ c.from_residual-in_err-id.ensures.1 (x.with_docs (x.here c.in_err-id.ensures.gives))

pub returns-in_err-take_token-clause-gives : goal.returns-in_err-take_token-clause-gives
returns-in_err-take_token-clause-gives c = x.exits method _ _ _ c.from_residual-in_err-take_token.ensures.1 (x.with_docs (x.past c.in_ok-id.ensures.gives (x.here c.in_err-take_token.ensures.takes)))

pub returns-in_err-is_static-clause-gives : goal.returns-in_err-is_static-clause-gives
returns-in_err-is_static-clause-gives c = x.exits method _ _ _ c.from_residual-in_err-is_static.ensures.1 (x.with_docs (x.past c.in_ok-id.ensures.gives (x.took c.in_ok-take_token.ensures.takes (x.piece c.in_err-is_static.ensures.gives))))

pub returns-in_err-ty-clause-gives : goal.returns-in_err-ty-clause-gives
returns-in_err-ty-clause-gives c = x.exits method _ _ _ c.from_residual-in_err-ty.ensures.1 (x.with_docs (x.past c.in_ok-id.ensures.gives (x.took c.in_ok-take_token.ensures.takes (x.beyond c.in_ok-is_static.ensures.gives (x.last_piece c.in_err-ty.ensures.gives)))))

pub returns-clause-gives : goal.returns-clause-gives
returns-clause-gives c = y.gives method (y.docs_past c.in_ok-docs.ensures.docs c.in_ok-id.ensures.gives refl (y.took c.in_ok-take_token.ensures.takes (y.beyond c.in_ok-is_static.ensures.gives (y.last_piece c.in_ok-ty.ensures.gives)))) (rw (method_built _ _ _ c.in_ok-is_static.ensures.gives.part.0 c.in_ok-ty.ensures.gives.part.0.0 c.in_ok-ty.ensures.gives.part.0.1, c.in_ok-is_static.ensures.gives.part.2, c.in_ok-ty.ensures.gives.part.2))
