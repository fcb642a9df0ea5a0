use Rattle.wac_ast_worlds.proofs.Common.{refl, interface_export}
use Rattle.wac_ast_base.proofs.Exits as x
use Rattle.wac_ast_base.proofs.Yields as y
use Rattle.wac_ast_worlds.proofs.interface.InterfaceExportParse.parse.Goals as goal

pub returns-in_err-id-clause-gives : goal.returns-in_err-id-clause-gives
returns-in_err-id-clause-gives c = x.exits interface_export _ _ _ c.from_residual-in_err-id.ensures.1 (x.with_docs (x.here c.in_err-id.ensures.gives))

pub returns-in_err-take_token-clause-gives : goal.returns-in_err-take_token-clause-gives
returns-in_err-take_token-clause-gives c = x.exits interface_export _ _ _ c.from_residual-in_err-take_token.ensures.1 (x.with_docs (x.past c.in_ok-id.ensures.gives (x.here c.in_err-take_token.ensures.takes)))

pub returns-in_err-ty-clause-gives : goal.returns-in_err-ty-clause-gives
returns-in_err-ty-clause-gives c = x.exits interface_export _ _ _ c.from_residual-in_err-ty.ensures.1 (x.with_docs (x.past c.in_ok-id.ensures.gives (x.took c.in_ok-take_token.ensures.takes (x.last_piece c.in_err-ty.ensures.gives))))

pub returns-clause-gives : goal.returns-clause-gives
returns-clause-gives c = y.gives interface_export (y.docs_past c.in_ok-docs.ensures.docs c.in_ok-id.ensures.gives refl (y.took c.in_ok-take_token.ensures.takes (y.last_piece c.in_ok-ty.ensures.gives))) (rw c.in_ok-ty.ensures.gives.part.2)
