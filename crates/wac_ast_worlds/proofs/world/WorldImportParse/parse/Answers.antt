use Rattle.wac_ast_worlds.proofs.Common.{world_import}
use Rattle.wac_ast_base.proofs.Exits as x
use Rattle.wac_ast_base.proofs.Yields as y
use Rattle.wac_ast_worlds.proofs.world.WorldImportParse.parse.Goals as goal

pub returns-in_err-take_token-clause-gives : goal.returns-in_err-take_token-clause-gives
returns-in_err-take_token-clause-gives c = x.exits world_import _ _ _ c.from_residual-in_err-take_token.ensures.1 (x.with_docs (x.here c.in_err-take_token.ensures.takes))

pub returns-in_err-path-clause-gives : goal.returns-in_err-path-clause-gives
returns-in_err-path-clause-gives c = x.exits world_import _ _ _ c.from_residual-in_err-path.ensures.1 (x.with_docs (x.took c.in_ok-take_token.ensures.takes (x.last_piece c.in_err-path.ensures.gives)))

pub returns-clause-gives : goal.returns-clause-gives
returns-clause-gives c = y.gives world_import (y.docs_took c.in_ok-docs.ensures.docs c.in_ok-take_token.ensures.takes (y.last_piece c.in_ok-path.ensures.gives)) (rw c.in_ok-path.ensures.gives.part.2)
