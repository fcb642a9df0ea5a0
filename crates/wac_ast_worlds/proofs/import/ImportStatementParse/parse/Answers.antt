use Rattle.wac_ast_worlds.proofs.Built.{import_built}
use Rattle.wac_ast_worlds.proofs.Common.{import_statement}
use Rattle.wac_ast_base.proofs.Exits as x
use Rattle.wac_ast_base.proofs.Yields as y
use Rattle.wac_ast_worlds.proofs.import.ImportStatementParse.parse.Goals as goal

pub returns-in_err-take_token-clause-gives : goal.returns-in_err-take_token-clause-gives
returns-in_err-take_token-clause-gives c = x.exits import_statement _ _ _ c.from_residual-in_err-take_token.ensures.1 (x.with_docs (x.here c.in_err-take_token.ensures.takes))

pub returns-in_err-id-clause-gives : goal.returns-in_err-id-clause-gives
returns-in_err-id-clause-gives c = x.exits import_statement _ _ _ c.from_residual-in_err-id.ensures.1 (x.with_docs (x.took c.in_ok-take_token.ensures.takes (x.here c.in_err-id.ensures.gives)))

pub returns-in_err-name-clause-gives : goal.returns-in_err-name-clause-gives
returns-in_err-name-clause-gives c = x.exits import_statement _ _ _ c.from_residual-in_err-name.ensures.1 (x.with_docs (x.took c.in_ok-take_token.ensures.takes (x.past c.in_ok-id.ensures.gives (x.piece c.in_err-name.ensures.gives))))

pub returns-in_err-take_token-2-clause-gives : goal.returns-in_err-take_token-2-clause-gives
returns-in_err-take_token-2-clause-gives c = x.exits import_statement _ _ _ c.from_residual-in_err-take_token-2.ensures.1 (x.with_docs (x.took c.in_ok-take_token.ensures.takes (x.past c.in_ok-id.ensures.gives (x.beyond c.in_ok-name.ensures.gives (x.here c.in_err-take_token-2.ensures.takes)))))

pub returns-in_err-ty-clause-gives : goal.returns-in_err-ty-clause-gives
returns-in_err-ty-clause-gives c = x.exits import_statement _ _ _ c.from_residual-in_err-ty.ensures.1 (x.with_docs (x.took c.in_ok-take_token.ensures.takes (x.past c.in_ok-id.ensures.gives (x.beyond c.in_ok-name.ensures.gives (x.took c.in_ok-take_token-2.ensures.takes (x.last_piece c.in_err-ty.ensures.gives))))))

pub returns-clause-gives : goal.returns-clause-gives
returns-clause-gives c = y.gives import_statement (y.docs_took c.in_ok-docs.ensures.docs c.in_ok-take_token.ensures.takes (y.past c.in_ok-id.ensures.gives (y.beyond c.in_ok-name.ensures.gives (y.took c.in_ok-take_token-2.ensures.takes (y.last_piece c.in_ok-ty.ensures.gives))))) (rw (import_built _ _ _ c.in_ok-name.ensures.gives.part.0 _ c.in_ok-ty.ensures.gives.part.0.0 c.in_ok-ty.ensures.gives.part.0.1, c.in_ok-name.ensures.gives.part.2, c.in_ok-ty.ensures.gives.part.2))
