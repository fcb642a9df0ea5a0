use Rattle.wac_ast_types.proofs.Common.{enum_decl}
use Rattle.wac_ast_base.proofs.Exits as x
use Rattle.wac_ast_base.proofs.Yields as y
use Rattle.wac_ast_types.proofs.enum_decl.EnumDeclParse.parse.Goals as goal

pub returns-in_err-take_token-clause-gives : goal.returns-in_err-take_token-clause-gives
returns-in_err-take_token-clause-gives c = x.exits enum_decl _ _ _ c.from_residual-in_err-take_token.ensures.1 (x.with_docs (x.here c.in_err-take_token.ensures.takes))

pub returns-in_err-id-clause-gives : goal.returns-in_err-id-clause-gives
returns-in_err-id-clause-gives c = x.exits enum_decl _ _ _ c.from_residual-in_err-id.ensures.1 (x.with_docs (x.took c.in_ok-take_token.ensures.takes (x.here c.in_err-id.ensures.gives)))

pub returns-in_err-cases-clause-gives : goal.returns-in_err-cases-clause-gives
returns-in_err-cases-clause-gives c = x.exits enum_decl _ _ _ c.from_residual-in_err-cases.ensures.1 (x.with_docs (x.took c.in_ok-take_token.ensures.takes (x.past c.in_ok-id.ensures.gives (x.last_piece c.in_err-cases.ensures.gives))))

pub returns-clause-gives : goal.returns-clause-gives
returns-clause-gives c = y.gives enum_decl (y.docs_took c.in_ok-docs.ensures.docs c.in_ok-take_token.ensures.takes (y.past c.in_ok-id.ensures.gives (y.last_piece c.in_ok-cases.ensures.gives))) (rw c.in_ok-cases.ensures.gives.part.2)
