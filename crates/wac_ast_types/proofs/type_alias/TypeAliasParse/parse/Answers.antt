use Rattle.wac_ast_types.proofs.Common.{type_alias}
use Rattle.wac_ast_base.proofs.Exits as x
use Rattle.wac_ast_base.proofs.Yields as y
use Rattle.wac_ast_types.proofs.Heads.{head_fails, head_past, head_and, head_docs, head_id}
use Rattle.wac_ast_types.proofs.type_alias.TypeAliasParse.parse.Goals as goal

pub returns-in_err-docs-clause-gives : goal.returns-in_err-docs-clause-gives
returns-in_err-docs-clause-gives c = x.exits type_alias _ _ _ c.from_residual.ensures.1 (head_fails c.in_err-docs.ensures.gives)

pub returns-in_err-take_token-clause-gives : goal.returns-in_err-take_token-clause-gives
returns-in_err-take_token-clause-gives c = x.exits type_alias _ _ _ c.from_residual-in_err-take_token.ensures.1 (head_past c.in_ok-docs.ensures.gives (x.here c.in_err-take_token.ensures.takes))

pub returns-in_err-kind-clause-gives : goal.returns-in_err-kind-clause-gives
returns-in_err-kind-clause-gives c = x.exits type_alias _ _ _ c.from_residual-in_err-kind.ensures.1 (head_past c.in_ok-docs.ensures.gives (x.took c.in_ok-take_token.ensures.takes (x.last_piece c.in_err-kind.ensures.gives)))

pub returns-clause-gives : goal.returns-clause-gives
returns-clause-gives c = y.gives type_alias (head_and c.in_ok-docs.ensures.gives (y.took c.in_ok-take_token.ensures.takes (y.last_piece c.in_ok-kind.ensures.gives))) (rw (head_docs c.in_ok-docs.ensures.gives, head_id c.in_ok-docs.ensures.gives, c.in_ok-kind.ensures.gives.part.2))
