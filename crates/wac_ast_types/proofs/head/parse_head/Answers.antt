use Rattle.wac_ast_types.proofs.Common.{refl}
use Rattle.wac_ast_base.proofs.Exits as x
use Rattle.wac_ast_base.proofs.Yields as y
use Rattle.wac_ast_types.proofs.head.parse_head.Goals as goal

pub returns-in_err-comments-clause-gives : goal.returns-in_err-comments-clause-gives
returns-in_err-comments-clause-gives c = x.part_exits _ c.from_residual.ensures.1 (x.memory c.in_err-comments.ensures.refused)

pub returns-in_err-take_token-clause-gives : goal.returns-in_err-take_token-clause-gives
returns-in_err-take_token-clause-gives c = x.part_exits _ c.from_residual-in_err-take_token.ensures.1 (x.with_docs (x.here c.in_err-take_token.ensures.takes))

pub returns-in_err-id-clause-gives : goal.returns-in_err-id-clause-gives
returns-in_err-id-clause-gives c = x.part_exits _ c.from_residual-in_err-id.ensures.1 (x.with_docs (x.took c.in_ok-take_token.ensures.takes (x.last c.in_err-id.ensures.gives)))

pub returns-clause-gives : goal.returns-clause-gives
returns-clause-gives c = y.part (y.docs_took c.in_ok-comments.ensures.docs c.in_ok-take_token.ensures.takes (y.last c.in_ok-id.ensures.gives)) refl
