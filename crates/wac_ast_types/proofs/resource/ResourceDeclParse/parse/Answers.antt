use Rattle.wac_ast_types.proofs.Built.{resource_built}
use Rattle.wac_ast_types.proofs.Common.{resource_decl}
use Rattle.wac_ast_base.proofs.Exits as x
use Rattle.wac_ast_base.proofs.Yields as y
use Rattle.wac_ast_types.proofs.Heads.{head_fails, head_past, head_and, head_docs, head_id}
use Rattle.wac_ast_types.proofs.resource.ResourceDeclParse.parse.Goals as goal

pub returns-in_err-docs-clause-gives : goal.returns-in_err-docs-clause-gives
returns-in_err-docs-clause-gives c = x.exits resource_decl _ _ _ c.from_residual.ensures.1 (head_fails c.in_err-docs.ensures.gives)

pub returns-in_err-methods-clause-gives : goal.returns-in_err-methods-clause-gives
returns-in_err-methods-clause-gives c = x.exits resource_decl _ _ _ c.from_residual-in_err-methods.ensures.1 (head_past c.in_ok-docs.ensures.gives (x.last_piece c.in_err-methods.ensures.gives))

pub returns-clause-gives : goal.returns-clause-gives
returns-clause-gives c = y.gives resource_decl (head_and c.in_ok-docs.ensures.gives (y.last_piece c.in_ok-methods.ensures.gives)) (rw (resource_built _ _ _ c.in_ok-methods.ensures.gives.part.0, head_docs c.in_ok-docs.ensures.gives, head_id c.in_ok-docs.ensures.gives, c.in_ok-methods.ensures.gives.part.2))
