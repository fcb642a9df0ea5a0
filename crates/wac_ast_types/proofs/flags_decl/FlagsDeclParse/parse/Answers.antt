use Rattle.wac_ast_types.proofs.Common.{flags_decl}
use Rattle.wac_ast_base.proofs.Exits as x
use Rattle.wac_ast_base.proofs.Yields as y
use Rattle.wac_ast_types.proofs.Heads.{head_fails, head_past, head_and, head_docs, head_id}
use Rattle.wac_ast_types.proofs.flags_decl.FlagsDeclParse.parse.Goals as goal

pub returns-in_err-docs-clause-gives : goal.returns-in_err-docs-clause-gives
returns-in_err-docs-clause-gives c = x.exits flags_decl _ _ _ c.from_residual.ensures.1 (head_fails c.in_err-docs.ensures.gives)

pub returns-in_err-flags-clause-gives : goal.returns-in_err-flags-clause-gives
returns-in_err-flags-clause-gives c = x.exits flags_decl _ _ _ c.from_residual-in_err-flags.ensures.1 (head_past c.in_ok-docs.ensures.gives (x.last_piece c.in_err-flags.ensures.gives))

pub returns-clause-gives : goal.returns-clause-gives
returns-clause-gives c = y.gives flags_decl (head_and c.in_ok-docs.ensures.gives (y.last_piece c.in_ok-flags.ensures.gives)) (rw (head_docs c.in_ok-docs.ensures.gives, head_id c.in_ok-docs.ensures.gives, c.in_ok-flags.ensures.gives.part.2))
