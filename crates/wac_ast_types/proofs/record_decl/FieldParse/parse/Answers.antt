use Rattle.wac_ast_types.proofs.Common.{refl, field}
use Rattle.wac_ast_base.proofs.Exits as x
use Rattle.wac_ast_base.proofs.Yields as y
use Rattle.wac_ast_types.proofs.record_decl.FieldParse.parse.Goals as goal

pub returns-in_err-named-clause-gives : goal.returns-in_err-named-clause-gives
returns-in_err-named-clause-gives c = x.exits field _ _ _ c.from_residual-in_err-named.ensures.1 (x.with_docs (x.last c.in_err-named.ensures.gives))

pub returns-clause-gives : goal.returns-clause-gives
returns-clause-gives c = y.gives field (y.docs_last c.in_ok-docs.ensures.docs c.in_ok-named.ensures.gives refl) refl
