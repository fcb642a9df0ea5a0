use Rattle.wac_ast_types.proofs.Common.{refl, enum_case}
use Rattle.wac_ast_base.proofs.Exits as x
use Rattle.wac_ast_base.proofs.Yields as y
use Rattle.wac_ast_types.proofs.enum_decl.EnumCaseParse.parse.Goals as goal

pub returns-in_err-id-clause-gives : goal.returns-in_err-id-clause-gives
returns-in_err-id-clause-gives c = x.exits enum_case _ _ _ c.from_residual-in_err-id.ensures.1 (x.with_docs (x.last c.in_err-id.ensures.gives))

pub returns-clause-gives : goal.returns-clause-gives
returns-clause-gives c = y.gives enum_case (y.docs_last c.in_ok-docs.ensures.docs c.in_ok-id.ensures.gives refl) refl
