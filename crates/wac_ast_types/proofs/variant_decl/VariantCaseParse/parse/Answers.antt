use Rattle.wac_ast_types.proofs.Common.{refl, variant_case}
use Rattle.wac_ast_types.proofs.Built.{case_built}
use Rattle.wac_ast_base.proofs.Exits as x
use Rattle.wac_ast_base.proofs.Yields as y
use Rattle.wac_ast_types.proofs.variant_decl.VariantCaseParse.parse.Goals as goal

pub returns-in_err-id-clause-gives : goal.returns-in_err-id-clause-gives
returns-in_err-id-clause-gives c = x.exits variant_case _ _ _ c.from_residual-in_err-id.ensures.1 (x.with_docs (x.here c.in_err-id.ensures.gives))

pub returns-in_err-ty-clause-gives : goal.returns-in_err-ty-clause-gives
returns-in_err-ty-clause-gives c = x.exits variant_case _ _ _ c.from_residual-in_err-ty.ensures.1 (x.with_docs (x.past c.in_ok-id.ensures.gives (x.last_piece c.in_err-ty.ensures.gives)))

pub returns-clause-gives : goal.returns-clause-gives
returns-clause-gives c = y.gives variant_case (y.docs_past c.in_ok-docs.ensures.docs c.in_ok-id.ensures.gives refl (y.last_piece c.in_ok-ty.ensures.gives)) (rw (case_built _ _ c.in_ok-ty.ensures.gives.part.0, c.in_ok-ty.ensures.gives.part.2))
