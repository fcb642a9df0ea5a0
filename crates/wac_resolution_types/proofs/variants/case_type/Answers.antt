use Rattle.wac_resolution_types.proofs.Common.{err_from_is_err_and, error_model, values_of, reports}
use Rattle.wac_resolution_types.proofs.DeclarationParts.{case_type_breaks}
use Rattle.wac_resolution_types.proofs.variants.case_type.Goals as goal

pub returns-in_err-value_type-in-Some-clause-err : goal.returns-in_err-value_type-in-Some-clause-err
returns-in_err-value_type-in-Some-clause-err c =
    let p = err_from_is_err_and c.from_residual.result c.from_residual.ensures.1 in
    rw (p.1, p.2) (reports c.in_err-value_type-in-Some.ensures.err (case_type_breaks c.args.state.now.graph (values_of c.args.names.now) c.args.ty.now c.in-Some.ty (error_model c.in_err-value_type-in-Some.field-0.0) c.in-Some.is))
