use Rattle.wac_resolution_types.proofs.Common.{inl, inr, err_from_is_err_and, ty_of, error_model, values_of, reports}
use Rattle.wac_resolution_types.proofs.FuncParts.{result_type_is, borrow_breaks}
use Rattle.wac_resolution_types.proofs.results.result_type.Goals as goal

pub returns-in_err-value-clause-err : goal.returns-in_err-value-clause-err
returns-in_err-value-clause-err c =
    let p = err_from_is_err_and c.from_residual.result c.from_residual.ensures.1 in
    rw (p.1, p.2) (reports c.in_err-value.ensures.err (λ err numbering. inl (err numbering)))

pub returns-in_err-check_result-clause-err : goal.returns-in_err-check_result-clause-err
returns-in_err-check_result-clause-err c =
    let p = err_from_is_err_and c.from_residual-in_err-check_result.result c.from_residual-in_err-check_result.ensures.1 in
    rw (p.1, p.2) (inr (borrow_breaks c.args.state.now.graph c.value_type.new.state.graph (values_of c.args.names.now) (ty_of c.args.ty.now) c.in_ok-value.value (error_model c.in_err-check_result.field-0.0)
    c.in_ok-value.ensures.ok c.in_err-check_result.ensures.borrow c.in_err-check_result.ensures.err))

pub returns-clause-ok : goal.returns-clause-ok
returns-clause-ok c = result_type_is c.args.state.now.graph c.value_type.new.state.graph (values_of c.args.names.now) (ty_of c.args.ty.now) c.in_ok-value.value c.in_ok-value.ensures.ok c.in_ok-check_result.ensures.ok
