use Rattle.wac_resolution_worlds.proofs.Common.{ap, err_from_is_err_and, by_name, func_type_of, error_model, values_of, reports}
use Rattle.wac_resolution_worlds.proofs.Refer.{new_func_is, new_func_breaks}
use Rattle.wac_resolution_worlds.proofs.functions.new_func.Goals as goal

pub returns-in_err-function-clause-err : goal.returns-in_err-function-clause-err
returns-in_err-function-clause-err c =
    let p = err_from_is_err_and c.from_residual.result c.from_residual.ensures.1 in
    rw (p.1, p.2) (reports c.in_err-function.ensures.err (new_func_breaks c.args.state.now.graph (values_of c.args.names.now) (by_name c.new-first.result.entries) (func_type_of c.args.func.now) (error_model c.in_err-function.field-0.0) (ap by_name c.new-first.ensures.empty)))

pub returns-clause-ok : goal.returns-clause-ok
returns-clause-ok c =
    new_func_is c.args.state.now.graph c.function.new.state.graph (values_of c.args.names.now) (by_name c.new-first.result.entries) (func_type_of c.args.func.now) c.in_ok-function.field-0 (ap by_name c.new-first.ensures.empty) c.in_ok-function.ensures.ok
