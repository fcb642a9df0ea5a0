use Rattle.wac_resolution_types.proofs.Common.{map, ap, refl, err_from_is_err_and, named_type_of, error_model, values_of, reports}
use Rattle.wac_graph_types.specs.declared.entry.FuncResults.TheVariants as given_results
use Rattle.wac_resolution_types.proofs.FuncParts.{scalar_is, scalar_breaks, named_are, named_break}
use Rattle.wac_resolution_types.proofs.results.results.Goals as goal

pub returns-in_err-result_type-in-Scalar-clause-err : goal.returns-in_err-result_type-in-Scalar-clause-err
returns-in_err-result_type-in-Scalar-clause-err c =
    let p = err_from_is_err_and c.from_residual.result c.from_residual.ensures.1 in
    rw (p.1, p.2) (reports c.in_err-result_type-in-Scalar.ensures.err (scalar_breaks c.args.kind c.args.state.now.graph (values_of c.args.names.now) c.args.results.now c.in-Scalar.ty (error_model c.in_err-result_type-in-Scalar.field-0.0) c.in-Scalar.is))

pub returns-in_ok-result_type-in-Scalar-clause-ok : goal.returns-in_ok-result_type-in-Scalar-clause-ok
returns-in_ok-result_type-in-Scalar-clause-ok c =
    scalar_is c.args.state.now.graph c.result_type.new.state.graph (values_of c.args.names.now) c.args.results.now c.in-Scalar.ty c.in_ok-result_type-in-Scalar.field-0 c.in-Scalar.is c.in_ok-result_type-in-Scalar.ensures.ok

pub returns-in_err-all-in-Named-clause-err : goal.returns-in_err-all-in-Named-clause-err
returns-in_err-all-in-Named-clause-err c =
    let p = err_from_is_err_and c.from_residual-in_err-all-in-Named.result c.from_residual-in_err-all-in-Named.ensures.1 in
    rw (p.1, p.2) (reports c.in_err-all-in-Named.ensures.err (named_break c.args.kind c.args.state.now.graph (values_of c.args.names.now) c.args.results.now c.in-Named.named (map named_type_of c.deref.result.now) (error_model c.in_err-all-in-Named.field-0.0) c.in-Named.is
    (ap (map named_type_of) c.deref.ensures.value)))

pub returns-in_ok-all-in-Named-clause-ok : goal.returns-in_ok-all-in-Named-clause-ok
returns-in_ok-all-in-Named-clause-ok c =
    named_are c.args.state.now.graph c.named_results.new.state.graph (values_of c.args.names.now) c.args.results.now c.in-Named.named (map named_type_of c.deref.result.now) (given_results.Named c.in_ok-all-in-Named.all) c.in_ok-all-in-Named.all.entries c.in-Named.is
    (ap (map named_type_of) c.deref.ensures.value) refl (λ f. refl) c.in_ok-all-in-Named.ensures.ok
