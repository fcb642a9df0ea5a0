use Rattle.wac_resolution_types.proofs.Common.{map, List, subst, inl, err_from_is_err_and, by_name, named_type_of, func_type_of, error_model, ParamsBroken, values_of, scope_of, reports}
use Rattle.wac_ast_types.specs.declared.func_type.NamedType.{NamedType}
use Rattle.wac_resolution_types.specs.Funcs.{given, types_named, ParamSteps}
use Rattle.wac_resolution_types.proofs.NamedParts.{parts_still_named}
use Rattle.wac_resolution_types.proofs.FuncParts.{func_is, func_kinds, func_results_break}
use Rattle.wac_resolution_types.proofs.func.function.Goals as goal

pub returns-in_err-take_params-clause-err : goal.returns-in_err-take_params-clause-err
returns-in_err-take_params-clause-err c =
    let g = c.args.state.now.graph in
    let p = err_from_is_err_and c.from_residual.result c.from_residual.ensures.1 in
    rw (p.1, p.2) (reports c.in_err-take_params.ensures.err (λ err numbering.
    inl (subst (λ (l : List NamedType). ParamsBroken c.args.kind (scope_of numbering g (values_of c.args.names.now)) (types_named numbering g (by_name c.args.first.entries)) (map named_type_of l) (error_model c.in_err-take_params.field-0.0)) c.deref.ensures.value (err numbering))))

pub returns-in_err-results-clause-err : goal.returns-in_err-results-clause-err
returns-in_err-results-clause-err c =
    let go = subst (λ (l : List NamedType). ParamSteps c.args.state.now.graph c.take_params.new.state.graph (values_of c.args.names.now) (by_name c.args.first.entries) (by_name c.take_params.new.all.entries) (map named_type_of l)) c.deref.ensures.value c.in_ok-take_params.ensures.ok in
    let p = err_from_is_err_and c.from_residual-in_err-results.result c.from_residual-in_err-results.ensures.1 in
    rw (p.1, p.2) (reports c.in_err-results.ensures.err (func_results_break c.args.kind c.args.state.now.graph c.take_params.new.state.graph (values_of c.args.names.now) (by_name c.args.first.entries) (by_name c.take_params.new.all.entries) (func_type_of c.args.func.now) (error_model c.in_err-results.field-0.0)
    c.requires.scope go))

pub add_func-requires : goal.add_func-requires
add_func-requires c =
    func_kinds c.results.new.state.graph.types c.in_ok-results.results c.take_params.new.all.entries c.in_ok-results.ensures.ok.named
    (parts_still_named given c.take_params.new.state.graph c.results.new.state.graph (by_name c.take_params.new.all.entries) c.in_ok-results.ensures.ok.grows.grows c.in_ok-take_params.ensures.ok.named)

pub returns-clause-ok : goal.returns-clause-ok
returns-clause-ok c =
    let go = subst (λ (l : List NamedType). ParamSteps c.args.state.now.graph c.take_params.new.state.graph (values_of c.args.names.now) (by_name c.args.first.entries) (by_name c.take_params.new.all.entries) (map named_type_of l)) c.deref.ensures.value c.in_ok-take_params.ensures.ok in
    func_is c.args.state.now.graph c.take_params.new.state.graph c.results.new.state.graph c.add_func.new.self.graph (values_of c.args.names.now) (by_name c.args.first.entries) (by_name c.take_params.new.all.entries) (func_type_of c.args.func.now) c.in_ok-results.results c.in_ok-add_func.field-0
    c.requires.scope go c.in_ok-results.ensures.ok c.in_ok-add_func.ensures
