use Rattle.wac_resolution_types.proofs.Common.{map, [], ◌≡◌, rules, err_from_is_err_and, by_name, named_type_of, error_model, values_of, reports}
use Rattle.wac_graph_types.specs.declared.kind.ItemKind.TheVariants as kinds
use Rattle.wac_graph_types.specs.declared.kind.«Type».TheVariants as types
use Rattle.wac_graph_types.specs.declared.kind.ValueType.TheVariants as values
use Rattle.wac_graph_types.specs.declared.entry.FuncResults.TheVariants as given_results
use Rattle.wac_resolution_types.proofs.FuncParts.{func_kinds, constructor_is, constructor_breaks}
use Rattle.wac_resolution_types.proofs.DeclarationParts.{none_named}
use Rattle.wac_resolution_types.proofs.func.constructor.Goals as goal

pub returns-in_err-take_params-clause-err : goal.returns-in_err-take_params-clause-err
returns-in_err-take_params-clause-err c =
    let p = err_from_is_err_and c.from_residual.result c.from_residual.ensures.1 in
    let empty : c.new-all.result.entries ≡ [] = search rules in
    rw (p.1, p.2) (reports c.in_err-take_params.ensures.err (constructor_breaks c.args.state.now.graph (values_of c.args.names.now) (by_name c.new-all.result.entries) (map named_type_of c.args.params.now) (error_model c.in_err-take_params.field-0.0)
    (none_named c.new-all.result.entries empty)))

pub add_func-requires : goal.add_func-requires
add_func-requires c =
    func_kinds c.take_params.new.state.graph.types (given_results.Scalar (values.Own c.args.resource)) c.take_params.new.all.entries (c.in_ok-take_params.ensures.ok.grows.grows.named (kinds.Ty (types.Resource c.args.resource)) c.requires.resource, tt) c.in_ok-take_params.ensures.ok.named

pub returns-clause-ok : goal.returns-clause-ok
returns-clause-ok c =
    let empty : c.new-all.result.entries ≡ [] = search rules in
    constructor_is c.args.state.now.graph c.take_params.new.state.graph c.add_func.new.self.graph (values_of c.args.names.now) (by_name c.new-all.result.entries) (by_name c.take_params.new.all.entries) c.args.resource (map named_type_of c.args.params.now) c.in_ok-add_func.field-0
    (none_named c.new-all.result.entries empty) c.requires.resource c.in_ok-take_params.ensures.ok c.in_ok-add_func.ensures
