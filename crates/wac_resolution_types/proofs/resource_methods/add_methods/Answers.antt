use Rattle.wac_resolution_types.proofs.Common.{map, take, [], arith, err_from_is_err_and, take_all, length-map, resource_method_of, entry_means, error_model, HasMethod, reports}
use Rattle.wac_graph_types.specs.declared.kind.ItemKind.TheVariants as kinds
use Rattle.wac_graph_types.specs.declared.kind.«Type».TheVariants as types
use Rattle.wac_resolution_types.specs.Lists.{lists_of}
use Rattle.wac_resolution_types.proofs.Going.{none_go, items_all}
use Rattle.wac_resolution_types.proofs.Methods.{methods_step, methods_break}
use Rattle.wac_resolution_types.proofs.resource_methods.add_methods.Goals as goal

pub loop-method-init : goal.loop-method-init
loop-method-init c = none_go (λ numbering. HasMethod c.args.side c.args.resource.now.name.now (entry_means numbering c.args.state.now.graph c.args.resource.now.id.0)) c.args.side c.args.state.now.graph (lists_of c.args.body.now) c.requires.body

pub add_either-requires-clause-body : goal.add_either-requires-clause-body
add_either-requires-clause-body c = c.loop-method.invariant.body

pub add_either-requires-clause-resource : goal.add_either-requires-clause-resource
add_either-requires-clause-resource c = c.loop-method.invariant.grows.named (kinds.Ty (types.Resource c.args.resource.now.id)) c.requires.resource

pub returns-in_err-add_either-clause-err : goal.returns-in_err-add_either-clause-err
returns-in_err-add_either-clause-err c =
    let p = err_from_is_err_and c.from_residual.result c.from_residual.ensures.1 in
    rw (p.1, p.2) (reports c.in_err-add_either.ensures.err (methods_break resource_method_of c.args.side c.args.state.now.graph c.loop-method.state.graph (lists_of c.args.body.now) (lists_of c.loop-method.body) c.args.resource.now.name.now c.args.resource.now.id c.args.methods.now c.loop-method.method-index c.method-item.result (error_model c.in_err-add_either.field-0.0)
    c.loop-method-test.true c.method-item.is c.requires.resource c.loop-method.invariant))

pub loop-method-preserved : goal.loop-method-preserved
loop-method-preserved c =
    methods_step resource_method_of c.args.side c.args.state.now.graph c.loop-method.state.graph c.add_either.new.state.graph (lists_of c.args.body.now) (lists_of c.loop-method.body) (lists_of c.add_either.new.body) c.args.resource.now.name.now c.args.resource.now.id c.args.methods.now c.loop-method.method-index c.method-item.result
    c.loop-method-test.true c.method-item.is c.requires.resource c.loop-method.invariant c.in_ok-add_either.ensures.ok

pub returns-clause-ok : goal.returns-clause-ok
returns-clause-ok c =
    items_all (λ numbering. HasMethod c.args.side c.args.resource.now.name.now (entry_means numbering c.args.state.now.graph c.args.resource.now.id.0)) c.args.side c.args.state.now.graph c.loop-method.state.graph (lists_of c.args.body.now) (lists_of c.loop-method.body) []
    (take c.loop-method.method-index (map resource_method_of c.args.methods.now)) (map resource_method_of c.args.methods.now) (take_all c.loop-method.method-index (map resource_method_of c.args.methods.now) (omega (arith, length-map c.args.methods.now resource_method_of))) c.loop-method.invariant
