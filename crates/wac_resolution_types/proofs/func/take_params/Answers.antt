use Rattle.wac_resolution_types.proofs.Common.{map, take, arith, err_from_is_err_and, take_all, length-map, by_name, named_type_of, error_model, HasParam, ParamBroken, values_of, reports, still_named}
use Rattle.wac_resolution_types.specs.Funcs.{given}
use Rattle.wac_resolution_types.proofs.NamedParts.{no_parts, parts_step, parts_all, parts_break}
use Rattle.wac_resolution_types.proofs.func.take_params.Goals as goal

pub loop-param-init : goal.loop-param-init
loop-param-init c = no_parts given HasParam c.args.state.now.graph (values_of c.args.names.now) (by_name c.args.all.now.entries) c.requires.parts

pub take_param-requires-clause-scope : goal.take_param-requires-clause-scope
take_param-requires-clause-scope c = still_named c.args.state.now.graph c.loop-param.state.graph (values_of c.args.names.now) c.loop-param.invariant.grows.grows c.requires.scope

pub take_param-requires-clause-parts : goal.take_param-requires-clause-parts
take_param-requires-clause-parts c = c.loop-param.invariant.named

pub returns-in_err-take_param-clause-err : goal.returns-in_err-take_param-clause-err
returns-in_err-take_param-clause-err c =
    let p = err_from_is_err_and c.from_residual.result c.from_residual.ensures.1 in
    rw (p.1, p.2) (reports c.in_err-take_param.ensures.err (parts_break given HasParam (λ s. ParamBroken c.args.kind s (error_model c.in_err-take_param.field-0.0)) named_type_of c.args.state.now.graph c.loop-param.state.graph (values_of c.args.names.now) (by_name c.args.all.now.entries) (by_name c.loop-param.all.entries) c.args.params.now c.loop-param.param-index c.param-item.result
    c.loop-param-test.true c.param-item.is c.requires.scope c.loop-param.invariant))

pub loop-param-preserved : goal.loop-param-preserved
loop-param-preserved c =
    parts_step given HasParam named_type_of c.args.state.now.graph c.loop-param.state.graph c.take_param.new.state.graph (values_of c.args.names.now) (by_name c.args.all.now.entries) (by_name c.loop-param.all.entries) (by_name c.take_param.new.all.entries) c.args.params.now c.loop-param.param-index c.param-item.result
    c.loop-param-test.true c.param-item.is c.requires.scope c.loop-param.invariant c.in_ok-take_param.ensures.ok

pub returns-clause-ok : goal.returns-clause-ok
returns-clause-ok c =
    parts_all given HasParam c.args.state.now.graph c.loop-param.state.graph (values_of c.args.names.now) (by_name c.args.all.now.entries) (by_name c.loop-param.all.entries) (take c.loop-param.param-index (map named_type_of c.args.params.now)) (map named_type_of c.args.params.now)
    (take_all c.loop-param.param-index (map named_type_of c.args.params.now) (omega (arith, length-map c.args.params.now named_type_of))) c.loop-param.invariant
