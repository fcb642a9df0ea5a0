use Rattle.wac_resolution_types.proofs.Common.{◌≡◌, [], sym, subst, map, take, arith, rules, err_from_is_err_and, take_all, length-map, by_name, Named, ValueType, named_type_of, error_model, HasResult, ResultBroken, values_of, reports, still_named}
use Rattle.wac_resolution_types.specs.Funcs.{given, ResultSteps}
use Rattle.wac_resolution_types.proofs.NamedParts.{no_parts, parts_step, parts_all, parts_break}
use Rattle.wac_resolution_types.proofs.DeclarationParts.{none_named}
use Rattle.wac_resolution_types.proofs.results.named_results.Goals as goal

pub loop-result-init : goal.loop-result-init
loop-result-init c =
    let empty : c.new-all.result.entries ≡ [] = search rules in
    subst (λ (l : Named ValueType). ResultSteps c.args.state.now.graph c.args.state.now.graph (values_of c.args.names.now) [] l []) (sym (none_named c.new-all.result.entries empty))
    (no_parts given HasResult c.args.state.now.graph (values_of c.args.names.now) [] tt)

pub named_result-requires-clause-scope : goal.named_result-requires-clause-scope
named_result-requires-clause-scope c = still_named c.args.state.now.graph c.loop-result.state.graph (values_of c.args.names.now) c.loop-result.invariant.grows.grows c.requires

pub named_result-requires-clause-parts : goal.named_result-requires-clause-parts
named_result-requires-clause-parts c = c.loop-result.invariant.named

pub returns-in_err-named_result-clause-err : goal.returns-in_err-named_result-clause-err
returns-in_err-named_result-clause-err c =
    let p = err_from_is_err_and c.from_residual.result c.from_residual.ensures.1 in
    rw (p.1, p.2) (reports c.in_err-named_result.ensures.err (parts_break given HasResult (λ s. ResultBroken c.args.kind s (error_model c.in_err-named_result.field-0.0)) named_type_of c.args.state.now.graph c.loop-result.state.graph (values_of c.args.names.now) [] (by_name c.loop-result.all.entries) c.args.named.now c.loop-result.result-index c.result-item.result
    c.loop-result-test.true c.result-item.is c.requires c.loop-result.invariant))

pub loop-result-preserved : goal.loop-result-preserved
loop-result-preserved c =
    parts_step given HasResult named_type_of c.args.state.now.graph c.loop-result.state.graph c.named_result.new.state.graph (values_of c.args.names.now) [] (by_name c.loop-result.all.entries) (by_name c.named_result.new.all.entries) c.args.named.now c.loop-result.result-index c.result-item.result
    c.loop-result-test.true c.result-item.is c.requires c.loop-result.invariant c.in_ok-named_result.ensures.ok

pub returns-clause-ok : goal.returns-clause-ok
returns-clause-ok c =
    parts_all given HasResult c.args.state.now.graph c.loop-result.state.graph (values_of c.args.names.now) [] (by_name c.loop-result.all.entries) (take c.loop-result.result-index (map named_type_of c.args.named.now)) (map named_type_of c.args.named.now)
    (take_all c.loop-result.result-index (map named_type_of c.args.named.now) (omega (arith, length-map c.args.named.now named_type_of))) c.loop-result.invariant
