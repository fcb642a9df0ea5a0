use Rattle.wac_resolution_statements.proofs.Common.{map, take, arith, string_bytes, err_from_is_err_and, take_all, length-map, Steps, error_model, ExportsOne, reports}
use Rattle.wac_resolution_statements.specs.Externs.{Under}
use Rattle.wac_resolution_statements.specs.Spreads.{exported_item}
use Rattle.wac_resolution_statements.proofs.Each.{none_yet, each_next, each_breaks, each_all, each_there, agrees_exports}
use Rattle.wac_resolution_statements.proofs.Exporting.{placed_more}
use Rattle.wac_resolution_statements.proofs.spread.export_each.Goals as goal

pub loop-text-init : goal.loop-text-init
loop-text-init g c = none_yet c.args.spread.now.dots (g.R.Rules.named c.args.scope.now.rules.now) c.args.state.now.graph c.args.scope.now.root.now c.args.externs.now c.args.spread.now.node.0 c.args.names.now c.requires.agrees

pub export_alias-requires-clause-agrees : goal.export_alias-requires-clause-agrees
export_alias-requires-clause-agrees g c = agrees_exports c.args.state.now.graph c.loop-text.state.graph c.args.scope.now.root.now c.loop-text.invariant.grows c.requires.agrees

pub export_alias-requires-clause-placed : goal.export_alias-requires-clause-placed
export_alias-requires-clause-placed g c =
    placed_more c.args.spread.now.dots c.args.state.now.graph c.loop-text.state.graph c.args.scope.now.root.now c.args.externs.now c.loop-text.externs (take c.loop-text.text-index (map string_bytes c.args.names.now))
    (λ numbering x y. Under (g.R.Rules.named c.args.scope.now.rules.now) (λ s. Steps (ExportsOne s c.args.spread.now.node.0) x (take c.loop-text.text-index (map (exported_item numbering c.args.state.now.graph c.args.spread.now.node.0) c.args.names.now)) y)) c.requires.placed c.loop-text.invariant

pub export_alias-requires-clause-exported : goal.export_alias-requires-clause-exported
export_alias-requires-clause-exported g c =
    each_there c.args.spread.now.dots (g.R.Rules.named c.args.scope.now.rules.now) c.args.state.now.graph c.loop-text.state.graph c.args.scope.now.root.now c.args.externs.now c.loop-text.externs c.args.spread.now.node.0 c.args.names.now c.loop-text.text-index c.text-item.result c.as_str.result.now
    c.loop-text-test.true c.text-item.is c.as_str.ensures.value c.requires.exported c.loop-text.invariant

pub returns-in_err-export_alias-clause-err : goal.returns-in_err-export_alias-clause-err
returns-in_err-export_alias-clause-err g c =
    let p = err_from_is_err_and c.from_residual.result c.from_residual.ensures.1 in
    rw (p.1, p.2)
    (reports c.in_err-export_alias.ensures.err
    (each_breaks c.args.spread.now.dots (g.R.Rules.named c.args.scope.now.rules.now) c.args.state.now.graph c.loop-text.state.graph c.args.scope.now.root.now c.args.externs.now c.loop-text.externs c.args.spread.now.node.0 c.args.names.now c.loop-text.text-index c.text-item.result c.as_str.result.now
    (error_model c.in_err-export_alias.field-0.0) c.loop-text-test.true c.text-item.is c.as_str.ensures.value c.requires.exported c.loop-text.invariant))

pub loop-text-preserved : goal.loop-text-preserved
loop-text-preserved g c =
    each_next c.args.spread.now.dots (g.R.Rules.named c.args.scope.now.rules.now) c.args.state.now.graph c.loop-text.state.graph c.export_alias.new.state.graph c.args.scope.now.root.now c.args.externs.now c.loop-text.externs c.export_alias.new.externs c.args.spread.now.node.0 c.args.names.now
    c.loop-text.text-index c.text-item.result c.as_str.result.now c.loop-text-test.true c.text-item.is c.as_str.ensures.value c.requires.exported c.loop-text.invariant c.in_ok-export_alias.ensures.ok

pub returns-clause-ok : goal.returns-clause-ok
returns-clause-ok g c =
    each_all c.args.spread.now.dots (g.R.Rules.named c.args.scope.now.rules.now) c.args.state.now.graph c.loop-text.state.graph c.args.scope.now.root.now c.args.externs.now c.loop-text.externs c.args.spread.now.node.0 c.args.names.now c.loop-text.text-index
    (take_all c.loop-text.text-index (map string_bytes c.args.names.now) (omega (arith, length-map c.args.names.now string_bytes)))
    (λ numbering. take_all c.loop-text.text-index (map (exported_item numbering c.args.state.now.graph c.args.spread.now.node.0) c.args.names.now) (omega (arith, length-map c.args.names.now (exported_item numbering c.args.state.now.graph c.args.spread.now.node.0)))) c.loop-text.invariant
