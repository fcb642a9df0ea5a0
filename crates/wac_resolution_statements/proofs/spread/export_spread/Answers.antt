use Rattle.wac_resolution_statements.proofs.Common.{◌≡◌, ◌∙◌, List, sym, subst, map, inr, string_bytes, String, Global, err_from_is_err_and, interface_exports, error_model, reports}
use Rattle.wac_resolution_statements.specs.Spreads.{AreUnexported}
use Rattle.wac_resolution_statements.proofs.Spreading.{open_exported, none_left, some_left}
use Rattle.wac_resolution_statements.proofs.Each.{spreads, no_effect, spread_of_other, spread_breaks}
use Rattle.wac_resolution_statements.proofs.spread.export_spread.Goals as goal

pub returns-in_err-interface-clause-err : goal.returns-in_err-interface-clause-err
returns-in_err-interface-clause-err g c =
    let p = err_from_is_err_and c.from_residual.result c.from_residual.ensures.1 in
    rw (p.1, p.2) (inr (spread_of_other (g.R.Rules.named c.args.scope.now.rules.now) c.args.state.now.graph c.args.scope.now.root.now c.args.externs.now c.args.exported.now.node.0 c.args.exported.now.span c.args.dots (error_model c.in_err-interface.field-0.0) c.in_err-interface.ensures.err))

pub returns-then-is_empty-clause-err : goal.returns-then-is_empty-clause-err
returns-then-is_empty-clause-err g c =
    inr (no_effect (g.R.Rules.named c.args.scope.now.rules.now) c.args.state.now.graph c.args.scope.now.root.now c.args.externs.now c.args.exported.now.node.0 c.in_ok-interface.interface c.in_ok-names.names.items c.args.exported.now.span c.args.dots c.in_ok-interface.ensures.ok c.in_ok-names.ensures
    (none_left c.in_ok-names.names.items c.in_ok-names.names.len c.in_ok-names.names.ok.0 (sym c.is_empty.ensures ∙ c.if-is_empty.true)))

pub export_each-requires-clause-exported : goal.export_each-requires-clause-exported
export_each-requires-clause-exported g c =
    let same : c.deref.result.now ≡ c.in_ok-names.names.items = (let value = c.deref.ensures.value in cc) in
    open_exported c.args.state.now.graph c.args.exported.now.node.0 c.in_ok-interface.interface (map string_bytes c.deref.result.now) c.in_ok-interface.ensures.ok
    (subst (λ (l : List (String Global)). AreUnexported c.args.state.now.graph.exports (interface_exports c.args.state.now.graph.types c.in_ok-interface.interface.0) (map string_bytes l)) (sym same) c.in_ok-names.ensures)

pub returns-in_err-export_each-clause-err : goal.returns-in_err-export_each-clause-err
returns-in_err-export_each-clause-err g c =
    let same : c.deref.result.now ≡ c.in_ok-names.names.items = (let value = c.deref.ensures.value in cc) in
    let p = err_from_is_err_and c.from_residual-in_err-export_each.result c.from_residual-in_err-export_each.ensures.1 in
    rw (p.1, p.2)
    (reports c.in_err-export_each.ensures.err
    (spread_breaks (g.R.Rules.named c.args.scope.now.rules.now) c.args.state.now.graph c.args.scope.now.root.now c.args.externs.now c.args.exported.now.node.0 c.in_ok-interface.interface c.deref.result.now c.args.exported.now.span c.args.dots (error_model c.in_err-export_each.field-0.0) c.in_ok-interface.ensures.ok
    (subst (λ (l : List (String Global)). AreUnexported c.args.state.now.graph.exports (interface_exports c.args.state.now.graph.types c.in_ok-interface.interface.0) (map string_bytes l)) (sym same) c.in_ok-names.ensures)))

pub returns-clause-ok : goal.returns-clause-ok
returns-clause-ok g c =
    let same : c.deref.result.now ≡ c.in_ok-names.names.items = (let value = c.deref.ensures.value in cc) in
    spreads c.args.dots (g.R.Rules.named c.args.scope.now.rules.now) c.args.state.now.graph c.export_each.new.state.graph c.args.scope.now.root.now c.args.externs.now c.export_each.new.externs c.args.exported.now.node.0 c.in_ok-interface.interface c.deref.result.now
    c.requires.placed c.in_ok-interface.ensures.ok
    (subst (λ (l : List (String Global)). AreUnexported c.args.state.now.graph.exports (interface_exports c.args.state.now.graph.types c.in_ok-interface.interface.0) (map string_bytes l)) (sym same) c.in_ok-names.ensures)
    (λ none. some_left c.in_ok-names.names.items c.in_ok-names.names.len c.in_ok-names.names.ok.0 (sym c.is_empty.ensures ∙ c.if-is_empty.false) (sym same ∙ none)) c.in_ok-export_each.ensures.ok
