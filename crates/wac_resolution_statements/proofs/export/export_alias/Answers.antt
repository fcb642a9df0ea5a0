use Rattle.wac_resolution_statements.proofs.Common.{err_from_is_err_and, export_kind, error_model, reports, agrees_nodes}
use Rattle.wac_resolution_statements.specs.Externs.{help_of}
use Rattle.wac_resolution_statements.proofs.Exporting.{alias_there, alias_rejected, exports_alias}
use Rattle.wac_resolution_statements.proofs.export.export_alias.Goals as goal

pub export_as-requires-clause-agrees : goal.export_as-requires-clause-agrees
export_as-requires-clause-agrees g c =
    let made = alias_there c.args.state.now.graph c.alias.new.state.graph c.args.node.0 c.in_ok-alias.alias.0 c.args.name.now.text.now (export_kind c.args.state.now.graph c.args.node.0 c.args.name.now.text.now) c.requires.exported c.in_ok-alias.ensures in
    agrees_nodes c.args.state.now.graph c.alias.new.state.graph c.args.scope.now.root.now made.0 c.requires.agrees

pub returns-in_err-export_as-clause-err : goal.returns-in_err-export_as-clause-err
returns-in_err-export_as-clause-err g c =
    let p = err_from_is_err_and c.from_residual-in_err-export_as.result c.from_residual-in_err-export_as.ensures.1 in
    rw (p.1, p.2)
    (reports c.in_err-export_as.ensures.err
    (alias_rejected (g.R.Rules.named c.args.scope.now.rules.now) c.args.state.now.graph c.alias.new.state.graph c.args.scope.now.root.now c.args.externs.now c.args.node.0 c.in_ok-alias.alias.0 c.args.name.now.text.now c.args.name.now.span (help_of c.args.name.now)
    (error_model c.in_err-export_as.field-0.0) (export_kind c.args.state.now.graph c.args.node.0 c.args.name.now.text.now) c.in_ok-alias.ensures))

pub returns-clause-ok : goal.returns-clause-ok
returns-clause-ok g c =
    exports_alias c.args.name.now.span (g.R.Rules.named c.args.scope.now.rules.now) c.args.state.now.graph c.alias.new.state.graph c.export_as.new.state.graph c.args.scope.now.root.now c.args.externs.now c.export_as.new.externs c.args.name.now.text.now
    c.args.node.0 c.in_ok-alias.alias.0 (export_kind c.args.state.now.graph c.args.node.0 c.args.name.now.text.now) c.in_ok-alias.ensures c.in_ok-export_as.ensures.ok
