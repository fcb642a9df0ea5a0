use Rattle.wac_resolution_statements.proofs.Common.{sym, err_from_is_err_and}
use Rattle.wac_resolution_statements.specs.Externs.{exported_in}
use Rattle.wac_resolution_statements.proofs.Checks.{fresh_too}
use Rattle.wac_resolution_statements.proofs.Exporting.{exports_as}
use Rattle.wac_resolution_statements.proofs.export.export_as.Goals as goal

pub returns-in_err-check_export-clause-err : goal.returns-in_err-check_export-clause-err
returns-in_err-check_export-clause-err g c =
    let p = err_from_is_err_and c.from_residual.result c.from_residual.ensures.1 in
    rw (p.1, p.2) c.in_err-check_export.ensures.err

pub add_export-requires-2 : goal.add_export-requires-2
add_export-requires-2 g c = fresh_too c.args.name.now.text.now c.args.state.now.graph.exports (exported_in c.args.externs.now) (sym c.requires.placed.exported) c.in_ok-check_export.ensures.ok.new

pub returns-clause-ok : goal.returns-clause-ok
returns-clause-ok g c =
    exports_as c.args.name.now.span (g.R.Rules.named c.args.scope.now.rules.now) c.args.state.now.graph c.add_export.new.self c.args.scope.now.root.now c.args.externs.now c.add_export-2.new.self c.args.name.now.text.now c.args.node.0
    c.requires.agrees c.in_ok-check_export.ensures.ok c.in_ok-add_export.ensures.ok c.in_ok-add_export-2.ensures.exported c.in_ok-add_export-2.ensures.imported
