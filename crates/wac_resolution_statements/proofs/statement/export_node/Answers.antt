use Rattle.wac_resolution_statements.proofs.Common.{sym, subst, Span, ExportOptions, at, ExportsBy, reports}
use Rattle.wac_resolution_statements.specs.Externs.{Under}
use Rattle.wac_resolution_statements.specs.Exports.{Exported}
use Rattle.wac_resolution_statements.proofs.Results.{on_ok, if_err}
use Rattle.wac_resolution_statements.proofs.statement.export_node.Goals as goal

pub returns-in-None-clause-ok : goal.returns-in-None-clause-ok
returns-in-None-clause-ok g c =
    rw c.in-None.is
    (on_ok _ _ c.export_unnamed.result
    (λ e x same. subst (λ (p : Span). Exported p c.args.state.now.graph c.export_unnamed.new.state.graph c.args.scope.now.root.now c.args.externs.now c.export_unnamed.new.externs (λ numbering old new. Under (g.R.Rules.named c.args.scope.now.rules.now) (λ s. ExportsBy s (at old c.args.exported.now.node.0) ExportOptions.none new))) (sym same) e)
    c.export_unnamed.ensures.ok)

pub returns-in-None-clause-err : goal.returns-in-None-clause-err
returns-in-None-clause-err g c = rw c.in-None.is c.export_unnamed.ensures.err

pub returns-in-Spread-clause-ok : goal.returns-in-Spread-clause-ok
returns-in-Spread-clause-ok g c = rw c.in-Spread.is (on_ok _ _ c.export_spread.result (λ e x same. e) c.export_spread.ensures.ok)

pub returns-in-Spread-clause-err : goal.returns-in-Spread-clause-err
returns-in-Spread-clause-err g c = rw c.in-Spread.is c.export_spread.ensures.err

pub returns-in-Rename-clause-ok : goal.returns-in-Rename-clause-ok
returns-in-Rename-clause-ok g c = rw c.in-Rename.is (on_ok _ _ c.export_renamed.result (λ e x same. e) c.export_renamed.ensures.ok)

pub returns-in-Rename-clause-err : goal.returns-in-Rename-clause-err
returns-in-Rename-clause-err g c = rw c.in-Rename.is (if_err _ _ c.export_renamed.result (λ e h. reports h (λ broken numbering x same. broken numbering x)) c.export_renamed.ensures.err)
