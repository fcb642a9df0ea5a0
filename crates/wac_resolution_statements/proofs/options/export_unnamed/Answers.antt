use Rattle.wac_resolution_statements.proofs.Common.{◌∙◌, Some, sym, ap, err_from_is_err_and, error_model, reports}
use Rattle.wac_resolution_statements.proofs.Unnamed.{exports_unnamed, unnamed_broken, own_name_broken}
use Rattle.wac_resolution_statements.proofs.options.export_unnamed.Goals as goal

pub returns-in_err-text-clause-err : goal.returns-in_err-text-clause-err
returns-in_err-text-clause-err g c =
    let p = err_from_is_err_and c.from_residual.result c.from_residual.ensures.1 in
    rw (p.1, p.2) (reports c.in_err-text.ensures.err (unnamed_broken (g.R.Rules.named c.args.scope.now.rules.now) c.args.state.now.graph c.args.scope.now.root.now c.args.externs.now c.args.node.0 c.args.span (error_model c.in_err-text.field-0.0)))

pub returns-in_err-export_as-clause-err : goal.returns-in_err-export_as-clause-err
returns-in_err-export_as-clause-err g c =
    let p = err_from_is_err_and c.from_residual-in_err-export_as.result c.from_residual-in_err-export_as.ensures.1 in
    rw (p.1, p.2)
    (reports c.in_err-export_as.ensures.err
    (own_name_broken (g.R.Rules.named c.args.scope.now.rules.now) c.args.state.now.graph c.args.scope.now.root.now c.args.externs.now c.args.node.0 c.as_str.result.now c.args.span (error_model c.in_err-export_as.field-0.0)
    (λ numbering declared. c.in_ok-text.ensures.ok numbering declared ∙ ap Some (sym c.as_str.ensures.value))))

pub returns-clause-ok : goal.returns-clause-ok
returns-clause-ok g c =
    exports_unnamed c.args.span (g.R.Rules.named c.args.scope.now.rules.now) c.args.state.now.graph c.export_as.new.state.graph c.args.scope.now.root.now c.args.externs.now c.export_as.new.externs c.as_str.result.now c.args.node.0 c.requires.placed
    (λ numbering declared. c.in_ok-text.ensures.ok numbering declared ∙ ap Some (sym c.as_str.ensures.value)) c.in_ok-export_as.ensures.ok
