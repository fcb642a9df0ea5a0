use Rattle.wac_resolution_statements.proofs.Common.{err_from_is_err_and, error_model, reports}
use Rattle.wac_ast_base.specs.Names.{extern_name_of}
use Rattle.wac_resolution_statements.proofs.Unnamed.{exports_renamed, renamed_broken}
use Rattle.wac_resolution_statements.proofs.options.export_renamed.Goals as goal

pub returns-in_err-export_as-clause-err : goal.returns-in_err-export_as-clause-err
returns-in_err-export_as-clause-err g c =
    let p = err_from_is_err_and c.from_residual.result c.from_residual.ensures.1 in
    rw (p.1, p.2)
    (reports c.in_err-export_as.ensures.err
    (renamed_broken (g.R.Rules.named c.args.scope.now.rules.now) c.args.state.now.graph c.args.scope.now.root.now c.args.externs.now c.args.node.0 (extern_name_of c.args.name.now) c.as_str.result.now c.span.result (error_model c.in_err-export_as.field-0.0)
    c.as_str.ensures c.span.ensures))

pub returns-clause-ok : goal.returns-clause-ok
returns-clause-ok g c =
    exports_renamed (g.R.Rules.named c.args.scope.now.rules.now) c.args.state.now.graph c.export_as.new.state.graph c.args.scope.now.root.now c.args.externs.now c.export_as.new.externs c.args.node.0 (extern_name_of c.args.name.now) c.as_str.result.now c.span.result
    c.as_str.ensures c.span.ensures c.requires.placed c.in_ok-export_as.ensures.ok
