use Rattle.wac_resolution_statements.proofs.Common.{err_from_is_err_and, error_model, reports}
use Rattle.wac_resolution_statements.specs.Externs.{help_of}
use Rattle.wac_ast_worlds.specs.Worlds.{import_statement_of}
use Rattle.wac_resolution_statements.proofs.ImportTests.{imported_breaks, invalid_breaks, bound_breaks, imports_as}
use Rattle.wac_resolution_statements.proofs.named_imports.import_as.Goals as goal

pub returns-in_err-check_unimported-clause-err : goal.returns-in_err-check_unimported-clause-err
returns-in_err-check_unimported-clause-err g c =
    let p = err_from_is_err_and c.from_residual.result c.from_residual.ensures.1 in
    let n = c.new_name-name.result in
    rw (p.1, p.2)
    (reports c.in_err-check_unimported.ensures.err
    (imported_breaks (g.R.Rules.named c.args.rules.now) c.args.state.now.graph c.args.root.now c.args.externs.now (import_statement_of c.args.import.now.statement.now) c.args.import.now.text.now n.text.now n.span (help_of n)
    (record { of_text = c.new_name-name.ensures.text; of_span = c.new_name-name.ensures.span; of_help = c.new_name-name.ensures.help }) (error_model c.in_err-check_unimported.field-0.0)))

pub returns-in_err-check_name-clause-err : goal.returns-in_err-check_name-clause-err
returns-in_err-check_name-clause-err g c =
    let p = err_from_is_err_and c.from_residual-in_err-check_name.result c.from_residual-in_err-check_name.ensures.1 in
    let n = c.new_name-name.result in
    rw (p.1, p.2)
    (reports c.in_err-check_name.ensures.err
    (invalid_breaks (g.R.Rules.named c.args.rules.now) c.args.state.now.graph c.args.root.now c.args.externs.now (import_statement_of c.args.import.now.statement.now) c.args.import.now.text.now n.text.now n.span (help_of n)
    (record { of_text = c.new_name-name.ensures.text; of_span = c.new_name-name.ensures.span; of_help = c.new_name-name.ensures.help }) (error_model c.in_err-check_name.field-0.0) c.in_ok-check_unimported.ensures.ok))

pub add_import-requires-clause-new : goal.add_import-requires-clause-new
add_import-requires-clause-new g c = c.in_ok-check_unimported.ensures.ok.in_graph

pub returns-in_err-add_import-clause-err : goal.returns-in_err-add_import-clause-err
returns-in_err-add_import-clause-err g c =
    let p = err_from_is_err_and c.from_residual-in_err-add_import.result c.from_residual-in_err-add_import.ensures.1 in
    let n = c.new_name-name.result in
    rw (p.1, p.2)
    (reports c.in_err-add_import.ensures.err
    (bound_breaks (g.R.Rules.named c.args.rules.now) c.args.state.now.graph c.args.root.now c.args.externs.now (import_statement_of c.args.import.now.statement.now) c.args.import.now.text.now n.text.now n.span (help_of n)
    (record { of_text = c.new_name-name.ensures.text; of_span = c.new_name-name.ensures.span; of_help = c.new_name-name.ensures.help }) (error_model c.in_err-add_import.field-0.0) c.in_ok-check_unimported.ensures.ok c.in_ok-check_name.ensures.ok))

pub returns-clause-ok : goal.returns-clause-ok
returns-clause-ok g c =
    let n = c.new_name-name.result in
    imports_as (g.R.Rules.named c.args.rules.now) c.args.state.now.graph c.args.root.now c.args.externs.now (import_statement_of c.args.import.now.statement.now) c.args.import.now.text.now n.text.now n.span (help_of n)
    (record { of_text = c.new_name-name.ensures.text; of_span = c.new_name-name.ensures.span; of_help = c.new_name-name.ensures.help }) c.add_import.new.state.graph c.add_import.new.root c.add_import.new.externs c.args.import.now.kind
    c.in_ok-check_unimported.ensures.ok c.in_ok-check_name.ensures.ok c.in_ok-add_import.ensures.ok
