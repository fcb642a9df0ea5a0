use Rattle.wac_resolution_statements.proofs.Common.{sym, err_from_is_err_and, ident_of, reports}
use Rattle.wac_resolution_statements.specs.Externs.{imported_in}
use Rattle.wac_resolution_statements.proofs.Checks.{fresh_too}
use Rattle.wac_resolution_statements.proofs.Importing.{agrees_imported, import_there, adds_import}
use Rattle.wac_resolution_statements.proofs.named_imports.add_import.Goals as goal

pub bind-requires-clause-there : goal.bind-requires-clause-there
bind-requires-clause-there c = import_there c.args.state.now.graph c.add_import.new.self c.args.name.now.text.now c.args.import.now.kind c.in_ok-node.node.0 c.in_ok-node.ensures.ok c.in_ok-node.ensures.number

pub bind-requires-clause-agrees : goal.bind-requires-clause-agrees
bind-requires-clause-agrees c = agrees_imported c.args.state.now.graph c.add_import.new.self c.args.root.now c.args.name.now.text.now c.args.import.now.kind c.in_ok-node.ensures.ok c.nodes-nodes.ensures.sound c.requires.agrees

pub returns-in_err-bind-clause-err : goal.returns-in_err-bind-clause-err
returns-in_err-bind-clause-err c =
    let p = err_from_is_err_and c.from_residual-in_err-bind.result c.from_residual-in_err-bind.ensures.1 in
    rw (p.1, p.2) (reports c.in_err-bind.ensures.err (λ err numbering all same. err numbering all same))

pub add_import-requires-2 : goal.add_import-requires-2
add_import-requires-2 c = fresh_too c.args.name.now.text.now c.args.state.now.graph.imports (imported_in c.args.externs.now) (sym c.requires.placed.imported) c.requires.new

pub returns-clause-ok : goal.returns-clause-ok
returns-clause-ok c =
    adds_import c.args.state.now.graph c.add_import.new.self c.bind.new.state.graph c.args.root.now c.bind.new.self c.args.externs.now c.add_import-2.new.self (ident_of c.args.import.now.statement.now.id) c.args.name.now.text.now c.args.name.now.span c.args.import.now.kind c.in_ok-node.node.0
    c.in_ok-node.ensures.ok c.in_ok-node.ensures.number c.in_ok-bind.ensures.ok c.in_ok-add_import.ensures.imported c.in_ok-add_import.ensures.exported
