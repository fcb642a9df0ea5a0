use Rattle.wac_resolution_statements.proofs.Common.{inl, inr, refl, sym, err_from_is_err_and, ident_of, numbers_of, reports}
use Rattle.wac_resolution_statements.specs.Externs.{exported_in, places_in}
use Rattle.wac_resolution_statements.proofs.Checks.{fresh_too}
use Rattle.wac_resolution_statements.proofs.Each.{agrees_exports}
use Rattle.wac_resolution_statements.proofs.Defining.{definition_grows, definition_there, defined}
use Rattle.wac_resolution_statements.proofs.definition.define.Goals as goal

pub returns-in_err-check_unexported-clause-err : goal.returns-in_err-check_unexported-clause-err
returns-in_err-check_unexported-clause-err c =
    let p = err_from_is_err_and c.from_residual.result c.from_residual.ensures.1 in
    rw (p.1, p.2) (reports c.in_err-check_unexported.ensures.err (λ err numbering. inl (err numbering (numbers_of c.args.root.now.nodes) (places_in c.args.root.now c.args.externs.now) refl)))

pub add_export-requires : goal.add_export-requires
add_export-requires c = fresh_too c.args.id.now.string.now c.args.state.now.graph.exports (exported_in c.args.externs.now) (sym c.requires.placed.exported) c.in_ok-check_unexported.ensures.ok

pub bind-requires-clause-there : goal.bind-requires-clause-there
bind-requires-clause-there c =
    definition_there c.args.state.now.graph c.add_definition.new.self c.args.id.now.string.now c.args.kind c.in_ok-node.node.0 c.in_ok-node.ensures.ok c.in_ok-node.ensures.number

pub bind-requires-clause-agrees : goal.bind-requires-clause-agrees
bind-requires-clause-agrees c =
    agrees_exports c.args.state.now.graph c.add_definition.new.self c.args.root.now
    (definition_grows c.args.state.now.graph c.add_definition.new.self c.args.id.now.string.now c.args.kind c.requires.agrees.nodes c.requires.kind c.in_ok-node.ensures.ok) c.requires.agrees

pub returns-in_err-bind-clause-err : goal.returns-in_err-bind-clause-err
returns-in_err-bind-clause-err c =
    let p = err_from_is_err_and c.from_residual-in_err-bind.result c.from_residual-in_err-bind.ensures.1 in
    rw (p.1, p.2) (reports c.in_err-bind.ensures.err (λ err numbering. inr (c.in_ok-check_unexported.ensures.ok, err numbering (places_in c.args.root.now c.args.externs.now) refl)))

pub returns-clause-ok : goal.returns-clause-ok
returns-clause-ok c =
    defined c.args.state.now.graph c.add_definition.new.self c.bind.new.state.graph c.args.root.now c.bind.new.self c.args.externs.now c.add_export.new.self (ident_of c.args.id.now) c.args.kind c.in_ok-node.node.0
    c.requires.agrees c.requires.placed c.requires.kind c.in_ok-check_unexported.ensures.ok c.in_ok-node.ensures.ok c.in_ok-node.ensures.number
    c.in_ok-add_export.ensures.exported c.in_ok-add_export.ensures.imported c.in_ok-bind.ensures.ok
