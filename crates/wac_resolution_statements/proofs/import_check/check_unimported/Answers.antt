use Rattle.wac_resolution_statements.proofs.Common.{sym, rules, inr}
use Rattle.wac_resolution_statements.specs.Externs.{help_of}
use Rattle.wac_resolution_statements.proofs.ImportNames.{unimported_yet, imported_already}
use Rattle.wac_resolution_statements.proofs.import_check.check_unimported.Goals as goal

pub returns-in_ok-from_str-in-Some-clause-err : goal.returns-in_ok-from_str-in-Some-clause-err
returns-in_ok-from_str-in-Some-clause-err c =
    inr (imported_already c.args.state.now.graph c.args.externs.now c.args.name.now.text.now c.args.name.now.span (help_of c.args.name.now) c.in-Some.previous _ c.requires c.nodes-nodes.ensures.sound (sym c.in-Some.ensures) (search rules))

pub returns-in-None-clause-ok : goal.returns-in-None-clause-ok
returns-in-None-clause-ok c = unimported_yet c.args.state.now.graph c.args.externs.now c.args.name.now.text.now c.requires c.nodes-nodes.ensures.sound (sym c.in-None.ensures)
