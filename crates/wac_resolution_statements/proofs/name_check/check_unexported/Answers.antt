use Rattle.wac_resolution_statements.proofs.Common.{sym, rules, inr}
use Rattle.wac_resolution_statements.specs.Externs.{help_of}
use Rattle.wac_resolution_statements.proofs.Checks.{exported_already, unexported_yet}
use Rattle.wac_resolution_statements.proofs.name_check.check_unexported.Goals as goal

pub returns-in_ok-from_str-in-Some-clause-err : goal.returns-in_ok-from_str-in-Some-clause-err
returns-in_ok-from_str-in-Some-clause-err c =
    inr (exported_already c.args.state.now.graph c.args.externs.now c.args.name.now.text.now c.args.name.now.span (help_of c.args.name.now) c.in-Some.previous _ c.requires (sym c.in-Some.ensures) (search rules))

pub returns-in-None-clause-ok : goal.returns-in-None-clause-ok
returns-in-None-clause-ok c = unexported_yet c.args.state.now.graph c.args.externs.now c.args.name.now.text.now c.requires (sym c.in-None.ensures)
