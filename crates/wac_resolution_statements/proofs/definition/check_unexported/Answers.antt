use Rattle.wac_resolution_statements.proofs.Common.{sym, rules, inr, ident_of}
use Rattle.wac_resolution_statements.proofs.Checks.{unexported_yet}
use Rattle.wac_resolution_statements.proofs.Defining.{exported_before}
use Rattle.wac_resolution_statements.proofs.definition.check_unexported.Goals as goal

pub returns-in_ok-from_str-in-Some-clause-err : goal.returns-in_ok-from_str-in-Some-clause-err
returns-in_ok-from_str-in-Some-clause-err c =
    inr (exported_before c.args.state.now.graph c.args.externs.now (ident_of c.args.id.now) c.in-Some.export _ c.requires (sym c.in-Some.ensures) (search rules))

pub returns-in-None-clause-ok : goal.returns-in-None-clause-ok
returns-in-None-clause-ok c = unexported_yet c.args.state.now.graph c.args.externs.now c.args.id.now.string.now c.requires (sym c.in-None.ensures)
