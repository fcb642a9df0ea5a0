use Rattle.wac_resolution_statements.proofs.Common.{sym, rules, inr}
use Rattle.wac_resolution_statements.specs.Externs.{help_of}
use Rattle.wac_resolution_statements.proofs.Checks.{conflict_is}
use Rattle.wac_resolution_statements.proofs.name_check.check_undefined.Goals as goal

pub returns-in_ok-from_str-in-Some-clause-err : goal.returns-in_ok-from_str-in-Some-clause-err
returns-in_ok-from_str-in-Some-clause-err c =
    inr (conflict_is c.args.state.now.graph c.args.root.now c.args.name.now.text.now c.args.name.now.span (help_of c.args.name.now) _ _ c.desc.result.now _ c.in-Some.ensures.kind c.in-Some.ensures.place c.desc.ensures (search rules))

pub returns-in-None-clause-ok : goal.returns-in-None-clause-ok
returns-in-None-clause-ok c numbering = sym (c.in-None.ensures.kind numbering)
