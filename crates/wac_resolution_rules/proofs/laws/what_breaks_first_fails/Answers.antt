use Rattle.wac_resolution_rules.proofs.FirstFailing.{fails_at, fails_at_target, first_has_none}
use Rattle.wac_resolution_rules.proofs.laws.what_breaks_first_fails.Goals as goal

pub returns-clause-statement : goal.returns-clause-statement
returns-clause-statement c = fails_at

pub returns-clause-target : goal.returns-clause-target
returns-clause-target c = fails_at_target

pub returns-clause-nothing : goal.returns-clause-nothing
returns-clause-nothing c = first_has_none
