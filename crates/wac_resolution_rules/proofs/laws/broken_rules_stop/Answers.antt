use Rattle.wac_resolution_rules.proofs.StatementsStop.{statement_stops, target_stops}
use Rattle.wac_resolution_rules.proofs.laws.broken_rules_stop.Goals as goal

pub returns-clause-statement : goal.returns-clause-statement
returns-clause-statement c = λ s old places e x new broken goes. statement_stops s old places e x new broken goes

pub returns-clause-target : goal.returns-clause-target
returns-clause-target c = λ s c places e path broken met. target_stops s c places e path broken met
