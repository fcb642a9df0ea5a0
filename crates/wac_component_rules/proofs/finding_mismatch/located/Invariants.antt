use Rattle.wac_component_rules.specs.Found.{AllFit}
use Rattle.wac_component_rules.proofs.finding_mismatch.located.Given as goal

abbrev pub invariant-loop : goal.invariant-loop
invariant-loop l = AllFit l.entries l.found
