use Rattle.wac_component_rules.specs.Found.{AllFit}
use Rattle.wac_component_rules.proofs.differences.runs_difference.Given as goal

abbrev pub invariant-loop-at : goal.invariant-loop-at
invariant-loop-at l = AllFit l.entries l.found
