use Rattle.wac_component_rules.specs.Found.{AllFit}
use Rattle.wac_component_rules.proofs.differences.import_difference.Given as goal

abbrev pub invariant-loop-name : goal.invariant-loop-name
invariant-loop-name l = AllFit l.entries l.found
