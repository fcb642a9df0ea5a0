use Rattle.wac_component_rules.specs.Found.{AllFit}
use Rattle.wac_component_rules.proofs.ahead.close.Given as goal

abbrev pub invariant-loop-next : goal.invariant-loop-next
invariant-loop-next l = AllFit l.entries l.found
