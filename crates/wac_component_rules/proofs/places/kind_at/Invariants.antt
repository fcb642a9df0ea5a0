use Rattle.wac_component_rules.proofs.Steps.{RestLeads}
use Rattle.wac_component_rules.proofs.places.kind_at.Given as goal

abbrev pub invariant-loop-number : goal.invariant-loop-number
invariant-loop-number l = RestLeads l.entries l.fn.kind l.path l.at l.number
