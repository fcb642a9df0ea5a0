use Rattle.wac_component_rules.specs.Parts.{slot_of}
use Rattle.wac_component_rules.proofs.Slots.{RestOfParts}
use Rattle.wac_component_rules.proofs.places.value_in.Given as goal

abbrev pub invariant-loop-at : goal.invariant-loop-at
invariant-loop-at l = RestOfParts (slot_of l.slot) l.entry l.at
