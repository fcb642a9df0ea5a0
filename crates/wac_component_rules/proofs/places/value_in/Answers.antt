use Rattle.std.proofs.Common.{◌∙◌, refl, sym}
use Rattle.wac_component_rules.specs.Parts.{part_view, slot_of}
use Rattle.wac_component_rules.proofs.Slots.{slot_found, slot_differs_here}
use Rattle.wac_component_rules.proofs.places.value_in.Goals as goal

pub returns-then-same : goal.returns-then-same
returns-then-same c = c.kind_of.ensures ∙
    slot_found (slot_of c.args.slot) c.args.entry.now c.loop-at.at (part_view c.in-Some.part) (sym c.in-Some.ensures) (c.if-same.ensures.0 refl) c.loop-at.invariant

pub loop-at-preserved : goal.loop-at-preserved
loop-at-preserved c =
    slot_differs_here (slot_of c.args.slot) c.args.entry.now c.loop-at.at (part_view c.in-Some.part) (sym c.in-Some.ensures)
    (λ same. let f = c.if-same.ensures.1 same in cc) c.loop-at.invariant
