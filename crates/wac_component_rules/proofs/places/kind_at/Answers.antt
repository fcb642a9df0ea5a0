use Rattle.std.proofs.Common.{◌∙◌, sym}
use Rattle.std.proofs.lemmas.Option.{slice_get-get_or}
use Rattle.wac_component_rules.proofs.Steps.{leads_nowhere}
use Rattle.wac_component_rules.proofs.places.kind_at.Goals as goal

pub returns-in-None : goal.returns-in-None
returns-in-None c =
    leads_nowhere c.args.entries.now c.args.kind c.args.path.now c.loop-number.at c.plain-from.result c.loop-number.number _
    (slice_get-get_or c.args.path.now c.loop-number.number _ c.loop-number-test.true)
    c.plain-from.ensures (sym c.in-None.is ∙ c.kind_after.ensures) c.loop-number.invariant
