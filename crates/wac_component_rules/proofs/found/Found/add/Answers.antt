use Rattle.std.proofs.Common.{sym, subst}
use Rattle.wac_component_rules.specs.Found.{AllFit}
use Rattle.wac_component_rules.proofs.Remembered.{fits_set}
use Rattle.wac_component_rules.proofs.found.Found.add.Goals as goal

pub returns : goal.returns
returns c = λ es all fit.
    let held = subst (AllFit es) (sym c.self.view_is) all in
    record { slots = fits_set es c.self.inside.slots c.slot.result c.args.i c.args.j held.slots fit; answers = held.answers }
