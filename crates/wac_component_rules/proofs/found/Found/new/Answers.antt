use Rattle.wac_component_rules.proofs.Remembered.{none_held}
use Rattle.wac_component_rules.proofs.found.Found.new.Goals as goal

pub returns : goal.returns
returns c = λ es. none_held es 1024 c.new.result.items c.new.ensures.items
