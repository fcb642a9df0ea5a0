use Rattle.wac_resolution_rules.proofs.Sound.{composes_sound}
use Rattle.wac_resolution_rules.proofs.laws.edges_go_forward.Goals as goal

pub returns : goal.returns
returns c = composes_sound
