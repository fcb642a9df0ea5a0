use Rattle.wac_resolution_rules.proofs.Aliases.{composes_aliases_once}
use Rattle.wac_resolution_rules.proofs.laws.aliases_stand_once.Goals as goal

pub returns : goal.returns
returns c = composes_aliases_once
