use Rattle.wac_resolution_rules.proofs.Names.{composes_names_once}
use Rattle.wac_resolution_rules.proofs.laws.names_stand_once.Goals as goal

pub returns : goal.returns
returns c = composes_names_once
