use Rattle.wac_resolution_rules.proofs.Prefixes.{composes_prefix}
use Rattle.wac_resolution_rules.proofs.laws.compositions_begin_with_their_prefixes.Goals as goal

pub returns : goal.returns
returns c = composes_prefix
