use Rattle.wac_graph.proofs.Keys.{same_key_is}
use Rattle.wac_graph.proofs.laws.keys_are_compared.Goals as goal

pub returns : goal.returns
returns c = same_key_is
