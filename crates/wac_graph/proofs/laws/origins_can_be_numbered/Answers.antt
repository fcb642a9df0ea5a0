use Rattle.wac_graph.proofs.Numbered.{numbered_apart}
use Rattle.wac_graph.proofs.laws.origins_can_be_numbered.Goals as goal

pub returns : goal.returns
returns c = numbered_apart
