use Rattle.wac_graph.proofs.Keeping.{keeps_on}
use Rattle.wac_graph.proofs.laws.keeping_goes_on.Goals as goal

pub returns : goal.returns
returns c = keeps_on
