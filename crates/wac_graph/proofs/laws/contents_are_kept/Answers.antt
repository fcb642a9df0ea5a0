use Rattle.wac_graph.proofs.Contents.{contents_kept}
use Rattle.wac_graph.proofs.laws.contents_are_kept.Goals as goal

pub returns : goal.returns
returns c = contents_kept
