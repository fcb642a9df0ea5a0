use Rattle.wac_ast_base.proofs.PathSpans.{path_stands}
use Rattle.wac_ast_base.proofs.laws.segments_stand_at_their_spans.Goals as goal

pub returns : goal.returns
returns c = path_stands
