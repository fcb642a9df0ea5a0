use Rattle.wac_json_text.proofs.Common.{printed_at}
use Rattle.wac_json_text.specs.Pieces.{joined_pieces, pieces}
use Rattle.wac_json_text.proofs.parts.VecEnclosed.write_inside.Goals as goal

pub returns : goal.returns
returns g c = printed_at (joined_pieces (λ x. pieces (g.T.Json.form x))) c.deref.ensures.value c.joined.ensures
