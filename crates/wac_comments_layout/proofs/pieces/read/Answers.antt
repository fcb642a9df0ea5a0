use Rattle.wac_comments_layout.proofs.Common.{map, ap, ◌∙◌}
use Rattle.wac_comments_layout.specs.Pieces.{Piece}
use Rattle.wac_comments_layout.proofs.Commented.{texts_same}
use Rattle.wac_comments_layout.proofs.pieces.read.Goals as goal

pub returns-in-Ok-read_items-clause-texts : goal.returns-in-Ok-read_items-clause-texts
returns-in-Ok-read_items-clause-texts c = texts_same c.in-Ok-read_items.pieces.items ∙ ap (map (λ (p : Piece). p.text)) c.in-Ok-read_items.ensures
