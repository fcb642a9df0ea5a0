use Rattle.std.proofs.Common.{◌≡◌, ◌++◌, drop}
use Rattle.wac_comments_layout.specs.Texts.{pieces_of}
use Rattle.wac_comments.specs.Comments.{comments_among}
use Rattle.wac_comments.proofs.listing.comments_among.Given as goal

abbrev pub invariant-loop-piece : goal.invariant-loop-piece
invariant-loop-piece l = l.comments.items ++ comments_among (pieces_of (drop l.piece-index l.pieces)) ≡ comments_among (pieces_of l.pieces)
