use Rattle.std.proofs.Common.{◌≡◌, drop}
use Rattle.std.specs.List.{list_any}
use Rattle.wac_comments_layout.specs.Kept.{is_comment}
use Rattle.wac_comments_layout.specs.Texts.{texts_of}
use Rattle.wac_comments.proofs.tidying.has_comments.Given as goal

abbrev pub invariant-loop-piece : goal.invariant-loop-piece
invariant-loop-piece l = list_any is_comment (texts_of (drop l.piece-index l.pieces)) ≡ list_any is_comment (texts_of l.pieces)
