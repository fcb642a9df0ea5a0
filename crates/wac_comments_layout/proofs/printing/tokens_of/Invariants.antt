use Rattle.wac_comments_layout.proofs.Common.{◌≡◌, ◌++◌, drop}
use Rattle.wac_comments_layout.specs.Printing.{now_of, tokens_of}
use Rattle.wac_comments_layout.specs.Texts.{texts_of}
use Rattle.wac_comments_layout.proofs.printing.tokens_of.Given as goal

abbrev pub invariant-loop-piece : goal.invariant-loop-piece
invariant-loop-piece l = now_of l.tokens.items ++ tokens_of (texts_of (drop l.piece-index l.pieces)) ≡ tokens_of (texts_of l.pieces)
