use Rattle.wac_comments_layout.proofs.Common.{◌≡◌, drop}
use Rattle.wac_comments_layout.specs.Printing.{now_of, tokens_of, printed}
use Rattle.wac_comments_layout.specs.Texts.{texts_of}
use Rattle.wac_comments_layout.proofs.Progressing.{whole}
use Rattle.wac_comments_layout.proofs.printing.printed.Given as goal

abbrev pub invariant-loop-piece : goal.invariant-loop-piece
invariant-loop-piece l =
    record {
      tokens : drop l.printing.at (now_of l.tokens.items) ≡ tokens_of (texts_of (drop l.piece-index l.pieces));
      printed : whole (now_of l.tokens.items) l.printing (texts_of (drop l.piece-index l.pieces)) ≡ printed (texts_of l.pieces);
    }
