use Rattle.wac_comments_layout.proofs.Common.{◌≡◌, ◌≤◌, drop}
use Rattle.wac_comments_layout.specs.Nesting.{first_among, most}
use Rattle.wac_comments_layout.specs.Texts.{pieces_of}
use Rattle.wac_comments_layout.proofs.nesting.first_among.Given as goal

abbrev pub invariant-loop-piece : goal.invariant-loop-piece
invariant-loop-piece l =
    record {
      within : l.depth ≤ most;
      left : first_among most l.depth (pieces_of (drop l.piece-index l.pieces)) ≡ first_among most 0 (pieces_of l.pieces);
    }
