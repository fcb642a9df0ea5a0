use Rattle.wac_comments_layout.proofs.Common.{length, ◌-◌, ◌≡◌, ◌++◌, ℕ, ◌+◌, ◌≤◌, IsCharBoundary}
use Rattle.wac_comments_layout.specs.Pieces.{comments_at, comments_upto}
use Rattle.wac_comments_layout.specs.Texts.{pieces_of}
use Rattle.wac_comments_layout.proofs.pieces.Reader.gap.Given as goal

abbrev pub invariant-loop-start : goal.invariant-loop-start
invariant-loop-start l =
    record {
      boundary : IsCharBoundary l.source l.start;
      found : (n : ℕ) × (length l.source ≤ l.start + n) × (pieces_of l.self.pieces.items ++ comments_upto n l.source l.start ≡ pieces_of l.fn.self.pieces.items ++ comments_at l.source l.fn.place);
    }

abbrev pub decreases-loop-start : goal.decreases-loop-start
decreases-loop-start l = length l.source - l.start
