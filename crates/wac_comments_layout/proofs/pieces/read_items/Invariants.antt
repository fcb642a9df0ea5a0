use Rattle.wac_comments_layout.proofs.Common.{◌≡◌, ◌++◌, IsCharBoundary, left}
use Rattle.wac_comments_layout.specs.Pieces.{pieces, pieces_after}
use Rattle.wac_comments_layout.specs.Texts.{pieces_of}
use Rattle.wac_comments_layout.proofs.pieces.read_items.Given as goal

abbrev pub invariant-loop-span : goal.invariant-loop-span
invariant-loop-span l =
    record {
      can : (goal.iterator-loop-span).can_next l.lexer;
      finite : (goal.iterator-loop-span).is_finite l.lexer;
      source : l.lexer.source ≡ l.source;
      boundary : IsCharBoundary l.source l.place;
      found : pieces_of l.reader.pieces.items ++ pieces_after l.source l.place (left l.lexer) ≡ pieces l.source;
    }
