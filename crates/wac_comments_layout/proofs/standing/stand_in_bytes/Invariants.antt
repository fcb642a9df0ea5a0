use Rattle.wac_comments_layout.proofs.Common.{◌≡◌, ◌≤◌, drop, length, AllByRecursion}
use Rattle.wac_comments_layout.specs.Following.{IsPieceText, texts_from}
use Rattle.wac_comments_layout.specs.Texts.{texts_of}
use Rattle.wac_comments_layout.proofs.standing.stand_in_bytes.Given as goal

abbrev pub invariant-loop-index : goal.invariant-loop-index
invariant-loop-index l =
    record {
      within : l.place ≤ length l.bytes;
      known : AllByRecursion IsPieceText (drop l.index (texts_of l.pieces));
      found : texts_from l.bytes l.place ≡ drop l.index (texts_of l.pieces) → texts_from l.bytes 0 ≡ texts_of l.pieces;
    }
