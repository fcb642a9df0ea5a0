use Rattle.wac_lexer.proofs.Common.{◌≡◌, ◌-◌, length, drop, IsCharBoundary, chars}
use Rattle.wac_lexer.specs.Characters.{refused, refused_from}
use Rattle.wac_lexer.proofs.characters.refused.Given as goal

abbrev pub invariant-loop-place : goal.invariant-loop-place
invariant-loop-place l =
    record {
      within : IsCharBoundary l.source l.place;
      left : refused_from l.place (chars (drop l.place l.source)) ≡ refused l.source;
    }

abbrev pub decreases-loop-place : goal.decreases-loop-place
decreases-loop-place l = length l.source - l.place
