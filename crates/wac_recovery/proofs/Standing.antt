-- Faults of statements that stand alone.
use Rattle.std.proofs.Common.{◌≡◌, refl, subst, ℕ, List, length, None, arith}
use Rattle.std.specs.Str.{IsUtf8, IsCharBoundary}
use Rattle.std.proofs.lemmas.Str.{IsCharBoundary-start}
use Rattle.wac_lexer.specs.Reading.{Slices}
use Rattle.wac_lexer.specs.Span.{Span, span, end_of}
use Rattle.wac_recovery.specs.Alone.{IsFaultAfter, IsFoundAt, IsFoundBeside, alone}
use Rattle.wac_recovery.specs.Attempts.{stand_in}
use Rattle.wac_recovery.specs.Faults.{IsFaultless, IsWrongWith, Wrong, moved_back}
use Rattle.wac_recovery.specs.Statements.{part_at}

-- all before a part cuts no character
pub before : (source : List ℕ) (part : Span) → IsUtf8 source → Slices source part → Slices source (span 0 part.offset)
before source part utf8 slices =
    let end : part.offset ≡ end_of (span 0 part.offset) = omega arith in
    (IsCharBoundary-start source utf8, subst (IsCharBoundary source) end slices.0)

-- what is wrong with the text that is tried, where it lies in the source
pub after : (source text : List ℕ) (start : ℕ) (found fault : Wrong) → text ≡ alone source start → IsWrongWith text found → fault ≡ moved_back (length stand_in) found → IsFaultAfter source start fault
after source text start found fault same wrong moved = record { found = found; is_wrong = subst (λ t. IsWrongWith t found) same wrong; moved = moved }

-- nothing is wrong with it
pub faultless : (source text : List ℕ) (start : ℕ) → text ≡ alone source start → IsFaultless text → IsFaultless (alone source start)
faultless source text start same is = subst IsFaultless same is

-- the source has no part at the place
pub nothing_there : (source : List ℕ) (place : ℕ) → None ≡ part_at source place → IsFoundAt source place None
nothing_there source place is = subst (λ part. IsFoundBeside source place part None) is refl
