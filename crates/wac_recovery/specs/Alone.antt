-- Faults of statements that stand alone.
use Rattle.std.specs.Prelude.{◌≡◌, refl, ℕ, List, ◌++◌, length, nat_eq, Option, Some, None, if◌then◌else◌}
use Rattle.wac_lexer.specs.Span.{Span, span}
use Rattle.wac_recovery.specs.Attempts.{stand_in}
use Rattle.wac_recovery.specs.Blanked.{blanked}
use Rattle.wac_recovery.specs.Faults.{IsFaultless, IsWrongWith, Wrong, moved_back, nested, place_of}
use Rattle.wac_recovery.specs.Statements.{part_at}

-- a source with all before an offset blanked, after a directive that stands in
abbrev pub alone : List ℕ → ℕ → List ℕ
alone source start = stand_in ++ blanked (span 0 start) source

-- this is wrong first with what of a source is after an offset, where it lies in the source
pub record IsFaultAfter (source : List ℕ) (start : ℕ) (fault : Wrong) : Type 0 where
  pub found : Wrong
  pub is_wrong : IsWrongWith (alone source start) found
  pub moved : fault ≡ moved_back (length stand_in) found

-- so it is, or nothing is wrong with what is after the offset
abbrev pub IsFirstAfter : List ℕ → ℕ → Option Wrong → Type 0
IsFirstAfter source start None = IsFaultless (alone source start)
IsFirstAfter source start (Some fault) = IsFaultAfter source start fault

-- a fault, if it lies at a place
abbrev pub at_place : ℕ → Option Wrong → Option Wrong
at_place place None = None
at_place place (Some fault) = if nat_eq (place_of fault).offset place then Some fault else None

-- What is found at a place of a source that has this part there, or none: nothing without a part, and else what is wrong
-- first from the part on, if that lies at the place.
abbrev pub IsFoundBeside : List ℕ → ℕ → Option Span → Option Wrong → Type 0
IsFoundBeside source place None found = found ≡ None
IsFoundBeside source place (Some part) found =
    (first : Option Wrong) × IsFirstAfter source part.offset first × (found ≡ at_place place first)

-- what is found at a place of a source
abbrev pub IsFoundAt : List ℕ → ℕ → Option Wrong → Type 0
IsFoundAt source place found = IsFoundBeside source place (part_at source place) found

-- examples
here : at_place 7 (Some (nested (span 7 1))) ≡ Some (nested (span 7 1))
here = refl

elsewhere : at_place 6 (Some (nested (span 7 1))) ≡ None
elsewhere = refl
