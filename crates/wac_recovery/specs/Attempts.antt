-- The texts that are tried, one after another.
use Rattle.std.specs.Prelude.{◌≡◌, codes, ℕ, max, List, [], ◌++◌, ◌&&◌, nat_eq, length, drop, Option, Some, None, string_bytes, if◌then◌else◌}
use Rattle.std.specs.Str.{IsCharBoundary}
use Rattle.wac_lexer.specs.Span.{Span}
use Rattle.wac_recovery.specs.Blanked.{blanked}
use Rattle.wac_recovery.specs.Statements.{leads, part_at}
use Rattle.wac_recovery.specs.declared.attempt.Attempt.{Attempt as CodeAttempt}

-- a source with faulty statements blanked, after so many bytes that it doesn't have
pub record Attempt : Type 0 where
  pub text : List ℕ
  pub skip : ℕ

abbrev pub attempt_of : CodeAttempt → Attempt
attempt_of a = record { text = string_bytes a.text; skip = a.skip }

-- the text without the bytes that the source doesn't have, where they end between two characters
abbrev pub IsSourceOf : Attempt → List ℕ → Type 0
IsSourceOf a source = IsCharBoundary a.text a.skip → source ≡ drop a.skip a.text

-- a source as it is
abbrev pub whole : List ℕ → Attempt
whole source = record { text = source; skip = 0 }

-- the directive that stands in for one that is missing or faulty
abbrev pub stand_in : List ℕ
stand_in = codes "package a:b;"

-- what comes before a text without this part: a directive, where the part is in the place of the source's own
abbrev pub front : Attempt → Span → List ℕ
front a part = if nat_eq a.skip 0 && leads a.text part then stand_in else []

-- the attempt without a part
abbrev pub without : Attempt → Span → Attempt
without a part = record { text = front a part ++ blanked part a.text; skip = max a.skip (length (front a part)) }

-- the attempt without this part, if there is one
abbrev pub without_found : Attempt → Option Span → Option Attempt
without_found a None = None
without_found a (Some part) = Some (without a part)

-- what is tried after a fault at a place: nothing where there is nothing to blank
abbrev pub next : Attempt → ℕ → Option Attempt
next a place = without_found a (part_at a.text place)
