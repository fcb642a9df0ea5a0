-- The places that an editor means.
use Rattle.std.specs.Prelude.{◌≡◌, ◌<◌, ◌≤◌, ℕ, List, length, take}
use Rattle.std.specs.Str.{IsCharBoundary}
use Rattle.wac_positions.specs.Lines.{line, line_starts}
use Rattle.wac_positions.specs.Places.{Denotes, units}
use Rattle.wac_positions.specs.declared.place.ColumnUnit.{ColumnUnit}
use Rattle.wac_positions.specs.declared.place.Place.{Place}

-- the column of the last character of a line, or of its end, that is not after a column
pub record IsClampedColumn (unit : ColumnUnit) (line : List ℕ) (column clamped : ℕ) : Type 0 where
  pub at : ℕ
  pub within : at ≤ length line
  pub boundary : IsCharBoundary line at
  pub is : clamped ≡ units unit (take at line)
  pub before : clamped ≤ column
  pub last : (i : ℕ) → at < i → i ≤ length line → IsCharBoundary line i → column < units unit (take i line)

-- this column, at this byte of the line
abbrev pub IsClampedAt : ColumnUnit → List ℕ → ℕ → ℕ → ℕ → Type 0
IsClampedAt unit line column clamped at = (c : IsClampedColumn unit line column clamped) × (c.at ≡ at)

-- the offset of a place: in its line, with the column that the line has nearest; or the end of the text, where there is
-- no such line
pub record IsClamped (text : List ℕ) (unit : ColumnUnit) (place : Place) (at : ℕ) : Type 0 where
  pub in_line : place.line < length (line_starts text)
      → (column : ℕ) × IsClampedColumn unit (line text place.line) place.column column
      × Denotes text unit (record { line = place.line; column = column }) at
  pub after : length (line_starts text) ≤ place.line → at ≡ length text
