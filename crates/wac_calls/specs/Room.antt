-- Room that a caller brings for a text.
use Rattle.std.specs.Prelude.{◌≡◌, refl, ℕ, ◌≤◌, Bool, true, false, ◌&&◌, nat_le, nat_lt, List, ◌++◌, length, take, drop, ◌⊎◌, IfSome, slice_get}

-- whether a byte goes on with the character of the byte before it
abbrev pub continues : ℕ → Bool
continues byte = nat_le 128 byte && nat_lt byte 192

-- examples: the two bytes of é
begins_a_character : continues 195 ≡ false
begins_a_character = refl

ends_a_character : continues 169 ≡ true
ends_a_character = refl

-- So many bytes of a text are whole characters: there are none, or the byte after them begins a character, or no byte
-- comes after them.
abbrev pub AreWhole : List ℕ → ℕ → Type 0
AreWhole text count = (count ≡ 0) ⊎ IfSome (slice_get text count) (λ byte. continues byte ≡ false)

-- This many bytes of a text fit into so much room, in whole characters, and no more do.
pub record IsFitting (text : List ℕ) (room : ℕ) (count : ℕ) : Type 0 where
  pub fits : count ≤ room
  pub within : count ≤ length text
  pub whole : AreWhole text count
  pub most : (more : ℕ) → more ≤ room → more ≤ length text → AreWhole text more → more ≤ count

-- Of a text as many bytes were written into a room as fit, and the room keeps the bytes after them; this many were
-- needed.
abbrev pub IsPut : List ℕ → ℕ → ℕ → List ℕ → List ℕ → Type 0
IsPut text written needed old new =
    IsFitting text (length old) written × (needed ≡ length text) × (new ≡ take written text ++ drop written old)
