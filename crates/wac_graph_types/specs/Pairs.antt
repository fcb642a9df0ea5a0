-- Pairs of entries that mean the same, each in its slot.
use Rattle.std.specs.Prelude.{◌≡◌, refl, ◌+◌, ◌*◌, ◌%◌, ℕ, List, Some, slice_get}
use Rattle.std.specs.List.{All}
use Rattle.wac_graph_types.specs.declared.entry.Entry.{Entry}
use Rattle.wac_graph_types.specs.Meaning.{Alike}

pub record AreAlike (es : List Entry) (pairs : List (ℕ × ℕ)) : Type 0 where
  pub each : All (λ p. Alike es p.0 p.1) pairs

-- the slot of a pair, of 512
abbrev pub slot_of : ℕ → ℕ → ℕ
slot_of i j = (2 * i + j) % 512

-- a pair is in its slot
abbrev pub Holds : List (ℕ × ℕ) → ℕ → ℕ → Type 0
Holds pairs i j = slice_get pairs (slot_of i j) ≡ Some (i, j)

-- pairs of consecutive types are three slots apart, and after the last slot comes the first
first_slot : slot_of 170 170 ≡ 510
first_slot = refl

next_slot : slot_of 171 171 ≡ 1
next_slot = refl
