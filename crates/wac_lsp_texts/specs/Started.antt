-- Where a line begins, with the lines that follow.
use Rattle.std.specs.Prelude.{◌≡◌, ◌≤◌, ◌+◌, ℕ, List, ◌∷◌, length, drop}
use Rattle.wac_positions.specs.Lines.{line_starts, starts_after}

-- the n-th line begins at this offset, and the later ones are those of what follows
abbrev pub Starts : List ℕ → ℕ → ℕ → Type 0
Starts text n start = (start ≤ length text) × (drop n (line_starts text) ≡ start ∷ starts_after start (drop start text))

-- bytes begin with the end of a line that has this length: wherever they stand, the next line begins after it
abbrev pub BeginsWithEnd : List ℕ → ℕ → Type 0
BeginsWithEnd bytes len = (at : ℕ) → starts_after at bytes ≡ (at + len) ∷ starts_after (at + len) (drop len bytes)

-- of the lines after the one at an offset the next begins here
abbrev pub IsNextStart : List ℕ → ℕ → ℕ → Type 0
IsNextStart text start next = starts_after start (drop start text) ≡ next ∷ starts_after next (drop next text)
