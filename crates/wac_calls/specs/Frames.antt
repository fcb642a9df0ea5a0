-- Several texts in one buffer.
use Rattle.std.specs.Prelude.{◌≡◌, refl, ℕ, List, ◌∷◌, ◌++◌, length, flat_map, codes}
use Rattle.std.specs.Int.{w64, to_le_bytes}
use denote.Bor.{Bor}

-- a length of eight bytes, lowest first, and so many bytes
abbrev pub frame : List ℕ → List ℕ
frame text = to_le_bytes w64 (length text) ++ text

-- the frames of texts, one after another
abbrev pub framed : List (Bor (List ℕ)) → List ℕ
framed texts = flat_map (λ t. frame t.now) texts

-- example
two_bytes : frame (codes "hi") ≡ 2 ∷ 0 ∷ 0 ∷ 0 ∷ 0 ∷ 0 ∷ 0 ∷ 0 ∷ codes "hi"
two_bytes = refl
