-- The packages in one buffer.
use Rattle.std.specs.Prelude.{◌≡◌, ◌⊎◌, ℕ, List, ◌∷◌, ◌++◌, None, All, codes}
use Rattle.wac_calls.specs.Frames.{framed}
use Rattle.wac_calls.specs.Nesting.{first_deeper}
use denote.Bor.{Bor}

-- the bytes begin as those of a component
abbrev pub IsComponent : List ℕ → Type 0
IsComponent bytes = (rest : List ℕ) × (bytes ≡ (0 ∷ codes "asm") ++ rest)

-- The frame has a component, or no bracket of its text is nested deeper than the limit.
abbrev pub IsPackage : ℕ → Bor (List ℕ) → Type 0
IsPackage limit frame = IsComponent frame.now ⊎ (first_deeper limit frame.now ≡ None)

-- the same frame, which has a component or such a text
abbrev pub IsTested : ℕ → List ℕ → Bor (List ℕ) → Type 0
IsTested limit frame same = (same.now ≡ frame) × IsPackage limit same

-- The frames are the buffer, and each has a component, or a text in which no bracket is nested deeper than the limit.
pub record ArePackages (limit : ℕ) (buffer : List ℕ) (found : List (Bor (List ℕ))) : Type 0 where
  pub frames : framed found ≡ buffer
  pub tested : All (λ frame. IsPackage limit frame) found
