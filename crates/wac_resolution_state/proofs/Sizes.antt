-- Sizes of what a recursive function visits.
use Rattle.wac_resolution_state.proofs.Common.{◌≤◌, ◌<◌, ℕ, zero, suc, List, [], ◌∷◌, length, get_or, arith}
use denote.Param.Weighed.{most}

-- a member of a list is no larger than its largest
pub most_at : {X : Type 0} (f : X → ℕ) (xs : List X) (i : ℕ) (d : X) → i < length xs → f (get_or xs i d) ≤ most f xs
most_at f [] i d h = absurd (omega arith)
most_at f (x ∷ xs) zero d h = omega arith
most_at f (x ∷ xs) (suc i) d h = omega (arith, most_at f xs i d (omega arith))
