-- Numbers from one on.
use Rattle.wac_graph.proofs.Common.{◌≡◌, ◌<◌, ◌≤◌, ◌+◌, ◌-◌, ℕ, zero, suc, List, [], ◌∷◌, ap, ◌∙◌, arith, AllByRecursion}
use Rattle.wac_graph.specs.Numbers.{numbers}

pub numbers_step : (n k : ℕ) → n < k → numbers n (k - n) ≡ n ∷ numbers (n + 1) (k - (n + 1))
numbers_step n k h =
    let e : k - n ≡ suc (k - (n + 1)) = omega arith in
    let m : suc n ≡ n + 1 = omega arith in
    ap (numbers n) e ∙ ap (λ (x : ℕ). n ∷ numbers x (k - (n + 1))) m

pub numbers_none : (n k : ℕ) → k ≤ n → numbers n (k - n) ≡ []
numbers_none n k h = let e : k - n ≡ 0 = omega arith in ap (numbers n) e

below_more : (k m : ℕ) (ns : List ℕ) → k ≤ m → AllByRecursion (λ i. i < k) ns → AllByRecursion (λ i. i < m) ns
below_more k m [] le h = tt
below_more k m (n ∷ ns) le h = (omega (arith, h.0), below_more k m ns le h.1)

-- k numbers from n on are below n + k
numbers_within : (n k : ℕ) → AllByRecursion (λ i. i < n + k) (numbers n k)
numbers_within n zero = tt
numbers_within n (suc k) = (omega arith, below_more (suc n + k) (n + suc k) (numbers (suc n) k) (omega arith) (numbers_within (suc n) k))

pub numbers_below : (k : ℕ) → AllByRecursion (λ i. i < k) (numbers 0 k)
numbers_below k = below_more (0 + k) k (numbers 0 k) (omega arith) (numbers_within 0 k)
