-- How many numbers of a non-decreasing list are at most another.
use Rattle.std.proofs.Common.{◌≡◌, ◌∙◌, ◌≤◌, ◌<◌, ◌+◌, ◌-◌, ℕ, zero, suc, List, [], ◌∷◌, Bool, true, false, inl, inr, refl, sym, arith, length, get_or, take, cond, ap, add-one}
use Rattle.std.proofs.lemmas.Bool.{le-leb, leb-true, false_from_ne_true, cases_lt}
use Rattle.std.proofs.lemmas.List.Sums.{count_by_more_yes, count_by_more_no, sum_by-cons}
use Rattle.std.specs.List.{count_by}
use Rattle.std.specs.List.Sorted.{IsNonDecreasingBy}
use lib.Dec.{leb}
use Rattle.std.proofs.Math.Seq.{take-length}

count_up : (p : ℕ → Bool) (xs : List ℕ) (n : ℕ) → n ≤ length xs → ((k : ℕ) → k < n → p (get_or xs k 0) ≡ true) → count_by p (take n xs) ≡ n
count_up p xs zero fits all = refl
count_up p xs (suc n) fits all =
    let up = count_up p xs n (omega arith) (λ k lt. all k (omega arith)) in
    let step : count_by p (take (suc n) xs) ≡ count_by p (take n xs) + 1 = rw (← add-one n) (count_by_more_yes p xs n 0 (omega arith) (all n (omega arith))) in
    omega arith

count_on : (p : ℕ → Bool) (xs : List ℕ) (n m : ℕ) → n + m ≤ length xs → ((k : ℕ) → n ≤ k → k < length xs → p (get_or xs k 0) ≡ false) → count_by p (take (n + m) xs) ≡ count_by p (take n xs)
count_on p xs n zero fits none = let same : n + 0 ≡ n = omega arith in ap (λ k. count_by p (take k xs)) same
count_on p xs n (suc m) fits none =
    let on = count_on p xs n m (omega arith) none in
    let step : count_by p (take (n + m + 1) xs) ≡ count_by p (take (n + m) xs) = count_by_more_no p xs (n + m) 0 (omega arith) (none (n + m) (omega arith) (omega arith)) in
    let same : n + suc m ≡ n + m + 1 = omega arith in
    ap (λ k. count_by p (take k xs)) same ∙ step ∙ on

-- where the first n pass and no other does, n pass
pub count_is : (p : ℕ → Bool) (xs : List ℕ) (n : ℕ) → n ≤ length xs → ((k : ℕ) → k < n → p (get_or xs k 0) ≡ true) → ((k : ℕ) → n ≤ k → k < length xs → p (get_or xs k 0) ≡ false) → count_by p xs ≡ n
count_is p xs n fits all none =
    let whole : n + (length xs - n) ≡ length xs = omega arith in
    let on : count_by p (take (length xs) xs) ≡ count_by p (take n xs) = rw (← whole) (count_on p xs n (length xs - n) (omega arith) none) in
    ap (count_by p) (sym (take-length xs)) ∙ on ∙ count_up p xs n fits all

false_above : (x o : ℕ) → o < x → leb x o ≡ false
false_above x o lt = false_from_ne_true _ (λ e. let le = leb-true x o e in omega arith)

-- Where the n-th number and those before it are at most o, and the later ones are not, n + 1 are.
pub up_to_is : (o : ℕ) (xs : List ℕ) (n : ℕ) → IsNonDecreasingBy (λ x. x) xs → n < length xs → get_or xs n 0 ≤ o → (n + 1 < length xs → o < get_or xs (n + 1) 0) → count_by (λ x. leb x o) xs ≡ n + 1
up_to_is o xs n up lt here next =
    count_is (λ x. leb x o) xs (n + 1) (omega arith)
    (λ k less. let before = up k n 0 (omega arith) lt in le-leb _ o (omega arith))
    (λ k le fits. let after = up (n + 1) k 0 le fits in let past = next (omega arith) in false_above _ o (omega arith))

none_up_to : (o : ℕ) (xs : List ℕ) → ((k : ℕ) → k < length xs → o < get_or xs k 0) → count_by (λ x. leb x o) xs ≡ 0
none_up_to o xs above = count_is (λ x. leb x o) xs 0 (omega arith) (λ k lt. absurd (omega arith)) (λ k le lt. false_above _ o (above k lt))

rest_rises : (x : ℕ) (xs : List ℕ) → IsNonDecreasingBy (λ y. y) (x ∷ xs) → IsNonDecreasingBy (λ y. y) xs
rest_rises x xs up i j d le lt = up (suc i) (suc j) d (omega arith) (omega arith)

at_place : (o x : ℕ) (xs : List ℕ) → x ≤ o → count_by (λ x. leb x o) (x ∷ xs) ≡ 1 + count_by (λ x. leb x o) xs
    → ((k : ℕ) → k < length xs → (k < count_by (λ x. leb x o) xs → get_or xs k 0 ≤ o) × (count_by (λ x. leb x o) xs ≤ k → o < get_or xs k 0))
    → (k : ℕ) → k < length (x ∷ xs) → (k < count_by (λ x. leb x o) (x ∷ xs) → get_or (x ∷ xs) k 0 ≤ o) × (count_by (λ x. leb x o) (x ∷ xs) ≤ k → o < get_or (x ∷ xs) k 0)
at_place o x xs within more rest zero lt = (λ less. within, λ le. absurd (omega arith))
at_place o x xs within more rest (suc k) lt = let h = rest k (omega arith) in (λ less. h.0 (omega arith), λ le. h.1 (omega arith))

-- The numbers before that count are at most o, and the others are not.
pub up_to_splits : (o : ℕ) (xs : List ℕ) → IsNonDecreasingBy (λ x. x) xs → (k : ℕ) → k < length xs → (k < count_by (λ x. leb x o) xs → get_or xs k 0 ≤ o) × (count_by (λ x. leb x o) xs ≤ k → o < get_or xs k 0)
up_to_splits o [] up k lt = absurd (omega arith)
up_to_splits o (x ∷ xs) up k lt = elim (cases_lt o x) [
  | inl above ↦
      let none : count_by (λ x. leb x o) (x ∷ xs) ≡ 0 = none_up_to o (x ∷ xs) (λ j fits. let first = up 0 j 0 (omega arith) fits in omega arith) in
      (λ less. absurd (omega arith), λ le. let first = up 0 k 0 (omega arith) lt in omega arith)
  | inr within ↦
      let more : count_by (λ x. leb x o) (x ∷ xs) ≡ 1 + count_by (λ x. leb x o) xs = sum_by-cons (λ y. cond (leb y o) 1 0) x xs ∙ ap (λ b. cond b 1 0 + count_by (λ x. leb x o) xs) (le-leb x o within) in
      at_place o x xs within more (up_to_splits o xs (rest_rises x xs up)) k lt
]
