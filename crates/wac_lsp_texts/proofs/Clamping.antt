-- The best column so far.
use Rattle.std.proofs.Common.{◌≡◌, refl, sym, subst, ℕ, ◌+◌, ◌<◌, ◌≤◌, List, take, length, arith, ◌⊎◌, ⊎_elim}
use Rattle.std.specs.Str.{IsCharBoundary, IsUtf8}
use Rattle.std.proofs.lemmas.Str.{IsCharBoundary-start, IsCharBoundary-end}
use Rattle.wac_positions.specs.Places.{units}
use Rattle.wac_positions.specs.declared.place.ColumnUnit.{ColumnUnit}
use Rattle.wac_lsp_texts.specs.Clamped.{IsClampedAt}

-- of the characters before an index the last that is not after a column
pub record IsBestBefore (unit : ColumnUnit) (line : List ℕ) (column upto clamped at : ℕ) : Type 0 where
  pub within : at ≤ upto
  pub boundary : IsCharBoundary line at
  pub is : clamped ≡ units unit (take at line)
  pub before : clamped ≤ column
  pub last : (i : ℕ) → at < i → i < upto → IsCharBoundary line i → column < units unit (take i line)

pub first : (unit : ColumnUnit) (line : List ℕ) (column : ℕ) → IsUtf8 line → IsBestBefore unit line column 0 0 0
first unit line column utf8 =
    record { within = omega arith; boundary = IsCharBoundary-start line utf8; is = refl; before = omega arith; last = λ i low high _. absurd (omega arith) }

-- the character at an index is better
pub better : (unit : ColumnUnit) (line : List ℕ) (column at count : ℕ) → count ≡ units unit (take at line) → count ≤ column → IsCharBoundary line at → IsBestBefore unit line column (at + 1) count at
better unit line column at count is before boundary =
    record { within = omega arith; boundary = boundary; is = is; before = before; last = λ i low high _. absurd (omega arith) }

below_or_same : (i k : ℕ) → i < k + 1 → (i < k) ⊎ (i ≡ k)
below_or_same i k h = grind arith

-- one character more that is after the column, or where none begins
still_last : (unit : ColumnUnit) (line : List ℕ) (column n upto count : ℕ) → count ≡ units unit (take upto line) → (IsCharBoundary line upto → column < count)
    → ((i : ℕ) → n < i → i < upto → IsCharBoundary line i → column < units unit (take i line)) → (i : ℕ) → n < i → i < upto + 1 → IsCharBoundary line i → column < units unit (take i line)
still_last unit line column n upto count is after last i low high boundary =
    ⊎_elim (λ less. last i low less boundary)
    (λ same. subst (λ k. column < units unit (take k line)) (sym same) (subst (λ m. column < m) is (after (subst (IsCharBoundary line) same boundary)))) (below_or_same i upto high)

-- it isn't: it is after the column, or no character begins there
pub stays : (unit : ColumnUnit) (line : List ℕ) (column at count clamped there : ℕ) → count ≡ units unit (take at line) → (IsCharBoundary line at → column < count) → IsBestBefore unit line column at clamped there → IsBestBefore unit line column (at + 1) clamped there
stays unit line column at count clamped there is after best =
    record {
      within = let w : there ≤ at = best.within in omega (arith, w);
      boundary = best.boundary;
      is = best.is;
      before = best.before;
      last = still_last unit line column there at count is after best.last;
    }

-- the end of the line is best
pub at_end : (unit : ColumnUnit) (line : List ℕ) (column count : ℕ) → count ≡ units unit (take (length line) line) → count ≤ column → IsClampedAt unit line column count (length line)
at_end unit line column count is before =
    (record { at = length line; within = omega arith; boundary = IsCharBoundary-end line; is = is; before = before; last = λ i low high _. absurd (omega arith) }, refl)

-- it isn't
pub before_end : (unit : ColumnUnit) (line : List ℕ) (column count clamped there : ℕ) → count ≡ units unit (take (length line) line) → column < count → IsBestBefore unit line column (length line) clamped there → IsClampedAt unit line column clamped there
before_end unit line column count clamped there is after best = (
  record {
    at = there;
    within = best.within;
    boundary = best.boundary;
    is = best.is;
    before = best.before;
    last = λ i low high boundary. still_last unit line column there (length line) count is (λ _. after) best.last i low (omega (arith, high)) boundary;
  },
  refl,
)
