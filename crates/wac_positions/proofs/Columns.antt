-- Widths of bytes, and how columns rise along a line.
use Rattle.std.proofs.Common.{◌≡◌, ◌≤◌, ◌<◌, ◌+◌, ℕ, List, false, inl, inr, subst, arith, length, take, get_or, cond}
use Rattle.std.proofs.lemmas.Bool.{cond_both, cond-false, cases_lt}
use Rattle.std.proofs.lemmas.Bool.Decides.{nat_tests}
use Rattle.std.proofs.lemmas.List.{take-take}
use lib.Dec.{leb}
use Rattle.std.proofs.lemmas.List.Sums.{sum_by_more, sum_by-take-le}
use Rattle.wac_positions.specs.declared.place.ColumnUnit.{ColumnUnit}
use Rattle.wac_positions.specs.declared.place.ColumnUnit.TheVariants.{Bytes, Utf16, Characters}
use Rattle.wac_positions.specs.Places.{is_continuation, width, units}

pub width_small : (unit : ColumnUnit) (b : ℕ) → width unit b ≤ 2
width_small Bytes b = omega arith
width_small Utf16 b = cond_both (is_continuation b) _ _ (λ n. n ≤ 2) (λ e. omega arith) (λ e. cond_both _ 2 1 (λ n. n ≤ 2) (λ e. omega arith) (λ e. omega arith))
width_small Characters b = cond_both (is_continuation b) 0 1 (λ n. n ≤ 2) (λ e. omega arith) (λ e. omega arith)

pub leading : (b : ℕ) → is_continuation b ≡ false → 128 ≤ b → 192 ≤ b
leading b e le = grind (arith, nat_tests)

pub is_leading : (b : ℕ) → (128 ≤ b → 192 ≤ b) → is_continuation b ≡ false
is_leading b h = grind (arith, nat_tests)

width_leads : (unit : ColumnUnit) (b : ℕ) → is_continuation b ≡ false → 1 ≤ width unit b
width_leads Bytes b e = omega arith
width_leads Utf16 b e = rw (cond-false {A = ℕ} (is_continuation b) 0 (cond (leb 240 b) 2 1) e) (cond_both (leb 240 b) 2 1 (λ n. 1 ≤ n) (λ e. omega arith) (λ e. omega arith))
width_leads Characters b e = rw (cond-false {A = ℕ} (is_continuation b) 0 1 e) (omega arith)

-- Past the first byte of a character the column is greater.
pub column_rises : (unit : ColumnUnit) (bytes : List ℕ) (i j : ℕ) → i < j → j ≤ length bytes → is_continuation (get_or bytes i 0) ≡ false → units unit (take i bytes) < units unit (take j bytes)
column_rises unit bytes i j lt fits leads =
    let step = sum_by_more (width unit) bytes i 0 (omega arith) in
    let some = width_leads unit (get_or bytes i 0) leads in
    let on : units unit (take (i + 1) bytes) ≤ units unit (take j bytes) = subst (λ (l : List ℕ). units unit l ≤ units unit (take j bytes)) (take-take (i + 1) j bytes (omega arith)) (sum_by-take-le (width unit) (take j bytes) (i + 1)) in
    omega arith

-- In a line one character begins after so many units.
pub one_column : (unit : ColumnUnit) (bytes : List ℕ) (column i j : ℕ) → i ≤ length bytes → j ≤ length bytes → (i < length bytes → is_continuation (get_or bytes i 0) ≡ false) → (j < length bytes → is_continuation (get_or bytes j 0) ≡ false)
    → units unit (take i bytes) ≡ column → units unit (take j bytes) ≡ column → i ≡ j
one_column unit bytes column i j fits_i fits_j leads_i leads_j a b = elim (cases_lt i j) [
  | inl less ↦ let up = column_rises unit bytes i j less fits_j (leads_i (omega arith)) in absurd (omega arith)
  | inr le ↦ elim (cases_lt j i) [
    | inl less ↦ let up = column_rises unit bytes j i less fits_i (leads_j (omega arith)) in absurd (omega arith)
    | inr other ↦ omega arith
  ]
]
