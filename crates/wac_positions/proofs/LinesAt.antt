-- In which line an offset lies.
use Rattle.std.proofs.Common.{◌≡◌, ◌∙◌, ◌≤◌, ◌<◌, ◌+◌, ℕ, List, true, false, inl, inr, sym, subst, arith, length, get_or, cond, ap}
use Rattle.std.proofs.lemmas.List.Sums.{sum_by-cons, count_by-le-length}
use Rattle.std.proofs.lemmas.Bool.{le-leb, cases_lt}
use Rattle.std.specs.List.{count_by}
use Rattle.std.specs.List.Sorted.{IsPartitionPoint}
use lib.Dec.{leb}
use Rattle.wac_positions.specs.Lines.{line_starts, starts_after, IsLine}
use Rattle.wac_positions.specs.Places.{line_at}
use Rattle.wac_positions.proofs.Counting.{count_is, up_to_is, up_to_splits}
use Rattle.wac_positions.proofs.Starts.{starts_rise}

-- the first line counts too
all_but_first : (text : List ℕ) (o : ℕ) → count_by (λ x. leb x o) (line_starts text) ≡ 1 + line_at text o
all_but_first text o = sum_by-cons (λ x. cond (leb x o) 1 0) 0 (starts_after 0 text) ∙ ap (λ b. cond b 1 0 + line_at text o) (le-leb 0 o (omega arith))

-- So many lines begin at or before an offset, and the last of them is the one in which it lies.
pub line_found : (text : List ℕ) (o r : ℕ) → r ≤ length (line_starts text) → IsPartitionPoint (λ x. leb x o ≡ true) (λ x. leb x o ≡ false) (line_starts text) r → r ≡ 1 + line_at text o
line_found text o r fits parts = sym (count_is (λ x. leb x o) (line_starts text) r fits (λ k lt. parts.0 k 0 (omega arith) lt) (λ k le lt. parts.1 k 0 le lt)) ∙ all_but_first text o

line_is : (text : List ℕ) (o n : ℕ) → n < length (line_starts text) → get_or (line_starts text) n 0 ≤ o → (n + 1 < length (line_starts text) → o < get_or (line_starts text) (n + 1) 0) → line_at text o ≡ n
line_is text o n lt here next =
    let count = up_to_is o (line_starts text) n (starts_rise text) lt here next in
    let first = all_but_first text o in
    omega arith

pub line_there : (text : List ℕ) (o : ℕ) → line_at text o < length (line_starts text)
line_there text o = let h = count_by-le-length (λ x. leb x o) (starts_after 0 text) in omega arith

pub line_begins : (text : List ℕ) (o : ℕ) → get_or (line_starts text) (line_at text o) 0 ≤ o
line_begins text o =
    let first = all_but_first text o in
    (up_to_splits o (line_starts text) (starts_rise text) (line_at text o) (line_there text o)).0 (omega arith)

line_stops : (text : List ℕ) (o : ℕ) → line_at text o + 1 < length (line_starts text) → o < get_or (line_starts text) (line_at text o + 1) 0
line_stops text o lt =
    let first = all_but_first text o in
    (up_to_splits o (line_starts text) (starts_rise text) (line_at text o + 1) lt).1 (omega arith)

-- ---- offsets of a line

pub line_of_offset : (text : List ℕ) (n start : ℕ) (bytes : List ℕ) (i : ℕ) → IsLine text n start bytes → i ≤ length bytes → (n + 1 < length (line_starts text) → i < length bytes) → line_at text (start + i) ≡ n
line_of_offset text n start bytes i h fits inside =
    let b = h.begins.1 in
    line_is text (start + i) n h.begins.0 (omega arith) (λ more. let next = h.stops more in let less = inside more in omega arith)

-- an offset of a line is one of its bytes, or the end of the text
pub record InLine (text : List ℕ) (n start : ℕ) (bytes : List ℕ) (o : ℕ) : Type 0 where
  pub from : start ≤ o
  pub to : o ≤ start + length bytes
  pub inside : n + 1 < length (line_starts text) → o < start + length bytes
  pub end : o ≡ start + length bytes → o ≡ length text

pub offset_of_line : (text : List ℕ) (n start : ℕ) (bytes : List ℕ) (o : ℕ) → IsLine text n start bytes → line_at text o ≡ n → o ≤ length text → InLine text n start bytes o
offset_of_line text n start bytes o h line fits =
    let begins : get_or (line_starts text) n 0 ≤ o = subst (λ (m : ℕ). get_or (line_starts text) m 0 ≤ o) line (line_begins text o) in
    let is : start ≡ get_or (line_starts text) n 0 = h.begins.1 in
    let there : n < length (line_starts text) = h.begins.0 in
    elim (cases_lt (n + 1) (length (line_starts text))) [
      | inl more ↦
          let next : start + length bytes ≡ get_or (line_starts text) (n + 1) 0 = h.stops more in
          let before : o < get_or (line_starts text) (n + 1) 0 = subst (λ (m : ℕ). m + 1 < length (line_starts text) → o < get_or (line_starts text) (m + 1) 0) line (line_stops text o) more in
          record { from = omega arith; to = omega arith; inside = λ _. omega arith; end = λ e. absurd (omega arith) }
      | inr last ↦
          let whole : start + length bytes ≡ length text = h.last (omega arith) in
          record { from = omega arith; to = omega arith; inside = λ more. absurd (omega arith); end = λ e. omega arith }
    ]
