-- Where lines begin.
use Rattle.std.proofs.Common.{◌≡◌, ◌∙◌, ◌≤◌, ◌<◌, ◌+◌, ◌-◌, ℕ, zero, suc, List, [], ◌∷◌, ◌++◌, true, false, inl, inr, refl, sym, subst, arith, length, get_or, drop, cond, ap, add-one, append_assoc}
use Rattle.std.proofs.lemmas.Bool.{cond_both, cond-true, cond-false, cases_lt, false_from_ne_true}
use Rattle.std.proofs.lemmas.Bool.Decides.{nat_tests}
use Rattle.std.proofs.lemmas.Str.{IsCharBoundary-after_ascii, IsCharBoundary-start}
use Rattle.std.specs.List.Sorted.{IsNonDecreasingBy}
use Rattle.std.specs.Str.{IsUtf8, IsCharBoundary}
use Rattle.std.specs.List.{slice_index}
use lib.Seq.{drop-cons}
use Rattle.wac_positions.specs.Lines.{ends_line, is_line_end, line_starts, starts_after, Begins}

-- ---- each line begins after a byte of ASCII

-- a line of the text that follows an offset begins here
pub record IsStart (at : ℕ) (text : List ℕ) (start : ℕ) : Type 0 where
  pub later : at < start
  pub within : start ≤ at + length text
  pub ascii : get_or text (start - at - 1) 0 < 128

ends_ascii : (b : ℕ) (rest : List ℕ) → ends_line b rest ≡ true → b < 128
ends_ascii b rest e = grind (arith, nat_tests)

first_start : (at b : ℕ) (rest : List ℕ) → ends_line b rest ≡ true → IsStart at (b ∷ rest) (suc at)
first_start at b rest e = record {
  later = omega arith;
  within = omega arith;
  ascii = let z : suc at - at - 1 ≡ 0 = omega arith in rw z (ends_ascii b rest e);
}

later_start : (at b : ℕ) (rest : List ℕ) (start : ℕ) → IsStart (suc at) rest start → IsStart at (b ∷ rest) start
later_start at b rest start h = record {
  later = omega arith;
  within = omega arith;
  ascii = let z : start - at - 1 ≡ suc (start - suc at - 1) = omega arith in rw z h.ascii;
}

cons_starts : (at : ℕ) (text : List ℕ) (x : ℕ) (xs : List ℕ) → IsStart at text x → ((k d : ℕ) → k < length xs → IsStart at text (get_or xs k d)) → (k d : ℕ) → k < length (x ∷ xs) → IsStart at text (get_or (x ∷ xs) k d)
cons_starts at text x xs h hs zero d lt = h
cons_starts at text x xs h hs (suc k) d lt = hs k d (omega arith)

pub starts_are : (at : ℕ) (text : List ℕ) (k d : ℕ) → k < length (starts_after at text) → IsStart at text (get_or (starts_after at text) k d)
starts_are at [] k d lt = absurd (omega arith)
starts_are at (b ∷ rest) k d lt =
    let more = λ (k d : ℕ) (lt : k < length (starts_after (suc at) rest)). later_start at b rest _ (starts_are (suc at) rest k d lt) in
    cond_both (ends_line b rest) (suc at ∷ starts_after (suc at) rest) (starts_after (suc at) rest)
    (λ l. (k d : ℕ) → k < length l → IsStart at (b ∷ rest) (get_or l k d))
    (λ e. cons_starts at (b ∷ rest) (suc at) (starts_after (suc at) rest) (first_start at b rest e) more)
    (λ e. more)
    k d lt

-- ---- lines begin in order

cons_rises : (x : ℕ) (ys : List ℕ) → ((k d : ℕ) → k < length ys → x ≤ get_or ys k d) → IsNonDecreasingBy (λ y. y) ys → IsNonDecreasingBy (λ y. y) (x ∷ ys)
cons_rises x ys low up zero zero d le lt = omega arith
cons_rises x ys low up zero (suc j) d le lt = low j d (omega arith)
cons_rises x ys low up (suc i) zero d le lt = absurd (omega arith)
cons_rises x ys low up (suc i) (suc j) d le lt = up i j d (omega arith) (omega arith)

none_rise : IsNonDecreasingBy (λ (y : ℕ). y) []
none_rise i j d le lt = absurd (omega arith)

starts_after_rise : (at : ℕ) (text : List ℕ) → IsNonDecreasingBy (λ y. y) (starts_after at text)
starts_after_rise at [] = none_rise
starts_after_rise at (b ∷ rest) =
    let up : IsNonDecreasingBy (λ y. y) (starts_after (suc at) rest) = starts_after_rise (suc at) rest in
    cond_both (ends_line b rest) (suc at ∷ starts_after (suc at) rest) (starts_after (suc at) rest) (IsNonDecreasingBy (λ y. y))
    (λ e. cons_rises (suc at) (starts_after (suc at) rest) (λ k d lt. let h = (starts_are (suc at) rest k d lt).later in omega arith) up)
    (λ e. up)

pub starts_rise : (text : List ℕ) → IsNonDecreasingBy (λ y. y) (line_starts text)
starts_rise text = cons_rises 0 (starts_after 0 text) (λ k d lt. omega arith) (starts_after_rise 0 text)

pub start_within : (text : List ℕ) (n d : ℕ) → n < length (line_starts text) → get_or (line_starts text) n d ≤ length text
start_within text zero d lt = omega arith
start_within text (suc n) d lt = let h = (starts_are 0 text n d (omega arith)).within in omega arith

pub start_boundary : (text : List ℕ) (n d : ℕ) → IsUtf8 text → n < length (line_starts text) → IsCharBoundary text (get_or (line_starts text) n d)
start_boundary text zero d u lt = IsCharBoundary-start text u
start_boundary text (suc n) d u lt =
    let h : IsStart 0 text (get_or (starts_after 0 text) n d) = starts_are 0 text n d (omega arith) in
    let s : ℕ = get_or (starts_after 0 text) n d in
    let same : s - 0 - 1 ≡ s - 1 = omega arith in
    let back : s - 1 + 1 ≡ s = let later = h.later in omega arith in
    let ascii : get_or text (s - 1) 0 < 128 = rw (← same) h.ascii in
    let fits : s - 1 < length text = let later = h.later in let within = h.within in omega arith in
    rw back at (IsCharBoundary-after_ascii text (s - 1) u fits ascii)

pub start_before_next : (text : List ℕ) (n d : ℕ) → n + 1 < length (line_starts text) → get_or (line_starts text) n d ≤ get_or (line_starts text) (n + 1) d
start_before_next text n d lt = starts_rise text n (n + 1) d (omega arith) lt

pub line_end_ascii : (b : ℕ) → is_line_end b ≡ true → b < 128
line_end_ascii b e = grind (arith, nat_tests)

pub begins_within : (text : List ℕ) (n start : ℕ) → Begins text n start → start ≤ length text
begins_within text n start h = let fits = start_within text n 0 h.0 in let is = h.1 in omega arith

pub begins_boundary : (text : List ℕ) (n start : ℕ) → IsUtf8 text → Begins text n start → IsCharBoundary text start
begins_boundary text n start u h = subst (IsCharBoundary text) (sym h.1) (start_boundary text n 0 u h.0)

-- a line stops where the next begins, or at the end of the text
pub stop_within : (text : List ℕ) (n stop : ℕ) → n < length (line_starts text) → (n + 1 < length (line_starts text) → stop ≡ slice_index (line_starts text) (n + 1)) → (length (line_starts text) ≡ n + 1 → stop ≡ length text)
    → (slice_index (line_starts text) n ≤ stop) × (stop ≤ length text)
stop_within text n stop there next last = elim (cases_lt (n + 1) (length (line_starts text))) [
  | inl more ↦
      let is = next more in
      let up = start_before_next text n 0 more in
      let fits = start_within text (n + 1) 0 more in
      (omega arith, omega arith)
  | inr none ↦
      let is = last (omega arith) in
      let fits = start_within text n 0 there in
      (omega arith, omega arith)
]

-- ---- one more byte

pub starts_step : (at : ℕ) (text : List ℕ) → at < length text → starts_after at (drop at text) ≡ cond (ends_line (get_or text at 0) (drop (suc at) text)) (suc at ∷ starts_after (suc at) (drop (suc at) text)) (starts_after (suc at) (drop (suc at) text))
starts_step at text lt = ap (starts_after at) (drop-cons text at 0 lt)

-- the invariant of the loop that finds where lines begin, past a byte that ends a line, and past another
pub starts_taken : (at : ℕ) (text items : List ℕ) → at < length text → ends_line (get_or text at 0) (drop (at + 1) text) ≡ true → items ++ starts_after at (drop at text) ≡ line_starts text
    → (items ++ (at + 1) ∷ []) ++ starts_after (at + 1) (drop (at + 1) text) ≡ line_starts text
starts_taken at text items lt ends inv =
    let here : ends_line (get_or text at 0) (drop (suc at) text) ≡ true = rw (← add-one at) ends in
    let e : starts_after at (drop at text) ≡ suc at ∷ starts_after (suc at) (drop (suc at) text) = starts_step at text lt ∙ cond-true _ _ _ here in
    rw (append_assoc, add-one) (ap (λ (l : List ℕ). items ++ l) (sym e) ∙ inv)

pub starts_passed : (at : ℕ) (text items : List ℕ) → at < length text → ends_line (get_or text at 0) (drop (at + 1) text) ≡ false → items ++ starts_after at (drop at text) ≡ line_starts text
    → items ++ starts_after (at + 1) (drop (at + 1) text) ≡ line_starts text
starts_passed at text items lt ends inv =
    let here : ends_line (get_or text at 0) (drop (suc at) text) ≡ false = rw (← add-one at) ends in
    let e : starts_after at (drop at text) ≡ starts_after (suc at) (drop (suc at) text) = starts_step at text lt ∙ cond-false _ _ _ here in
    rw add-one (ap (λ (l : List ℕ). items ++ l) (sym e) ∙ inv)

-- ---- texts without ends of lines

ends_none : (b : ℕ) (rest : List ℕ) → is_line_end b ≡ false → ends_line b rest ≡ false
ends_none b rest e = false_from_ne_true _ (λ ends. grind (arith, nat_tests))

pub none_start : (at : ℕ) (text : List ℕ) → ((i : ℕ) → i < length text → is_line_end (get_or text i 0) ≡ false) → starts_after at text ≡ []
none_start at [] none = refl
none_start at (b ∷ rest) none =
    cond-false (ends_line b rest) (suc at ∷ starts_after (suc at) rest) (starts_after (suc at) rest) (ends_none b rest (none 0 (omega arith)))
    ∙ none_start (suc at) rest (λ i lt. none (suc i) (omega arith))
