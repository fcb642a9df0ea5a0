-- The lines before a change begin where they did.
use Rattle.std.proofs.Common.{◌≡◌, ◌∙◌, ◌≤◌, ◌+◌, ◌-◌, ℕ, suc, List, [], ◌∷◌, ◌++◌, Bool, true, false, inl, inr, refl, sym, arith, length, get_or, take, drop, length-drop, ap, take-take}
use Rattle.std.proofs.lemmas.Bool.{cases_Bool, cond-true, cond-false}
use Rattle.std.proofs.lemmas.List.{drop-append-le, length-append, length-take, take-append-drop, take-append-le, length-take-le}
use mathlib.Core.Bool.{beq}
use Rattle.std.specs.Prelude.{max, nat_eq, ◌&&◌, ◌||◌, not}
use Rattle.wac_positions.specs.Lines.{begins_with_line_feed, ends_line, line_starts, starts_after}
use Rattle.wac_lsp_texts.specs.Changed.{spliced}
use Rattle.wac_lsp_texts.specs.Started.{Starts}

feeds_on : (p r s : List ℕ) → begins_with_line_feed r ≡ begins_with_line_feed s → begins_with_line_feed (p ++ r) ≡ begins_with_line_feed (p ++ s)
feeds_on [] r s e = e
feeds_on (c ∷ p) r s e = refl

-- two texts with the same beginning have the same lines in it
pub record Common (at : ℕ) (p r s : List ℕ) : Type 0 where
  pub starts : List ℕ
  pub one : starts_after at (p ++ r) ≡ starts ++ starts_after (at + length p) r
  pub other : starts_after at (p ++ s) ≡ starts ++ starts_after (at + length p) s

further : (at b : ℕ) (p r s : List ℕ) → ends_line b (p ++ r) ≡ ends_line b (p ++ s) → Common (suc at) p r s → Common at (b ∷ p) r s
further at b p r s same next =
    let on : suc at + length p ≡ at + length (b ∷ p) = omega arith in
    let one : starts_after (suc at) (p ++ r) ≡ next.starts ++ starts_after (at + length (b ∷ p)) r = next.one ∙ ap (λ n. next.starts ++ starts_after n r) on in
    let other : starts_after (suc at) (p ++ s) ≡ next.starts ++ starts_after (at + length (b ∷ p)) s = next.other ∙ ap (λ n. next.starts ++ starts_after n s) on in
    elim (cases_Bool (ends_line b (p ++ r))) [
      | inl yes_is ↦
          record {
            starts = suc at ∷ next.starts;
            one = cond-true (ends_line b (p ++ r)) (suc at ∷ starts_after (suc at) (p ++ r)) (starts_after (suc at) (p ++ r)) yes_is ∙ ap (λ l. suc at ∷ l) one;
            other = cond-true (ends_line b (p ++ s)) (suc at ∷ starts_after (suc at) (p ++ s)) (starts_after (suc at) (p ++ s)) (sym same ∙ yes_is) ∙ ap (λ l. suc at ∷ l) other;
          }
      | inr no_is ↦
          record {
            starts = next.starts;
            one = cond-false (ends_line b (p ++ r)) (suc at ∷ starts_after (suc at) (p ++ r)) (starts_after (suc at) (p ++ r)) no_is ∙ one;
            other = cond-false (ends_line b (p ++ s)) (suc at ∷ starts_after (suc at) (p ++ s)) (starts_after (suc at) (p ++ s)) (sym same ∙ no_is) ∙ other;
          }
    ]

common : (at : ℕ) (p r s : List ℕ) → begins_with_line_feed r ≡ begins_with_line_feed s → Common at p r s
common at [] r s e =
    let same : at ≡ at + 0 = omega arith in
    record { starts = []; one = ap (λ n. starts_after n r) same; other = ap (λ n. starts_after n s) same }
common at (b ∷ p) r s e = further at b p r s (ap (λ f. nat_eq b 10 || (nat_eq b 13 && not f)) (feeds_on p r s e)) (common (suc at) p r s e)

one_on : (xs ys zs others : List ℕ) (x : ℕ) → length xs ≡ 1 → xs ++ ys ≡ x ∷ zs → xs ++ others ≡ x ∷ others
one_on [] ys zs others x len is = absurd (omega arith)
one_on (y ∷ []) ys zs others x len is = ap (λ n. n ∷ others) (ap (λ (l : List ℕ). get_or l 0 0) is)
one_on (y ∷ z ∷ xs) ys zs others x len is = absurd (omega arith)

kept : (p r s : List ℕ) (n : ℕ) → begins_with_line_feed r ≡ begins_with_line_feed s → drop n (line_starts (p ++ r)) ≡ length p ∷ starts_after (length p) r → drop n (line_starts (p ++ s)) ≡ length p ∷ starts_after (length p) s
kept p r s n e h =
    let c : Common 0 p r s = common 0 p r s e in
    let all : List ℕ = 0 ∷ c.starts in
    let begin : 0 + length p ≡ length p = omega arith in
    let one : line_starts (p ++ r) ≡ all ++ starts_after (length p) r = ap (λ (l : List ℕ). 0 ∷ l) (c.one ∙ ap (λ m. c.starts ++ starts_after m r) begin) in
    let other : line_starts (p ++ s) ≡ all ++ starts_after (length p) s = ap (λ (l : List ℕ). 0 ∷ l) (c.other ∙ ap (λ m. c.starts ++ starts_after m s) begin) in
    let count : length (drop n (line_starts (p ++ r))) ≡ length (line_starts (p ++ r)) - n = length-drop n (line_starts (p ++ r)) in
    let left : length (drop n (line_starts (p ++ r))) ≡ length (length p ∷ starts_after (length p) r) = ap length h in
    let sum : length (line_starts (p ++ r)) ≡ length all + length (starts_after (length p) r) = ap length one ∙ length-append all (starts_after (length p) r) in
    let within : n ≤ length all = omega arith in
    let rest : length (drop n all) ≡ length all - n = length-drop n all in
    let single : length (drop n all) ≡ 1 = omega arith in
    ap (drop n) other ∙ drop-append-le n all (starts_after (length p) s) within
    ∙ one_on (drop n all) (starts_after (length p) r) (starts_after (length p) r) (starts_after (length p) s) (length p) single (sym (drop-append-le n all (starts_after (length p) r) within) ∙ ap (drop n) (sym one) ∙ h)

-- what is before a line's start is the same, and LF begins what follows in both texts or in neither
pub still_starts : (text after : List ℕ) (n start : ℕ) → Starts text n start → start ≤ length after → take start after ≡ take start text
    → begins_with_line_feed (drop start after) ≡ begins_with_line_feed (drop start text) → Starts after n start
still_starts text after n start h fits same feeds =
    let p : List ℕ = take start text in
    let len : start ≡ length p = sym (length-take-le start text h.0) in
    let old : text ≡ p ++ drop start text = sym (take-append-drop start text) in
    let new : after ≡ p ++ drop start after = sym (take-append-drop start after) ∙ ap (λ (l : List ℕ). l ++ drop start after) same in
    let before : drop n (line_starts (p ++ drop start text)) ≡ length p ∷ starts_after (length p) (drop start text) =
    ap (λ (t : List ℕ). drop n (line_starts t)) (sym old) ∙ h.1 ∙ ap (λ m. m ∷ starts_after m (drop start text)) len in
    (fits, ap (λ (t : List ℕ). drop n (line_starts t)) new ∙ kept p (drop start text) (drop start after) n (sym feeds) before ∙ ap (λ m. m ∷ starts_after m (drop start after)) (sym len))

pub splice_keeps : (text new : List ℕ) (start from to : ℕ) → start ≤ length text → start ≤ from → take start (spliced text from to new) ≡ take start text
splice_keeps text new start from to fits before =
    let count = length-take from text in
    take-append-le start (take from text) (new ++ drop (max from to) text) (omega arith) ∙ take-take start from text before

pub kept_after : (text new after : List ℕ) (n start from to : ℕ) (feeds : Bool) → Starts text n start → start ≤ from → start ≤ length after → after ≡ spliced text from to new
    → feeds ≡ begins_with_line_feed (drop start text) → begins_with_line_feed (drop start after) ≡ feeds → Starts after n start
kept_after text new after n start from to feeds h before fits is one other =
    still_starts text after n start h fits (ap (take start) is ∙ splice_keeps text new start from to h.0 before) (other ∙ one)

pub same_bool : (a b : Bool) → beq a b ≡ true → a ≡ b
same_bool true true e = refl
same_bool false false e = refl
same_bool true false e = absurd (cc)
same_bool false true e = absurd (cc)
