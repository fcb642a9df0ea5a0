-- Where a word begins, byte by byte.
use Rattle.std.proofs.Common.{◌≡◌, refl, sym, ap, ◌∙◌, subst, ℕ, ◌+◌, ◌-◌, ◌<◌, ◌≤◌, List, length, Bool, true, false, inl, inr, ⊎_elim, arith}
use Rattle.std.proofs.lemmas.Bool.{cases_lt}
use Rattle.std.specs.Prelude.{◌⊎◌, MatchBool, slice_index}
use Rattle.std.specs.Str.{IsCharBoundary}
use Rattle.std.proofs.lemmas.Bool.Decides.{nat_tests}
use Rattle.wac_completion.specs.Words.{WordBegins, is_word}

-- the word at the end of the first n bytes
pub record BeginsBefore (text : List ℕ) (n at : ℕ) : Type 0 where
  pub within : at ≤ n
  pub word : (i : ℕ) → at ≤ i → i < n → is_word (slice_index text i) ≡ true
  pub begins : (at ≡ 0) ⊎ (is_word (slice_index text (at - 1)) ≡ false)

pub nothing_read : (text : List ℕ) → BeginsBefore text 0 0
nothing_read text = record { within = omega arith; word = λ i a b. absurd (omega (arith, b)); begins = inl refl }

-- one more byte: of the word, or after which one may begin
pub word_goes_on : (text : List ℕ) (n at b : ℕ) → BeginsBefore text n at → b ≡ slice_index text n → is_word b ≡ true → BeginsBefore text (n + 1) at
word_goes_on text n at b so_far is h =
    record {
      within = omega (arith, so_far.within);
      word = λ i a l. ⊎_elim (λ (e : i ≡ n). ap (λ j. is_word (slice_index text j)) e ∙ ap is_word (sym is) ∙ h) (λ (less : i < n). so_far.word i a less) (last i l);
      begins = so_far.begins;
    }
  where
    last : (i : ℕ) → i < n + 1 → (i ≡ n) ⊎ (i < n)
    last i l = ⊎_elim (λ (less : i < n). inr less) (λ (more : n ≤ i). inl (omega (arith, more, l))) (cases_lt i n)

pub word_may_begin : (text : List ℕ) (n b : ℕ) → b ≡ slice_index text n → is_word b ≡ false → BeginsBefore text (n + 1) (n + 1)
word_may_begin text n b is h =
    record {
      within = omega arith;
      word = λ i a l. absurd (omega (arith, a, l));
      begins = inr (ap (λ j. is_word (slice_index text j)) (back n) ∙ ap is_word (sym is) ∙ h);
    }
  where
    back : (m : ℕ) → (m + 1) - 1 ≡ m
    back m = omega arith

pub next_begins : (text : List ℕ) (n at b new : ℕ) → BeginsBefore text n at → b ≡ slice_index text n → MatchBool (is_word b) (new ≡ at) (new ≡ n + 1) → BeginsBefore text (n + 1) new
next_begins text n at b new so_far is h = go (is_word b) refl h
  where
    go : (w : Bool) → is_word b ≡ w → MatchBool w (new ≡ at) (new ≡ n + 1) → BeginsBefore text (n + 1) new
    go true e same = subst (BeginsBefore text (n + 1)) (sym same) (word_goes_on text n at b so_far is e)
    go false e same = subst (BeginsBefore text (n + 1)) (sym same) (word_may_begin text n b is e)

pub all_read : (text : List ℕ) (n at : ℕ) → n ≡ length text → BeginsBefore text n at → WordBegins text at
all_read text n at e h =
    let b = subst (λ m. BeginsBefore text m at) e h in
    record { within = b.within; word = b.word; begins = b.begins }

-- its bytes are ASCII
word_ascii : (b : ℕ) → is_word b ≡ true → b < 128
word_ascii b h = grind (arith, nat_tests)

pub word_boundary : (text : List ℕ) (at : ℕ) → WordBegins text at → IsCharBoundary text at
word_boundary text at h = (h.within, λ less big. absurd (omega (arith, big, word_ascii (slice_index text at) (h.word at (omega arith) less))))
