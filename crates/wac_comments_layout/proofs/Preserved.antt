-- What holds of each token and comment of a text, and of the marks that printing adds, holds of each that is printed.
use Rattle.wac_comments_layout.proofs.Common.{ℕ, ◌+◌, List, [], ◌∷◌, ◌++◌, codes, AllByRecursion, cond_both}
use Rattle.wac_comments_layout.specs.Kept.{is_comment}
use Rattle.wac_comments_layout.specs.Printing.{Texts, added, ends_resource, goes, innermost, needs_comma, opened_after, printed, printed_from, spelled, tokens_of}
use Rattle.wac_comments_layout.specs.declared.brackets.Brackets.{Brackets}

module _ (P : List ℕ → Type 0) (opening : P (codes "{")) (closing : P (codes "}")) (comma : P (codes ",")) where
  both : (xs ys : Texts) → AllByRecursion P xs → AllByRecursion P ys → AllByRecursion P (xs ++ ys)
  both [] ys h k = k
  both (x ∷ xs) ys h k = (h.0, both xs ys h.1 k)

  of_added : (tokens : Texts) (at : ℕ) (around : Brackets) → AllByRecursion P (added tokens at around)
  of_added tokens at around =
      cond_both (ends_resource tokens at) (codes "{" ∷ []) _ (AllByRecursion P) (λ e. (opening, tt))
      (λ e. cond_both (needs_comma tokens at around) (codes "," ∷ []) [] (AllByRecursion P) (λ f. (comma, tt)) (λ f. tt))

  of_spelled : (tokens : Texts) (at : ℕ) (text : List ℕ) → P text → P (spelled tokens at text)
  of_spelled tokens at text h = cond_both (ends_resource tokens at) (codes "}") text P (λ e. closing) (λ e. h)

  all_from : (tokens : Texts) (at : ℕ) (opened : List Brackets) (waiting texts : Texts) → AllByRecursion P waiting → AllByRecursion P texts → AllByRecursion P (printed_from tokens at opened waiting texts)
  all_from tokens at opened waiting [] w h = w
  all_from tokens at opened waiting (text ∷ texts) w h =
      let later = opened_after tokens at opened in
      let after = printed_from tokens (at + 1) later [] texts in
      cond_both (is_comment text) (printed_from tokens at opened (waiting ++ text ∷ []) texts) _ (AllByRecursion P)
      (λ e. all_from tokens at opened (waiting ++ text ∷ []) texts (both waiting (text ∷ []) w (h.0, tt)) h.1)
      (λ e. both (added tokens at (innermost opened)) _ (of_added tokens at (innermost opened))
      (cond_both (goes tokens at (innermost opened)) (printed_from tokens (at + 1) later waiting texts) (waiting ++ spelled tokens at text ∷ after) (AllByRecursion P)
      (λ f. all_from tokens (at + 1) later waiting texts w h.1)
      (λ f. both waiting (spelled tokens at text ∷ after) w (of_spelled tokens at text h.0, all_from tokens (at + 1) later [] texts tt h.1))))

  pub all_printed : (texts : Texts) → AllByRecursion P texts → AllByRecursion P (printed texts)
  all_printed texts h = all_from (tokens_of texts) 0 [] [] texts tt h
