-- What is kept of a comment cuts no character.
use Rattle.wac_comments_layout.proofs.Common.{◌≡◌, ℕ, ◌-◌, ◌<◌, ◌≤◌, List, length, reverse, get_or, ap, ◌∙◌, subst, arith, ⊎_elim, suffix_len, IsCharBoundary, cases_lt, cond_both, get_or-reverse, prefix_len_passes, suffix_len-le-length, IsCharBoundary-end, IsCharBoundary-before_ascii, is_blank}
use Rattle.wac_lexer.proofs.Fronts.{blank_ascii}
use Rattle.wac_comments_layout.specs.Kept.{is_line, kept_len}

-- no character is cut before the blanks at the end
before_blanks : (text : List ℕ) → IsCharBoundary text (length text - suffix_len is_blank text)
before_blanks text =
    let n = suffix_len is_blank text in
    let fits = suffix_len-le-length is_blank text in
    ⊎_elim
    (λ (some : 0 < n).
    let blank = prefix_len_passes is_blank (reverse text) (n - 1) 0 (omega (arith, some)) in
    let same = get_or-reverse text (n - 1) 0 (omega (arith, some, fits)) in
    let place : length text - 1 - (n - 1) ≡ length text - n = omega (arith, some, fits) in
    let ascii = blank_ascii (get_or (reverse text) (n - 1) 0) blank in
    IsCharBoundary-before_ascii text (length text - n) (omega (arith, some, fits)) (subst (λ b. b < 128) (same ∙ ap (λ i. get_or text i 0) place) ascii))
    (λ (none : n ≤ 0).
    let whole : length text ≡ length text - n = omega (arith, none) in
    subst (IsCharBoundary text) whole (IsCharBoundary-end text))
    (cases_lt 0 n)

pub kept_boundary : (text : List ℕ) → IsCharBoundary text (kept_len text)
kept_boundary text =
    cond_both (is_line text) (length text - suffix_len is_blank text) (length text) (IsCharBoundary text) (λ e. before_blanks text) (λ e. IsCharBoundary-end text)
