-- No character is cut after a blank or a comment.
use Rattle.wac_lexer.proofs.Common.{◌≡◌, ℕ, zero, suc, ◌+◌, ◌-◌, ◌<◌, ◌≤◌, false, List, ◌∷◌, drop, length, get_or, sym, refl, ap, ◌∙◌, subst, arith, ⊎_elim, Option, Some, None, add-zero, add_assoc, length-append, get_or-append_seam, cond_both, eqb-false, ◌==◌, nat_eq, slice_index, prefix_len, IsUtf8, IsCharBoundary, drop-drop, length-drop, get_or-drop, prefix_len_stops, prefix_len-le-length, cases_lt, eqb-true, not-false, IsCharBoundary-end, IsCharBoundary-before_ascii}
use Rattle.wac_lexer.specs.Comments.{after, begins, opens, is_blank, is_not_line_end, line_len, block_len, part_len, parts_len}
use Rattle.wac_lexer.proofs.Fronts.{boundary_after_ascii, blank_ascii}
use Rattle.wac_lexer.proofs.Pieces.{meant, inside_front, opens_within}

pub ne_zero : (n : ℕ) → (n == 0) ≡ false → 0 < n
ne_zero n e = let h = eqb-false n 0 e in search (arith, h)

-- part of a source
module _ (source : List ℕ) (utf8 : IsUtf8 source) (i : ℕ) (at : IsCharBoundary source i) where
  after_here : (k : ℕ) → 0 < k → i + k ≤ length source → get_or (drop i source) (k - 1) 0 < 128 → IsCharBoundary source (i + k)
  after_here k positive fits b =
      let place : i + (k - 1) ≡ i + k - 1 = omega arith in
      boundary_after_ascii source (i + k) utf8 (omega arith) fits (subst (λ v. v < 128) (get_or-drop i source (k - 1) 0 ∙ ap (λ j. get_or source j 0) place) b)

  line_boundary : IsCharBoundary source (i + line_len (drop i source))
  line_boundary =
      let rest = drop i source in
      let n = prefix_len is_not_line_end rest in
      ⊎_elim
      (λ (more : n < length rest).
      let lf : get_or rest n 0 ≡ 10 = eqb-true (get_or rest n 0) 10 (not-false (nat_eq (get_or rest n 0) 10) (prefix_len_stops is_not_line_end rest 0 more)) in
      let same = get_or-drop i source n 0 in
      IsCharBoundary-before_ascii source (i + n) (omega (arith, length-drop i source)) (omega (arith, lf, same)))
      (λ (end : length rest ≤ n).
      let whole : length source ≡ i + n = omega (arith, prefix_len-le-length is_not_line_end rest, length-drop i source, at.0) in
      subst (IsCharBoundary source) whole (IsCharBoundary-end source))
      (cases_lt n (length rest))

  block_boundary : (rest : List ℕ) → 2 ≤ length (drop i source) → after 1 (drop 2 (drop i source)) ≡ Some rest → IsCharBoundary source (i + block_len (drop i source))
  block_boundary rest long e =
      let t = drop i source in
      let x = inside_front (meant (drop 2 t) rest e) in
      let n = length x.0 in
      let len : block_len t ≡ length t - length rest = ap (λ o. elim o [ Some r ↦ length t - length r | None ↦ 0 ]) e in
      let parts : length (drop 2 t) ≡ n + suc (length rest) = ap length x.1 ∙ length-append x.0 (47 ∷ rest) in
      let all : block_len t ≡ 2 + n + 1 = omega (arith, len, parts, length-drop 2 t) in
      let slash : get_or t (2 + n) 0 ≡ 47 = sym (get_or-drop 2 t n 0) ∙ ap (λ l. get_or l n 0) x.1 ∙ get_or-append_seam x.0 47 rest 0 in
      let place : block_len t - 1 ≡ 2 + n = omega arith in
      let last : get_or t (block_len t - 1) 0 ≡ 47 = ap (λ k. get_or t k 0) place ∙ slash in
      after_here (block_len t) (omega arith) (omega (arith, length-drop i source, length-drop 2 t)) (omega (arith, last))

  none_boundary : IsCharBoundary source (i + 0)
  none_boundary = subst (IsCharBoundary source) (sym (add-zero i)) at

  block_or_none : 2 ≤ length (drop i source) → (found : Option (List ℕ)) → after 1 (drop 2 (drop i source)) ≡ found → IsCharBoundary source (i + block_len (drop i source))
  block_or_none long (Some rest) e = block_boundary rest long e
  block_or_none long None e =
      let len : block_len (drop i source) ≡ 0 = ap (λ o. elim o [ Some r ↦ length (drop i source) - length r | None ↦ 0 ]) e in
      subst (λ n. IsCharBoundary source (i + n)) (sym len) none_boundary

  pub part_boundary : IsCharBoundary source (i + part_len (drop i source))
  part_boundary =
      let t = drop i source in
      let P = λ (n : ℕ). IsCharBoundary source (i + n) in
      cond_both (length t == 0) 0 _ P (λ e. none_boundary) (λ some.
      cond_both (is_blank (slice_index t 0)) 1 _ P
      (λ e. let long : 0 < length t = omega (arith, ne_zero (length t) some) in after_here 1 (omega arith) (omega (arith, length-drop i source)) (blank_ascii (get_or t 0 0) e))
      (λ e. cond_both (begins 47 47 t) (line_len t) _ P (λ l. line_boundary)
      (λ l. cond_both (opens t) (block_len t) 0 P (λ o. block_or_none (opens_within t o) (after 1 (drop 2 t)) refl) (λ o. none_boundary))))

pub gap_boundary : (source : List ℕ) → IsUtf8 source → (n i : ℕ) → IsCharBoundary source i → IsCharBoundary source (i + parts_len n (drop i source))
gap_boundary source utf8 zero i at = none_boundary source utf8 i at
gap_boundary source utf8 (suc n) i at =
    let t = drop i source in
    let p = part_len t in
    let here = part_boundary source utf8 i at in
    let later = gap_boundary source utf8 n (i + p) here in
    cond_both (p == 0) 0 (parts_len n (drop p t)) (λ m. IsCharBoundary source (i + (p + m)))
    (λ e. let same : i + p ≡ i + (p + 0) = omega arith in subst (IsCharBoundary source) same here)
    (λ e.
    let same : i + p + parts_len n (drop (i + p) source) ≡ i + (p + parts_len n (drop p t)) =
    ap (λ l. i + p + parts_len n l) (sym (drop-drop p i source)) ∙ add_assoc i p (parts_len n (drop p t)) in
    subst (IsCharBoundary source) same later)
