-- The brackets among the pieces of a text are those among its items.
use Rattle.wac_comments_layout.proofs.Common.{◌≡◌, ℕ, zero, suc, ◌+◌, ◌-◌, ◌<◌, ◌≤◌, Bool, true, false, cond, List, [], ◌∷◌, ◌++◌, take, drop, length, sym, refl, ap, ◌∙◌, subst, arith, Option, Some, None, ◌==◌, nat_eq, nat_le, nat_lt, slice_index, AllByRecursion, and_parts, cond_both, eqb-true, ltb-false, begins, is_blank, opens, part_len, Item, items, Span, end_of, part_by, refused}
use Rattle.std.proofs.lemmas.List.{length-take as taken}
use Rattle.std.proofs.Math.Nat.{min-le_left}
use Rattle.wac_comments_layout.specs.Brackets.{is_opening, is_closing}
use Rattle.wac_comments_layout.specs.Kept.{kept, kept_len}
use Rattle.wac_comments_layout.specs.Nesting.{first_beyond, first_among, most, too_deep}
use Rattle.wac_comments_layout.specs.Pieces.{Piece, comment_of_part, comments_at, comments_upto, end_piece, piece, pieces, pieces_after}

-- a text is no bracket
abbrev NoBracket : List ℕ → Type 0
NoBracket t = (is_opening t ≡ false) × (is_closing t ≡ false)

abbrev NoBrackets : List Piece → Type 0
NoBrackets ps = AllByRecursion (λ p. NoBracket p.text) ps

-- what begins with a slash
abbrev pub AfterSlash : List ℕ → Type 0
AfterSlash [] = Unit {0}
AfterSlash (b ∷ t) = b ≡ 47

slash_none : (t : List ℕ) → AfterSlash t → NoBracket t
slash_none [] h = (refl, refl)
slash_none (b ∷ t) h = (ap (λ c. is_opening (c ∷ t)) h, ap (λ c. is_closing (c ∷ t)) h)

slash_front : (n : ℕ) (t : List ℕ) → AfterSlash t → AfterSlash (take n t)
slash_front zero t h = tt
slash_front (suc n) [] h = tt
slash_front (suc n) (b ∷ t) h = h

begins_slash : (y : ℕ) (t : List ℕ) → begins 47 y t ≡ true → AfterSlash t
begins_slash y [] e = tt
begins_slash y (a ∷ []) e = absurd cc
begins_slash y (a ∷ b ∷ t) e = eqb-true a 47 (and_parts (nat_eq a 47) (nat_eq b y) e).0

-- a part of a gap that is more than a blank is a comment
part_slash : (t : List ℕ) → 1 < part_len t → AfterSlash t
part_slash t more = go (length t == 0) (is_blank (slice_index t 0)) (begins 47 47 t) (opens t) refl refl refl refl
  where
    go : (none white line block : Bool) → (length t == 0) ≡ none → is_blank (slice_index t 0) ≡ white → begins 47 47 t ≡ line → opens t ≡ block → AfterSlash t
    go none white true block n w l b = begins_slash 47 t l
    go none white false true n w l b = begins_slash 42 t b
    go true white false false n w l b =
        let less : 1 < 0 = subst (λ (k : ℕ). 1 < k) (ap (λ v. part_by t v (is_blank (slice_index t 0)) (begins 47 47 t) (opens t)) n) more in
        absurd (omega (arith, less))
    go false true false false n w l b =
        let less : 1 < 1 = subst (λ (k : ℕ). 1 < k) (λ i. part_by t (n i) (w i) (begins 47 47 t) (opens t)) more in
        absurd (omega (arith, less))
    go false false false false n w l b =
        let less : 1 < 0 = subst (λ (k : ℕ). 1 < k) (λ i. part_by t (n i) (w i) (l i) (b i)) more in
        absurd (omega (arith, less))

not_less : (n : ℕ) → nat_lt n 2 ≡ false → 1 < n
not_less n e = let h = ltb-false n 2 e in omega (arith, h)

-- what holds of each text that begins with a slash holds of the comments of a gap
module _ (P : List ℕ → Type 0) (of_slash : (t : List ℕ) → AfterSlash t → P t) where
  abbrev All : List Piece → Type 0
  All ps = AllByRecursion (λ p. P p.text) ps

  pub both : (ps qs : List Piece) → All ps → All qs → All (ps ++ qs)
  both [] qs h k = k
  both (p ∷ ps) qs h k = (h.0, both ps qs h.1 k)

  part_all : (place : ℕ) (t : List ℕ) → All (comment_of_part place (take (part_len t) t))
  part_all place t =
      let part = take (part_len t) t in
      cond_both (nat_lt (length part) 2) [] (piece (kept part) (record { offset = place; len = length part }) ∷ []) All (λ e. tt)
      (λ e.
      let more = not_less (length part) e in
      let slash = part_slash t (omega (arith, more, at_most t)) in
      (of_slash (kept part) (slash_front (kept_len part) part (slash_front (part_len t) t slash)), tt))
    where
      at_most : (t : List ℕ) → length (take (part_len t) t) ≤ part_len t
      at_most t = let h = taken (part_len t) t in let m = min-le_left (part_len t) (length t) in omega (arith, h, m)

  comments_all : (n : ℕ) (source : List ℕ) (place : ℕ) → All (comments_upto n source place)
  comments_all zero source place = tt
  comments_all (suc n) source place =
      let t = drop place source in
      let len = part_len t in
      cond_both (len == 0) [] (comment_of_part place (take len t) ++ comments_upto n source (place + len)) All (λ e. tt)
      (λ e. both (comment_of_part place (take len t)) (comments_upto n source (place + len)) (part_all place t) (comments_all n source (place + len)))

  pub gap_all : (source : List ℕ) (place : ℕ) → All (comments_at source place)
  unfolding comments_at
  gap_all source place = comments_all (length source) source place

-- one piece
abbrev among_by : ℕ → ℕ → Piece → List Piece → Bool → Bool → Option Span
among_by limit depth p ps opening closing =
    cond opening (cond (nat_le limit depth) (Some p.span) (first_among limit (depth + 1) ps))
    (first_among limit (cond closing (depth - 1) depth) ps)

skip : (limit depth : ℕ) (ps qs : List Piece) → NoBrackets ps → first_among limit depth (ps ++ qs) ≡ first_among limit depth qs
skip limit depth [] qs h = refl
skip limit depth (p ∷ ps) qs h = (λ i. among_by limit depth p (ps ++ qs) (h.0.0 i) (h.0.1 i)) ∙ skip limit depth ps qs h.1

after : (source : List ℕ) (limit depth place : ℕ) (xs : List Item) → first_among limit depth (pieces_after source place xs) ≡ first_beyond limit depth xs
after source limit depth place [] = skip limit depth (comments_at source place) (end_piece source ∷ []) (gap_all NoBracket slash_none source place)
after source limit depth place (x ∷ xs) =
    let next = end_of x.span in
    skip limit depth (comments_at source place) (piece x.text x.span ∷ pieces_after source next xs) (gap_all NoBracket slash_none source place)
    ∙ (λ i. cond (is_opening x.text) (cond (nat_le limit depth) (Some x.span) (after source limit (depth + 1) next xs i))
    (after source limit (cond (is_closing x.text) (depth - 1) depth) next xs i))

pub deep_is : (source : List ℕ) → refused source ≡ None → first_among most 0 (pieces source) ≡ too_deep source
deep_is source clean =
    after source most 0 0 (items source)
    ∙ sym (ap (λ o. elim o [ Some fault ↦ None | None ↦ first_beyond most 0 (items source) ]) clean)
