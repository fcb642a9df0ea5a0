-- One step of a walk that is guided by what is known: over blanks, over a comment, over a token.
use Rattle.wac_comments_layout.proofs.Common.{◌≡◌, ℕ, zero, suc, ◌+◌, ◌<◌, ◌≤◌, Bool, true, false, cond, List, [], ◌∷◌, ◌++◌, map, take, drop, length, get_or, sym, refl, ap, ◌∙◌, subst, arith, Some, ◌==◌, nat_lt, prefix_len, bytes_eq, eqb-true, ltb-true, drop_more, get_or-drop, length-drop, length-take-le, take-append-drop, prefix_len_passes, is_blank, part_len, span, token_of, Token, bytes_eq_is}
use Rattle.std.proofs.lemmas.List.{drop-map}
use Rattle.wac_comments_layout.specs.Following.{may_follow, texts_from}
use Rattle.wac_comments_layout.specs.Kept.{kept}
use Rattle.wac_comments_layout.specs.Pieces.{Piece, comment_of_part, piece}
use Rattle.wac_comments_layout.specs.Texts.{texts_of}
use Rattle.wac_comments_layout.specs.declared.pieces.Piece.{Piece as Read}
use Rattle.wac_comments_layout.proofs.Apart.{what_may_follow}
use Rattle.wac_comments_layout.proofs.Commented.{blank_len, short_part}
use Rattle.wac_comments_layout.proofs.Stepping.{gap_step, token_step}

-- ---- blanks

one_blank : (source : List ℕ) (place : ℕ) → place < length source → is_blank (get_or source place 0) ≡ true → texts_from source place ≡ texts_from source (place + 1)
one_blank source place more blank =
    let none = short_part place 1 (drop place source) (omega arith) in
    gap_step source place 1 (blank_len source place more blank) (omega arith) more ∙ ap (λ cs. map (λ (c : Piece). c.text) cs ++ texts_from source (place + 1)) none

passed : (source : List ℕ) (n place : ℕ) → ((i : ℕ) → i < n → is_blank (get_or source (place + i) 0) ≡ true) → place + n ≤ length source → texts_from source (place + n) ≡ texts_from source place
passed source zero place blanks within = let same : place + 0 ≡ place = omega arith in ap (texts_from source) same
passed source (suc n) place blanks within =
    let here : place ≡ place + 0 = omega arith in
    let first : is_blank (get_or source place 0) ≡ true = ap (λ i. is_blank (get_or source i 0)) here ∙ blanks 0 (omega arith) in
    let past : place + suc n ≡ place + 1 + n = omega arith in
    let others : (i : ℕ) → i < n → is_blank (get_or source (place + 1 + i) 0) ≡ true =
    λ i less. let at : place + 1 + i ≡ place + suc i = omega arith in ap (λ k. is_blank (get_or source k 0)) at ∙ blanks (suc i) (omega (arith, less)) in
    ap (texts_from source) past ∙ passed source n (place + 1) others (omega (arith, within)) ∙ sym (one_blank source place (omega (arith, within)) first)

pub blanks_passed : (source : List ℕ) (place n : ℕ) → n ≡ prefix_len is_blank (drop place source) → place + n ≤ length source → texts_from source (place + n) ≡ texts_from source place
blanks_passed source place n is within =
    passed source n place (λ i less. sym (ap is_blank (get_or-drop place source i 0)) ∙ prefix_len_passes is_blank (drop place source) i 0 (subst (λ m. i < m) is less)) within

-- ---- a comment

pub comment_step : (source comment : List ℕ) (place len : ℕ) → part_len (drop place source) ≡ len → 1 < len → place + len ≤ length source → kept (take len (drop place source)) ≡ comment
    → texts_from source place ≡ comment ∷ texts_from source (place + len)
comment_step source comment place len part more within is =
    let t = take len (drop place source) in
    let whole : length t ≡ len = length-take-le len (drop place source) (omega (arith, within, length-drop place source)) in
    let one : comment_of_part place t ≡ piece (kept t) (span place (length t)) ∷ [] = go (nat_lt (length t) 2) refl whole in
    gap_step source place len part (omega (arith, more)) (omega (arith, within, more))
    ∙ ap (λ cs. map (λ (c : Piece). c.text) cs ++ texts_from source (place + len)) one
    ∙ ap (λ x. x ∷ texts_from source (place + len)) is
  where
    go : (short : Bool) → nat_lt (length (take len (drop place source))) 2 ≡ short → length (take len (drop place source)) ≡ len
        → comment_of_part place (take len (drop place source)) ≡ piece (kept (take len (drop place source))) (span place (length (take len (drop place source)))) ∷ []
    go true e whole = absurd (let less = ltb-true (length (take len (drop place source))) 2 e in omega (arith, less, whole, more))
    go false e whole =
        ap (λ b. cond b [] (piece (kept (take len (drop place source))) (span place (length (take len (drop place source)))) ∷ [])) e

-- ---- a token

pub token_here : (source token : List ℕ) (place len : ℕ) (kind : Token) → token_of token ≡ Some kind → len ≡ length token → bytes_eq (take len (drop place source)) token ≡ true
    → may_follow token (drop len (drop place source)) ≡ true → texts_from source place ≡ token ∷ texts_from source (place + len)
token_here source token place len kind is size same apart =
    let t = drop place source in
    let split : t ≡ token ++ drop len t = sym (take-append-drop len t) ∙ ap (λ f. f ++ drop len t) (bytes_eq_is (take len t) token same) in
    token_step source token (drop len t) place kind split (what_may_follow token (drop len t) kind is apart)
    ∙ ap (λ n. token ∷ texts_from source (place + n)) (sym size)

-- ---- the end

pub is_nil : (t : List ℕ) → (length t == 0) ≡ true → t ≡ []
is_nil [] e = refl
is_nil (b ∷ t) e = absurd (let none = eqb-true (length (b ∷ t)) 0 e in omega (arith, none))

-- ---- pieces one by one

-- the texts from a piece on
pub texts_at : (pieces : List Read) (i : ℕ) (piece : Read) → i < length pieces → piece ≡ get_or pieces i piece → drop i (texts_of pieces) ≡ piece.text.now ∷ drop (i + 1) (texts_of pieces)
texts_at pieces i piece less is =
    let text = λ (p : Read). p.text.now in
    drop-map text i pieces
    ∙ ap (map text) (drop_more pieces i piece less)
    ∙ ap (λ (p : Read). p.text.now ∷ map text (drop (i + 1) pieces)) (sym is)
    ∙ ap (λ rest. piece.text.now ∷ rest) (sym (drop-map text (i + 1) pieces))
