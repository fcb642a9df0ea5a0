-- The texts of the pieces from a place on: one step over a token, and over a blank or a comment.
use Rattle.wac_comments_layout.proofs.Common.{◌≡◌, ℕ, zero, suc, ◌+◌, ◌<◌, ◌≤◌, cond, List, [], ◌∷◌, ◌++◌, map, take, drop, length, sym, refl, ap, ◌∙◌, arith, Ok, Option, Some, None, Result, append_assoc, ◌==◌, drop-drop, length-drop, map-append, part_len, gap, Follows, first_item, span, Token, Error, stands_alone, start_of, items_some, items_none, items_end}
use Rattle.wac_lexer.specs.Items.{items_from}
use Rattle.std.proofs.Math.Seq.{take-append_seam}
use Rattle.wac_lexer.proofs.Gaps.{gap_done, gap_part}
use Rattle.wac_comments_layout.specs.Pieces.{Piece, comment_of_part, comments_at, comments_upto, end_piece, piece, pieces_after}
use Rattle.wac_comments_layout.specs.Following.{texts_from}
use Rattle.wac_comments_layout.proofs.Commented.{comments_done, comments_end, comments_more}

module _ (source t rest : List ℕ) (place : ℕ) (k : Token) (split : drop place source ≡ t ++ rest) (follow : Follows k t rest) where
  at_once : part_len (drop place source) ≡ 0
  at_once = ap part_len split ∙ (stands_alone t rest k follow).0

  start_here : start_of source place ≡ place
  start_here = gap_done (drop place source) place (length (drop place source)) at_once

  text_here : drop (start_of source place) source ≡ t ++ rest
  text_here = ap (λ n. drop n source) start_here ∙ split

  none : comments_at source place ≡ []
  unfolding comments_at
  none = comments_done source (length source) place at_once

  pub token_step : texts_from source place ≡ t ∷ texts_from source (place + length t)
  token_step =
      let text : take (length t) (drop (start_of source place) source) ≡ t = ap (take (length t)) text_here ∙ take-append_seam t rest in
      ap (λ xs. map (λ (p : Piece). p.text) (pieces_after source place xs)) (items_some source place (Ok k, length t) (ap first_item text_here ∙ (stands_alone t rest k follow).1))
      ∙ (λ i. map (λ (p : Piece). p.text) (none i ++ piece (text i) (span (start_here i) (length t)) ∷ pieces_after source (start_here i + length t) (items_from source (start_here i + length t))))

-- any number of parts not below that of the bytes will do
abbrev next_comments : ℕ → ℕ → List ℕ → ℕ → List Piece
next_comments len m source start = cond (len == 0) [] (comment_of_part start (take len (drop start source)) ++ comments_upto m source (start + len))

same_comments : (source : List ℕ) (n m place : ℕ) → length source ≤ place + n → length source ≤ place + m → comments_upto n source place ≡ comments_upto m source place
same_comments source zero m place a b = sym (comments_end source m place (omega (arith, a)))
same_comments source (suc n) zero place a b = comments_end source (suc n) place (omega (arith, b))
same_comments source (suc n) (suc m) place a b = go (part_len (drop place source)) refl (λ p. same_comments source n m (place + suc p) (omega (arith, a)) (omega (arith, b)))
  where
    go : (p : ℕ) → part_len (drop place source) ≡ p → ((p : ℕ) → comments_upto n source (place + suc p) ≡ comments_upto m source (place + suc p)) → comments_upto (suc n) source place ≡ comments_upto (suc m) source place
    go zero e later = comments_done source (suc n) place e ∙ sym (comments_done source (suc m) place e)
    go (suc p) e later =
        ap (λ p. next_comments p n source place) e
        ∙ ap (λ c. cond (suc p == 0) [] (comment_of_part place (take (suc p) (drop place source)) ++ c)) (later p)
        ∙ sym (ap (λ p. next_comments p m source place) e)

-- the comments in a gap that a blank or a comment begins
pub part_step : (source : List ℕ) (place p : ℕ) → part_len (drop place source) ≡ p → 0 < p → place < length source
    → comments_at source place ≡ comment_of_part place (take p (drop place source)) ++ comments_at source (place + p)
unfolding comments_at
part_step source place p e positive more =
    let step = comments_more source (length source) place p e positive more (omega arith) in
    step.2 ∙ ap (λ c. comment_of_part place (take p (drop place source)) ++ c) (same_comments source step.0 (length source) (place + p) step.1 (omega arith))

-- after a part the next item begins where it did
same_start : (source : List ℕ) (place p : ℕ) → part_len (drop place source) ≡ p → 0 < p → place < length source → start_of source place ≡ start_of source (place + p)
same_start source place p e positive more =
    let here = gap_part (drop place source) p e positive (omega (arith, more, length-drop place source)) in
    let there : gap (drop (place + p) source) ≡ gap (drop p (drop place source)) = ap gap (sym (drop-drop p place source)) in
    omega (arith, here, there)

-- the pieces from two places on, with the same first item, where more comments stand before the first one
same_pieces : (source : List ℕ) (a b : ℕ) (front : List Piece) → start_of source a ≡ start_of source b → comments_at source a ≡ front ++ comments_at source b
    → pieces_after source a (items_from source a) ≡ front ++ pieces_after source b (items_from source b)
same_pieces source a b front starts same = go (first_item (drop (start_of source a) source)) refl
  where
    there : (found : Option (Result Token Error × ℕ)) → first_item (drop (start_of source a) source) ≡ found → first_item (drop (start_of source b) source) ≡ found
    there found f = ap (λ s. first_item (drop s source)) (sym starts) ∙ f

    go : (found : Option (Result Token Error × ℕ)) → first_item (drop (start_of source a) source) ≡ found → pieces_after source a (items_from source a) ≡ front ++ pieces_after source b (items_from source b)
    go None f =
        ap (pieces_after source a) (items_none source a f)
        ∙ ap (λ c. c ++ end_piece source ∷ []) same
        ∙ append_assoc front (comments_at source b) (end_piece source ∷ [])
        ∙ sym (ap (λ xs. front ++ pieces_after source b xs) (items_none source b (there None f)))
    go (Some x) f =
        let first = piece (take x.1 (drop (start_of source b) source)) (span (start_of source b) x.1) in
        ap (pieces_after source a) (items_some source a x f)
        ∙ (λ i. same i ++ piece (take x.1 (drop (starts i) source)) (span (starts i) x.1) ∷ pieces_after source (starts i + x.1) (items_from source (starts i + x.1)))
        ∙ append_assoc front (comments_at source b) (first ∷ pieces_after source (start_of source b + x.1) (items_from source (start_of source b + x.1)))
        ∙ sym (ap (λ xs. front ++ pieces_after source b xs) (items_some source b x (there (Some x) f)))

-- one step over a blank or a comment
pub gap_step : (source : List ℕ) (place p : ℕ) → part_len (drop place source) ≡ p → 0 < p → place < length source
    → texts_from source place ≡ map (λ (c : Piece). c.text) (comment_of_part place (take p (drop place source))) ++ texts_from source (place + p)
gap_step source place p e positive more =
    let text = λ (c : Piece). c.text in
    let part = comment_of_part place (take p (drop place source)) in
    ap (map text) (same_pieces source place (place + p) part (same_start source place p e positive more) (part_step source place p e positive more))
    ∙ map-append text part (pieces_after source (place + p) (items_from source (place + p)))

-- the end
none_left : (source : List ℕ) (place : ℕ) → length source ≤ place → comments_at source place ≡ []
unfolding comments_at
none_left source place past = comments_end source (length source) place past

pub end_step : (source : List ℕ) (place : ℕ) → length source ≤ place → texts_from source place ≡ [] ∷ []
end_step source place past =
    ap (λ xs. map (λ (p : Piece). p.text) (pieces_after source place xs)) (items_end source place past)
    ∙ ap (λ c. map (λ (p : Piece). p.text) (c ++ end_piece source ∷ [])) (none_left source place past)
