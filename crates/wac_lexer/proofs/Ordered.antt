-- The items of a source are in order, and cut no character.
use Rattle.wac_lexer.proofs.Common.{◌≡◌, ℕ, zero, suc, ◌+◌, ◌<◌, ◌≤◌, List, [], ◌∷◌, ◌++◌, take, drop, length, get_or, sym, refl, ap, ◌∙◌, subst, arith, Option, Some, None, Result, Err, nat_eq, slice_index, slice_get, ◌==◌, encode_utf8, len_utf8, IsUtf8, IsCharBoundary, encode_utf8_all, cond_both, eqb-true, IsCharBoundary-end, IsCharBoundary-start, IsCharBoundary-at_seam, IsCharBoundary-from_rest, IsUtf8-past_char, IsUtf8-drop, chars_past_char, length-encode}
use Rattle.wac_lexer.specs.Item.{Item}
use Rattle.wac_lexer.specs.Tokens.{token_of, longest_token}
use Rattle.wac_lexer.specs.Shapes.{shape_of}
use Rattle.wac_lexer.specs.Comments.{opens}
use Rattle.wac_lexer.specs.Items.{first_item, first_char_len, fault_of, with_fault, items_upto, items_from, items}
use Rattle.wac_lexer.specs.Order.{InOrder}
use Rattle.wac_lexer.specs.declared.shape.Shape.{Shape}
use Rattle.wac_lexer.specs.declared.token.Token.{Token}
use Rattle.wac_lexer.specs.declared.error.Error.{Error}
use Rattle.wac_lexer.specs.declared.error.Error.TheVariants.{UnexpectedToken, UnterminatedString, UnterminatedComment}
use Rattle.wac_lexer.proofs.Boundaries.{ne_zero, gap_boundary}
use Rattle.wac_lexer.proofs.Fronts.{boundary_after_ascii, front_boundary, no_shape_no_token}
use Rattle.wac_lexer.proofs.Longest.{Longest, longest_is}
use Rattle.wac_lexer.proofs.Unfolded.{HasByte, first_has_byte, start_of, item_is, before_others}

abbrev EndsWell : List ℕ → Option (Result Token Error × ℕ) → Type 0
EndsWell text None = Unit {0}
EndsWell text (Some found) = IsCharBoundary text found.1

-- the first character
char_boundary : (text : List ℕ) → IsUtf8 text → 0 < length text → IsCharBoundary text (first_char_len text)
char_boundary text ([], is) some = absurd (omega (arith, ap length is.1))
char_boundary text (c ∷ cs, is) some =
    let begins : text ≡ encode_utf8 c ++ encode_utf8_all cs = sym is.1 in
    let utf8 : IsUtf8 text = (c ∷ cs, is) in
    let first : first_char_len text ≡ len_utf8 c = ap (λ l. elim (slice_get l 0) [ Some c ↦ len_utf8 c | None ↦ 1 ]) (chars_past_char text (encode_utf8_all cs) c utf8 begins) in
    let at = IsCharBoundary-at_seam text (encode_utf8 c) (encode_utf8_all cs) begins (IsUtf8-past_char text (encode_utf8_all cs) c utf8 begins) in
    subst (IsCharBoundary text) (length-encode c ∙ sym first) at

module _ (text : List ℕ) (utf8 : IsUtf8 text) (some : 0 < length text) where
  fault_boundary : EndsWell text (Some (fault_of text))
  fault_boundary =
      let quote : Result Token Error × ℕ = (Err UnterminatedString, 1) in
      let other : Result Token Error × ℕ = (Err UnexpectedToken, first_char_len text) in
      cond_both (nat_eq (slice_index text 0) 34) quote other (λ found. IsCharBoundary text found.1)
      (λ e. let byte : get_or text 0 0 ≡ 34 = eqb-true (slice_index text 0) 34 e in boundary_after_ascii text 1 utf8 (omega arith) (omega arith) (omega (arith, byte)))
      (λ e. char_boundary text utf8 some)

  token_boundary : (n : ℕ) (token : Token) → 0 < n → n ≤ length text → token_of (take n text) ≡ Some token → (shape : Option Shape) → shape_of (take n text) ≡ shape → IsCharBoundary text n
  token_boundary n token positive fits e None f = let both : None ≡ Some token = sym (no_shape_no_token (take n text) f) ∙ e in absurd cc
  token_boundary n token positive fits e (Some shape) f = front_boundary text n shape utf8 positive fits f

  found_boundary : (found : Option (ℕ × Token)) → Longest text (length text) found → EndsWell text (with_fault found (fault_of text))
  found_boundary None h = fault_boundary
  found_boundary (Some front) h = token_boundary front.0 front.1 h.0 h.1 h.2 (shape_of (take front.0 text)) refl

first_boundary : (text : List ℕ) → IsUtf8 text → EndsWell text (first_item text)
first_boundary text utf8 =
    cond_both (length text == 0) None _ (EndsWell text) (λ e. tt)
    (λ e. cond_both (opens text) (Some (Err UnterminatedComment, length text)) _ (EndsWell text)
    (λ o. IsCharBoundary-end text)
    (λ o. found_boundary text utf8 (ne_zero (length text) e) (longest_token text (length text)) (longest_is text (length text))))

-- the items
in_order : (source : List ℕ) → IsUtf8 source → (n place : ℕ) → IsCharBoundary source place → InOrder source place (items_upto n source place)
in_order source utf8 zero place at = tt
in_order source utf8 (suc n) place at =
    go (λ next b. in_order source utf8 n next b) (first_item text) refl (first_has_byte text) (first_boundary text (IsUtf8-drop source start utf8 begins))
  where
    start : ℕ
    start = start_of source place

    text : List ℕ
    text = drop start source

    begins : IsCharBoundary source start
    begins = gap_boundary source utf8 (length (drop place source)) place at

    go : ((next : ℕ) → IsCharBoundary source next → InOrder source next (items_upto n source next))
        → (found : Option (Result Token Error × ℕ)) → first_item text ≡ found → HasByte found → EndsWell text found → InOrder source place (items_upto (suc n) source place)
    go later None e some ends = let P = λ (items : List Item). InOrder source place items in subst P (sym (ap (before_others n source) (item_is source place None e))) tt
    go later (Some found) e some ends =
        let P = λ (items : List Item). InOrder source place items in
        let finish = IsCharBoundary-from_rest source start found.1 begins.0 ends in
        subst P (sym (ap (before_others n source) (item_is source place (Some found) e)))
        (omega arith, some, (begins, finish), refl, later (start + found.1) finish)

pub ordered : (source : List ℕ) → IsUtf8 source → InOrder source 0 (items source)
unfolding items_from
ordered source utf8 = in_order source utf8 (length source) 0 (IsCharBoundary-start source utf8)
