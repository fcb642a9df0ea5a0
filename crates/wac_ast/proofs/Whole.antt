-- Parsing a whole text.
use Rattle.wac_ast.proofs.Common.{◌≡◌, ℕ, List, [], ◌∷◌, None, Result, Ok, Err, false, refl, sym, ap, ◌∙◌, inl, inr, OnOk, Span, span, Item, items, Reading, left, Error, End, Gives, has_more, final_span, told_in, Document, document, read}
use Rattle.wac_ast_base.specs.Answer.{end_of_input}
use Rattle.wac_lexer.specs.Characters.{refused}
use Rattle.wac_ast.specs.Document.{end_of_text, Parses}

same_end : (x y : End) → x.source ≡ y.source → x.final ≡ y.final → x ≡ y
same_end x y source final = ap (λ (s : List ℕ). let e : End = record { source = s; final = x.final } in e) source ∙ ap (λ (s : Span). let e : End = record { source = y.source; final = s } in e) final

-- the end of the input, as seen from the beginning of a text
pub end_at_start : (l : Reading) (text : List ℕ) → l.source ≡ text → left l ≡ items text → l.last ≡ span 0 0 → end_of_input l ≡ end_of_text text
unfolding end_of_input
end_at_start l text source all last = same_end (end_of_input l) (end_of_text text) source (ap (final_span l.last) all ∙ ap (λ (s : Span). final_span s (items text)) last)

-- no item is left where there is no next one
pub none_left : (xs : List Item) → has_more xs ≡ false → xs ≡ []
none_left [] h = refl
none_left (x ∷ xs) h = absurd cc

-- the result for a text is the result from the lexer's start
pub parses : {D : Type 0} (view : D → Document) (r : Result D Error) (l new : Reading) (text : List ℕ) → refused text ≡ None → l.source ≡ text → left l ≡ items text → l.last ≡ span 0 0 → Gives view r l new (read document (left l)) → OnOk r (left new ≡ []) → Parses view r text
parses view (Ok d) l new text clean source all last gives ended = (clean, ap (read document) (sym all) ∙ gives.0 ∙ ap (λ (xs : List Item). Ok (view d, xs)) ended)
parses view (Err e) l new text clean source all last (inl memory) ended = inl memory
parses view (Err e) l new text clean source all last (inr told) ended = inr (inr (clean, ap (λ (xs : List Item). told_in (end_of_text text) (read document xs)) (sym all) ∙ ap (λ (end : End). told_in end (read document (left l))) (sym (end_at_start l text source all last)) ∙ told))
