-- Printing keeps all comments, in order.
use Rattle.wac_comments_layout.proofs.Common.{◌≡◌, ℕ, ◌+◌, Bool, true, false, cond, List, [], ◌∷◌, ◌++◌, filter, sym, refl, ap, ◌∙◌, append_assoc, append-nil, codes}
use Rattle.std.proofs.lemmas.List.Elements.{filter-append}
use Rattle.wac_comments_layout.specs.Kept.{is_comment}
use Rattle.wac_comments_layout.specs.Printing.{Texts, added, ends_resource, goes, innermost, needs_comma, opened_after, printed, printed_from, spelled, tokens_of}
use Rattle.wac_comments_layout.specs.declared.brackets.Brackets.{Brackets}

abbrev comments_of : Texts → Texts
comments_of texts = filter is_comment texts

-- what is added is no comment
none_added : (resource comma : Bool) → comments_of (cond resource (codes "{" ∷ []) (cond comma (codes "," ∷ []) [])) ≡ []
none_added true comma = refl
none_added false true = refl
none_added false false = refl

-- a token is no comment, however it is printed
none_spelled : (resource : Bool) (text : List ℕ) → is_comment text ≡ false → is_comment (cond resource (codes "}") text) ≡ false
none_spelled true text e = refl
none_spelled false text e = e

-- what is printed of a token and of what stands after it, by whether the token goes
abbrev by_test : Texts → ℕ → List Brackets → Texts → List ℕ → Texts → Bool → Texts
by_test tokens at opened waiting text texts b =
    cond b (printed_from tokens (at + 1) (opened_after tokens at opened) waiting texts)
    (waiting ++ spelled tokens at text ∷ printed_from tokens (at + 1) (opened_after tokens at opened) [] texts)

-- what is printed of a comment or a token and of what stands after it, by whether it is a comment
abbrev by_sort : Texts → ℕ → List Brackets → Texts → List ℕ → Texts → Bool → Texts
by_sort tokens at opened waiting text texts b =
    cond b (printed_from tokens at opened (waiting ++ text ∷ []) texts)
    (added tokens at (innermost opened) ++ by_test tokens at opened waiting text texts (goes tokens at (innermost opened)))

-- the comments of what is printed from here on
abbrev Keeps : Texts → Texts → Texts → Type 0
Keeps waiting texts made = comments_of made ≡ comments_of waiting ++ comments_of texts

-- one step, where what is printed after it keeps its comments
module _ (tokens : Texts) (at : ℕ) (opened : List Brackets) (waiting : Texts) (text : List ℕ) (texts : Texts)
    (here : Keeps (waiting ++ text ∷ []) texts (printed_from tokens at opened (waiting ++ text ∷ []) texts))
    (later : (waits : Texts) → Keeps waits texts (printed_from tokens (at + 1) (opened_after tokens at opened) waits texts)) where
  tested : (b : Bool) → is_comment text ≡ false → Keeps waiting texts (by_test tokens at opened waiting text texts b)
  tested true e = later waiting
  tested false e =
      let word = spelled tokens at text in
      let rest = printed_from tokens (at + 1) (opened_after tokens at opened) [] texts in
      let none = none_spelled (ends_resource tokens at) text e in
      filter-append is_comment waiting (word ∷ rest)
      ∙ ap (λ (t : Bool). comments_of waiting ++ cond t (word ∷ comments_of rest) (comments_of rest)) none
      ∙ ap (λ l. comments_of waiting ++ l) (later [])

  sorted : (b : Bool) → is_comment text ≡ b → comments_of (by_sort tokens at opened waiting text texts b) ≡ comments_of waiting ++ cond b (text ∷ comments_of texts) (comments_of texts)
  sorted true e =
      here
      ∙ ap (λ l. l ++ comments_of texts) (filter-append is_comment waiting (text ∷ []) ∙ ap (λ (t : Bool). comments_of waiting ++ cond t (text ∷ []) []) e)
      ∙ append_assoc (comments_of waiting) (text ∷ []) (comments_of texts)
  sorted false e =
      let front = added tokens at (innermost opened) in
      let test = goes tokens at (innermost opened) in
      filter-append is_comment front (by_test tokens at opened waiting text texts test)
      ∙ ap (λ l. l ++ comments_of (by_test tokens at opened waiting text texts test)) (none_added (ends_resource tokens at) (needs_comma tokens at (innermost opened)))
      ∙ tested test e

comments_from : (tokens : Texts) (at : ℕ) (opened : List Brackets) (waiting texts : Texts) → Keeps waiting texts (printed_from tokens at opened waiting texts)
comments_from tokens at opened waiting [] = sym (append-nil (comments_of waiting))
comments_from tokens at opened waiting (text ∷ texts) =
    sorted tokens at opened waiting text texts
    (comments_from tokens at opened (waiting ++ text ∷ []) texts)
    (λ waits. comments_from tokens (at + 1) (opened_after tokens at opened) waits texts)
    (is_comment text) refl

pub comments_printed : (texts : Texts) → filter is_comment (printed texts) ≡ filter is_comment texts
comments_printed texts = comments_from (tokens_of texts) 0 [] [] texts
