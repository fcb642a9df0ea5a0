-- The items after a place, unfolded once: the first one, and the items after it.
use Rattle.wac_lexer.proofs.Common.{◌≡◌, ℕ, zero, suc, ◌+◌, ◌<◌, ◌≤◌, List, [], ◌∷◌, ◌++◌, take, drop, length, sym, refl, ap, ◌∙◌, subst, arith, Option, Some, None, Result, Err, append_assoc, slice_get, slice_index, nat_eq, nat_lt, ◌==◌, len_utf8, chars, drop_all, cond_both}
use Rattle.wac_lexer.specs.Span.{span, end_of}
use Rattle.wac_lexer.specs.Item.{Item, after_first_item, OnFirst}
use Rattle.wac_lexer.specs.Tokens.{token_of, longest_token}
use Rattle.wac_lexer.specs.Comments.{gap, opens}
use Rattle.wac_lexer.specs.Docs.{docs_at}
use Rattle.wac_lexer.specs.Items.{first_item, first_char_len, fault_of, with_fault, item_at, items_upto, items_from, items}
use Rattle.wac_lexer.specs.Reading.{BetweenItems}
use Rattle.wac_lexer.specs.declared.token.Token.{Token}
use Rattle.wac_lexer.specs.declared.error.Error.{Error}
use Rattle.wac_lexer.specs.declared.error.Error.TheVariants.{UnexpectedToken, UnterminatedString, UnterminatedComment}
use Rattle.wac_lexer.proofs.Boundaries.{ne_zero}

-- each item has a byte
abbrev pub HasByte : Option (Result Token Error × ℕ) → Type 0
HasByte None = Unit {0}
HasByte (Some found) = 0 < found.1

char_has_byte : (text : List ℕ) → 0 < first_char_len text
char_has_byte text = go (slice_get (chars text) 0)
  where
    len_positive : (c : ℕ) → 0 < len_utf8 c
    len_positive c =
        cond_both (nat_lt c 0x80) 1 _ (λ n. 0 < n) (λ e. omega arith)
        (λ e. cond_both (nat_lt c 0x800) 2 _ (λ n. 0 < n) (λ f. omega arith) (λ f. cond_both (nat_lt c 0x1_0000) 3 4 (λ n. 0 < n) (λ g. omega arith) (λ g. omega arith)))

    go : (c : Option ℕ) → 0 < elim c [ Some c ↦ len_utf8 c | None ↦ 1 ]
    go None = omega arith
    go (Some c) = len_positive c

fault_has_byte : (text : List ℕ) → 0 < (fault_of text).1
fault_has_byte text =
    let quote : Result Token Error × ℕ = (Err UnterminatedString, 1) in
    let other : Result Token Error × ℕ = (Err UnexpectedToken, first_char_len text) in
    cond_both (nat_eq (slice_index text 0) 34) quote other (λ found. 0 < found.1) (λ e. omega arith) (λ e. char_has_byte text)

abbrev TokenHasByte : Option (ℕ × Token) → Type 0
TokenHasByte None = Unit {0}
TokenHasByte (Some front) = 0 < front.0

token_has_byte : (text : List ℕ) (n : ℕ) → TokenHasByte (longest_token text n)
token_has_byte text zero = tt
token_has_byte text (suc n) = go (token_of (take (suc n) text)) (token_has_byte text n)
  where
    go : (token : Option Token) → TokenHasByte (longest_token text n) → TokenHasByte (elim token [ Some token ↦ Some (suc n, token) | None ↦ longest_token text n ])
    go None h = h
    go (Some token) h = omega arith

with_fault_has_byte : (text : List ℕ) (found : Option (ℕ × Token)) → TokenHasByte found → HasByte (with_fault found (fault_of text))
with_fault_has_byte text None h = fault_has_byte text
with_fault_has_byte text (Some front) h = h

pub first_has_byte : (text : List ℕ) → HasByte (first_item text)
first_has_byte text =
    cond_both (length text == 0) None _ HasByte (λ e. tt)
    (λ some. cond_both (opens text) (Some (Err UnterminatedComment, length text)) _ HasByte
    (λ e. ne_zero (length text) some)
    (λ e. with_fault_has_byte text (longest_token text (length text)) (token_has_byte text (length text))))

-- where the next item begins, and the item that begins there
abbrev pub start_of : List ℕ → ℕ → ℕ
start_of source place = place + gap (drop place source)

abbrev pub made : List ℕ → ℕ → Result Token Error × ℕ → Item
made source place found =
    record { token = found.0; text = take found.1 (drop (start_of source place) source); span = span (start_of source place) found.1; docs = docs_at source place }

abbrev pub made_of : List ℕ → ℕ → Option (Result Token Error × ℕ) → Option Item
made_of source place found = elim found [ Some f ↦ Some (made source place f) | None ↦ None ]

pub item_is : (source : List ℕ) (place : ℕ) (found : Option (Result Token Error × ℕ)) → first_item (drop (start_of source place) source) ≡ found → item_at source place ≡ made_of source place found
item_is source place found e = ap (made_of source place) e

abbrev pub before_others : ℕ → List ℕ → Option Item → List Item
before_others n source found = elim found [ Some item ↦ item ∷ items_upto n source (end_of item.span) | None ↦ [] ]

none_at_end : (source : List ℕ) (place : ℕ) → length source ≤ place → first_item (drop (start_of source place) source) ≡ None
none_at_end source place h = ap first_item (drop_all (start_of source place) source (omega arith))

-- any number not below that of the bytes left will do
enough : (source : List ℕ) (n m place : ℕ) → length source ≤ place + n → length source ≤ place + m → items_upto n source place ≡ items_upto m source place
enough source zero zero place h k = refl
enough source zero (suc m) place h k = sym (ap (before_others m source) (item_is source place None (none_at_end source place (omega arith))))
enough source (suc n) zero place h k = ap (before_others n source) (item_is source place None (none_at_end source place (omega arith)))
enough source (suc n) (suc m) place h k =
    go (λ next b c. enough source n m next b c) (first_item (drop (start_of source place) source)) refl (first_has_byte (drop (start_of source place) source))
  where
    go : ((next : ℕ) → length source ≤ next + n → length source ≤ next + m → items_upto n source next ≡ items_upto m source next)
        → (found : Option (Result Token Error × ℕ)) → first_item (drop (start_of source place) source) ≡ found → HasByte found → items_upto (suc n) source place ≡ items_upto (suc m) source place
    go more None e b = ap (before_others n source) (item_is source place None e) ∙ sym (ap (before_others m source) (item_is source place None e))
    go more (Some f) e b =
        ap (before_others n source) (item_is source place (Some f) e)
        ∙ ap (λ items. made source place f ∷ items) (more (start_of source place + f.1) (omega (arith, b)) (omega (arith, b)))
        ∙ sym (ap (before_others m source) (item_is source place (Some f) e))

-- one more than enough
one_more : (source : List ℕ) (place : ℕ) → items_from source place ≡ items_upto (suc (length source)) source place
unfolding items_from
one_more source place = enough source (length source) (suc (length source)) place (omega arith) (omega arith)

-- nothing is found: there are no items
pub items_none : (source : List ℕ) (place : ℕ) → first_item (drop (start_of source place) source) ≡ None → items_from source place ≡ []
items_none source place e = one_more source place ∙ ap (before_others (length source) source) (item_is source place None e)

-- something is found: it is the first item, and the others follow it
pub items_some : (source : List ℕ) (place : ℕ) (found : Result Token Error × ℕ) → first_item (drop (start_of source place) source) ≡ Some found → items_from source place ≡ made source place found ∷ items_from source (start_of source place + found.1)
unfolding items_from
items_some source place found e = one_more source place ∙ ap (before_others (length source) source) (item_is source place (Some found) e)

pub items_end : (source : List ℕ) (place : ℕ) → length source ≤ place → items_from source place ≡ []
items_end source place h = items_none source place (none_at_end source place h)

-- where no items are left, none are left at the end
pub none_left : (source : List ℕ) (place : ℕ) → items_from source place ≡ [] → items_from source (length source) ≡ after_first_item (items_from source place)
none_left source place none = items_end source (length source) (omega arith) ∙ sym (ap after_first_item none)

-- after an item the place is between two items again
pub between_next : (source : List ℕ) (place next : ℕ) → BetweenItems source place → items_from source next ≡ after_first_item (items_from source place) → BetweenItems source next
between_next source place next between e = go (items_from source place) between.1 e
  where
    go : (after : List Item) → items source ≡ between.0 ++ after → items_from source next ≡ after_first_item after → BetweenItems source next
    go [] b f = (between.0, b ∙ ap (λ l. between.0 ++ l) (sym f))
    go (item ∷ after) b f = (between.0 ++ item ∷ [], b ∙ sym (append_assoc between.0 (item ∷ []) after) ∙ ap (λ l. (between.0 ++ item ∷ []) ++ l) (sym f))

pub between_start : (source : List ℕ) → BetweenItems source 0
between_start source = ([], refl)

-- the docs of the first item are those of the place
pub first_docs : (source : List ℕ) (place : ℕ) → OnFirst (items_from source place) (λ item. item.docs ≡ docs_at source place)
first_docs source place = go (first_item (drop (start_of source place) source)) refl
  where
    go : (found : Option (Result Token Error × ℕ)) → first_item (drop (start_of source place) source) ≡ found → OnFirst (items_from source place) (λ item. item.docs ≡ docs_at source place)
    go None e = let P = λ (items : List Item). OnFirst items (λ item. item.docs ≡ docs_at source place) in subst P (sym (items_none source place e)) tt
    go (Some found) e = let P = λ (items : List Item). OnFirst items (λ item. item.docs ≡ docs_at source place) in subst P (sym (items_some source place found e)) refl
