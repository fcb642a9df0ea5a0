-- What is known of the item that is found at a place, and how many items come before it.
use Rattle.wac_lexer.proofs.Common.{◌≡◌, ℕ, zero, suc, ◌+◌, ◌-◌, ◌<◌, ◌≤◌, List, [], ◌∷◌, ◌++◌, drop, length, sym, refl, ap, ◌∙◌, subst, arith, Option, Some, None, Result, length-append}
use Rattle.wac_lexer.specs.Span.{Span, end_of}
use Rattle.wac_lexer.specs.Item.{Item, NextToken, next_token, after_first_item, OnFirst}
use Rattle.wac_lexer.specs.Items.{first_item, item_at, items_upto, items_from, items}
use Rattle.wac_lexer.specs.Reading.{BetweenItems, items_before, slice}
use Rattle.wac_lexer.specs.declared.token.Token.{Token}
use Rattle.wac_lexer.specs.declared.error.Error.{Error}
use Rattle.wac_lexer.proofs.Unfolded.{start_of, HasByte, first_has_byte, items_none, items_some, before_others}

-- ---- the first item

-- the first item ends after the place, its text is the slice at its span, and the others follow it
abbrev Stand : List ℕ → ℕ → List Item → Type 0
Stand source place [] = Unit {0}
Stand source place (item ∷ others) = (place < end_of item.span) × (item.text ≡ slice source item.span) × (items_from source (end_of item.span) ≡ others)

stand : (source : List ℕ) (place : ℕ) → Stand source place (items_from source place)
stand source place = go (first_item (drop (start_of source place) source)) refl (first_has_byte (drop (start_of source place) source))
  where
    go : (found : Option (Result Token Error × ℕ)) → first_item (drop (start_of source place) source) ≡ found → HasByte found → Stand source place (items_from source place)
    go None e b = subst (Stand source place) (sym (items_none source place e)) tt
    go (Some found) e b = subst (Stand source place) (sym (items_some source place found e)) (omega (arith, b), refl, refl)

abbrev pub IsSome : NextToken → Type 0
IsSome None = ⊥
IsSome (Some x) = Unit {0}

abbrev token_end : NextToken → ℕ
token_end None = 0
token_end (Some x) = end_of x.1

-- where none is returned, none is left
pub none_next : (xs : List Item) → None ≡ next_token xs → xs ≡ []
none_next [] e = refl
none_next (item ∷ others) e = absurd (subst IsSome (sym e) tt)

-- after an item that is returned come the others
pub found_rest : (source : List ℕ) (place : ℕ) (x : Result Token Error × Span) → Some x ≡ next_token (items_from source place) → items_from source (end_of x.1) ≡ after_first_item (items_from source place)
found_rest source place x = go (items_from source place) (stand source place)
  where
    go : (xs : List Item) → Stand source place xs → Some x ≡ next_token xs → items_from source (end_of x.1) ≡ after_first_item xs
    go [] s e = absurd (subst IsSome e tt)
    go (item ∷ others) s e = ap (items_from source) (ap token_end e) ∙ s.2

-- an item that is returned ends after the place
pub found_ends : (source : List ℕ) (place : ℕ) (x : Result Token Error × Span) → Some x ≡ next_token (items_from source place) → place < end_of x.1
found_ends source place x = go (items_from source place) (stand source place)
  where
    go : (xs : List Item) → Stand source place xs → Some x ≡ next_token xs → place < end_of x.1
    go [] s e = absurd (subst IsSome e tt)
    go (item ∷ others) s e = subst (λ n. place < n) (sym (ap token_end e)) s.0

-- the text of the first item is the slice at its span
pub first_text : (source : List ℕ) (place : ℕ) → OnFirst (items_from source place) (λ item. item.text ≡ slice source item.span)
first_text source place = go (items_from source place) (stand source place)
  where
    go : (xs : List Item) → Stand source place xs → OnFirst xs (λ item. item.text ≡ slice source item.span)
    go [] s = tt
    go (item ∷ others) s = s.1

-- ---- how many items come before a place

-- each item has a byte
count_upto : (n : ℕ) (source : List ℕ) (place : ℕ) → length (items_upto n source place) ≤ n
count_upto zero source place = omega arith
count_upto (suc n) source place = go (λ next. count_upto n source next) (item_at source place)
  where
    go : ((next : ℕ) → length (items_upto n source next) ≤ n) → (found : Option Item) → length (before_others n source found) ≤ suc n
    go fewer None = omega arith
    go fewer (Some item) = omega (arith, fewer (end_of item.span))

count : (source : List ℕ) → length (items source) ≤ length source
unfolding items_from
count source = count_upto (length source) source 0

-- no more than the source has bytes
pub before_within : (source : List ℕ) (place : ℕ) → items_before source place ≤ length source
before_within source place = omega (arith, count source)

-- one less where an item is left
pub before_last : (source : List ℕ) (place : ℕ) (x : Result Token Error × Span) → Some x ≡ next_token (items_from source place) → BetweenItems source place → items_before source place + 1 ≤ length source
before_last source place x e between = go (items_from source place) between.1 e
  where
    go : (after : List Item) → items source ≡ between.0 ++ after → Some x ≡ next_token after → length (items source) - length after + 1 ≤ length source
    go [] b e = absurd (subst IsSome e tt)
    go (item ∷ after) b e = omega (arith, count source, ap length b, length-append between.0 (item ∷ after))

-- after an item there is one more
pub before_next : (source : List ℕ) (place next : ℕ) (x : Result Token Error × Span) → Some x ≡ next_token (items_from source place) → BetweenItems source place → items_from source next ≡ after_first_item (items_from source place) → items_before source next ≡ items_before source place + 1
before_next source place next x e between rest = go (items_from source place) between.1 e rest
  where
    go : (after : List Item) → items source ≡ between.0 ++ after → Some x ≡ next_token after → items_from source next ≡ after_first_item after → items_before source next ≡ length (items source) - length after + 1
    go [] b e r = absurd (subst IsSome e tt)
    go (item ∷ after) b e r = omega (arith, ap length r, ap length b, length-append between.0 (item ∷ after))
