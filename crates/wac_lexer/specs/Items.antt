-- The items of a source: its tokens and faults, after blanks and comments.
use Rattle.std.specs.Prelude.{◌≡◌, refl, map, codes, ℕ, zero, suc, ◌+◌, nat_eq, List, [], ◌∷◌, take, drop, length, Option, Some, None, if◌then◌else◌, slice_get, slice_index, ◌==◌, Result, Ok, Err}
use Rattle.std.specs.Option.{option_map}
use Rattle.std.specs.Char.{len_utf8}
use Rattle.std.specs.Str.{chars}
use Rattle.wac_lexer.specs.Ascii.{quotation_mark}
use Rattle.wac_lexer.specs.Span.{Span, span, end_of}
use Rattle.wac_lexer.specs.declared.token.Token.{Token}
use Rattle.wac_lexer.specs.declared.token.Token.TheVariants.{Ident, String, Ellipsis, Dot}
use Rattle.wac_lexer.specs.declared.error.Error.{Error}
use Rattle.wac_lexer.specs.declared.error.Error.TheVariants.{UnexpectedToken, UnterminatedString, UnterminatedComment}
use Rattle.wac_lexer.specs.Comments.{gap, opens}
use Rattle.wac_lexer.specs.Docs.{docs_at}
use Rattle.wac_lexer.specs.Item.{Item}
use Rattle.wac_lexer.specs.Tokens.{longest_token}

-- how many bytes the first character takes, and 1 where the bytes are no text
abbrev pub first_char_len : List ℕ → ℕ
first_char_len text = elim (slice_get (chars text) 0) [ Some c ↦ len_utf8 c | None ↦ 1 ]

-- what a text begins with that no token begins: a quote without another, or a character
abbrev pub fault_of : List ℕ → Result Token Error × ℕ
fault_of text = if nat_eq (slice_index text 0) quotation_mark then (Err UnterminatedString, 1) else (Err UnexpectedToken, first_char_len text)

abbrev pub with_fault : Option (ℕ × Token) → Result Token Error × ℕ → Option (Result Token Error × ℕ)
with_fault found fault = elim found [ Some front ↦ Some (Ok front.1, front.0) | None ↦ Some fault ]

-- what begins a text, and how many bytes it takes: a comment without an end, the longest prefix that is a token, or
-- else a fault
abbrev pub first_item : List ℕ → Option (Result Token Error × ℕ)
first_item text =
    if length text == 0 then None
    else (if opens text then Some (Err UnterminatedComment, length text)
    else with_fault (longest_token text (length text)) (fault_of text))

-- the first item of a source after a place
abbrev pub item_at : List ℕ → ℕ → Option Item
item_at source place =
    let start = place + gap (drop place source) in
    let text = drop start source in
    option_map (λ found. record { token = found.0; text = take found.1 text; span = span start found.1; docs = docs_at source place }) (first_item text)

-- the first n items after a place, or all where there are fewer
abbrev pub items_upto : ℕ → List ℕ → ℕ → List Item
items_upto zero source place = []
items_upto (suc n) source place = elim (item_at source place) [ Some item ↦ item ∷ items_upto n source (end_of item.span) | None ↦ [] ]

-- all items after a place: each has a byte, so there are no more items than bytes
unfoldable pub items_from : List ℕ → ℕ → List Item
items_from source place = items_upto (length source) source place

-- the items of a text
abbrev pub items : List ℕ → List Item
items text = items_from text 0

-- examples: each item's token and span
abbrev placed : Item → Result Token Error × Span
placed item = (item.token, item.span)

faults_are_items : map placed (items (codes "a /* x */ \"b\" \"")) ≡ (Ok Ident, span 0 1) ∷ (Ok String, span 10 3) ∷ (Err UnterminatedString, span 14 1) ∷ []
unfolding items_from
faults_are_items = refl

dots_are_longest : map placed (items (codes "....")) ≡ (Ok Ellipsis, span 0 3) ∷ (Ok Dot, span 3 1) ∷ []
unfolding items_from
dots_are_longest = refl

comments_nest : map placed (items (codes "/* /* unterminated */")) ≡ (Err UnterminatedComment, span 0 21) ∷ []
unfolding items_from
comments_nest = refl
