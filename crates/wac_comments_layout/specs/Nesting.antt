-- How deep brackets are nested.
use Rattle.std.specs.Prelude.{◌≡◌, refl, codes, ℕ, ◌+◌, ◌-◌, nat_eq, nat_le, Bool, ◌||◌, List, [], ◌∷◌, Option, Some, None, if◌then◌else◌}
use Rattle.wac_lexer.specs.Characters.{refused}
use Rattle.wac_lexer.specs.Span.{Span, span}
use Rattle.wac_lexer.specs.Item.{Item}
use Rattle.wac_lexer.specs.Items.{items, items_from}
use Rattle.wac_comments_layout.specs.Brackets.{is_opening, is_closing}
use Rattle.wac_comments_layout.specs.Pieces.{Piece}

-- whether a byte is an opening bracket, where it stands outside strings and comments
abbrev pub may_open : ℕ → Bool
may_open b = nat_eq b 40 || (nat_eq b 91 || (nat_eq b 60 || nat_eq b 123))

-- how deep brackets of all four kinds together may be nested
abbrev pub most : ℕ
most = 1000

-- the first opening bracket among items that stands in as many others as the limit, where this many are open before the items
abbrev pub first_beyond : ℕ → ℕ → List Item → Option Span
first_beyond limit depth [] = None
first_beyond limit depth (item ∷ items) =
    if is_opening item.text then (if nat_le limit depth then Some item.span else first_beyond limit (depth + 1) items)
    else first_beyond limit (if is_closing item.text then depth - 1 else depth) items

-- the same among pieces, whose comments are no brackets
abbrev pub first_among : ℕ → ℕ → List Piece → Option Span
first_among limit depth [] = None
first_among limit depth (p ∷ ps) =
    if is_opening p.text then (if nat_le limit depth then Some p.span else first_among limit (depth + 1) ps)
    else first_among limit (if is_closing p.text then depth - 1 else depth) ps

-- The first bracket of a text that is nested deeper. Brackets in strings and comments are no items. A text with a refused character is
-- refused for that.
abbrev pub too_deep : List ℕ → Option Span
too_deep source = elim (refused source) [ Some fault ↦ None | None ↦ first_beyond most 0 (items source) ]

-- example
third_bracket : first_beyond 2 0 (items (codes "(a) [ \"((\" < /* ( */ (")) ≡ Some (span 21 1)
unfolding items_from
third_bracket = refl
