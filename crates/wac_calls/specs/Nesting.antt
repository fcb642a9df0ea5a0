-- How deep brackets are nested.
use Rattle.std.specs.Prelude.{◌≡◌, refl, codes, ℕ, ◌+◌, ◌-◌, nat_lt, Bool, ◌||◌, List, [], ◌∷◌, Option, Some, None, if◌then◌else◌}
use Rattle.std.specs.Str.{bytes_eq}
use Rattle.wac_lexer.specs.Characters.{refused}
use Rattle.wac_lexer.specs.Span.{Span, span}
use Rattle.wac_lexer.specs.Item.{Item}
use Rattle.wac_lexer.specs.Items.{items, items_from}
use Rattle.wac_comments_layout.specs.Brackets.{is_opening, is_closing}

-- How many levels a bracket counts as. `new` stands in the braces of another, and takes twice the stack of what stands
-- in other brackets.
abbrev pub levels : List ℕ → ℕ
levels bracket = if bytes_eq bracket (codes "{") || bytes_eq bracket (codes "}") then 2 else 1

-- the first opening bracket among items for which fewer levels are left than it counts as, where this many are taken
-- before the items
abbrev pub first_beyond : ℕ → ℕ → List Item → Option Span
first_beyond limit depth [] = None
first_beyond limit depth (item ∷ items) =
    if is_opening item.text
    then (if nat_lt (limit - depth) (levels item.text) then Some item.span
    else first_beyond limit (depth + levels item.text) items)
    else first_beyond limit (if is_closing item.text then depth - levels item.text else depth) items

-- The first bracket of a text that is nested deeper than a limit. Brackets in strings and comments are no items. A text
-- with a refused character is refused for that.
abbrev pub first_deeper : ℕ → List ℕ → Option Span
first_deeper limit source = elim (refused source) [ Some fault ↦ None | None ↦ first_beyond limit 0 (items source) ]

-- examples: the third bracket is one too many, and a brace within a brace takes a third and a fourth level
third_bracket : first_beyond 2 0 (items (codes "(a) [ \"((\" < /* ( */ (")) ≡ Some (span 21 1)
unfolding items_from
third_bracket = refl

second_brace : first_beyond 3 0 (items (codes "{ } { {")) ≡ Some (span 6 1)
unfolding items_from
second_brace = refl
