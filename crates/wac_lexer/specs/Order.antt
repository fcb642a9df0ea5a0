-- The order of the items of a source.
use Rattle.std.specs.Prelude.{◌≡◌, ◌<◌, ◌≤◌, ℕ, List, [], ◌∷◌}
use Rattle.wac_lexer.specs.Span.{end_of}
use Rattle.wac_lexer.specs.Item.{Item}
use Rattle.wac_lexer.specs.Reading.{slice, Slices}

-- from a place on the items are in order, none overlaps another: each has bytes, cuts no character, and its text is the
-- slice at its span
abbrev pub InOrder : List ℕ → ℕ → List Item → Type 0
InOrder source place [] = Unit {0}
InOrder source place (item ∷ items) =
    (place ≤ item.span.offset) × (0 < item.span.len) × Slices source item.span × (item.text ≡ slice source item.span) × InOrder source (end_of item.span) items
