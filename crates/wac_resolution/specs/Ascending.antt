-- Places that ascend.
use Rattle.std.specs.Prelude.{◌≤◌, ◌+◌, ℕ, List, [], ◌∷◌}
use Rattle.std.specs.Str.{IsUtf8}
use Rattle.wac_ast_grammar.specs.TextTree.{IsTreeOf}
use Rattle.wac_ast_grammar.specs.Tree.{Document}
use Rattle.wac_resolution_rules.specs.Mentions.{Mention}

-- from this place on, each mention begins after the place at which the one before it begins
abbrev pub AscendFrom : ℕ → List Mention → Type 0
AscendFrom place [] = Unit {0}
AscendFrom place (m ∷ ms) = (place ≤ m.1.offset) × AscendFrom (m.1.offset + 1) ms

-- the mentions are in the order of their places
abbrev pub Ascend : List Mention → Type 0
Ascend ms = AscendFrom 0 ms

-- they are, where the document is that of a text
abbrev pub AscendInTexts : Document → List Mention → Type 0
AscendInTexts doc ms = (source : List ℕ) → IsUtf8 source → IsTreeOf source doc → Ascend ms
