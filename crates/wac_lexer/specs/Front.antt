-- The longest prefix of a text that has a shape, as the walk finds it. The public definition is `longest_token` of
-- Tokens.
use Rattle.std.specs.Prelude.{ℕ, zero, suc, List, take, Option, Some, None}
use Rattle.std.specs.Option.{option_map}
use Rattle.wac_lexer.specs.Automaton.{shape_at, state_at}
use Rattle.wac_lexer.specs.Shapes.{shape_of}
use Rattle.wac_lexer.specs.declared.shape.Shape.{Shape}

-- of the prefixes with at most n bytes the longest that has a shape: its length and its shape
abbrev pub longest : List ℕ → ℕ → Option (ℕ × Shape)
longest text zero = None
longest text (suc n) = elim (shape_of (take (suc n) text)) [ Some shape ↦ Some (suc n, shape) | None ↦ longest text n ]

-- a prefix of this length, with the shape of the texts that end in the state of this number
abbrev pub found_at : ℕ → ℕ → Option (ℕ × Shape)
found_at len state = option_map (λ shape. (len, shape)) (shape_at (state_at state))
