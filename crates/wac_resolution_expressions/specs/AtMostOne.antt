-- Places of arguments.
use Rattle.std.specs.Prelude.{List, [], ◌∷◌, Option, Some, None}

-- one element, if it is present
abbrev pub at_most_one : {X : Type 0} → Option X → List X
at_most_one None = []
at_most_one (Some x) = x ∷ []
