-- What an entry is apart from the kinds in it.
use Rattle.std.specs.Prelude.{ℕ, Option, List, Bool}
use Rattle.wac_graph_types.specs.Kind.{Form}

-- what names no origin
pub data Plain : Type 0 where
  kind : Form → Plain
  absent dangling : Plain
  tuple list option result variant fields flags cases alias stream future : Plain
  func : Bool → Plain
  interface world : Option (List ℕ) → Plain
  deriving Discrete as Plain-discrete

pub data Label : Type 0 where
  plain : Plain → Label
  resource : ℕ → List ℕ → Label
  deriving Discrete as Label-discrete
