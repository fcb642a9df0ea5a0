-- What a sink holds after a text was put.
use Rattle.std.specs.Prelude.{◌≡◌, ◌<◌, ◌+◌, ℕ, List, ◌++◌, length, take, Result, Ok, Err}
use Rattle.wac_tool_graphs.specs.declared.lines.OutputFailed.{OutputFailed}

-- new is old with a proper prefix of the text after it
pub record Began (old new text : List ℕ) : Type 0 where
  pub count : ℕ
  pub fewer : count < length text
  pub is : new ≡ old ++ take count text

-- All of the text was put, or the sink failed once, after a prefix of it.
abbrev pub Puts : Result (Unit {0}) OutputFailed → List ℕ → ℕ → List ℕ → ℕ → List ℕ → Type 0
Puts (Ok _) old failures new failures' text = (new ≡ old ++ text) × (failures' ≡ failures)
Puts (Err _) old failures new failures' text = Began old new text × (failures' ≡ failures + 1)
