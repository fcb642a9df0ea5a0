-- Which entries of a table contain a borrow.
use Rattle.std.specs.Prelude.{◌≡◌, ℕ, Bool, List, [], map}
use Rattle.wac_graph_types.specs.declared.entry.Entry.{Entry}
use Rattle.wac_graph_types.specs.Meaning.{Meaning, meanings_from}
use Rattle.wac_graph_types.specs.Shape.{contains_borrow}

-- for each entry whether its meaning contains one, whatever the origins of resources are
pub record AreBorrows (es : List Entry) (known : List Bool) : Type 0 where
  pub each : (origins : ℕ → ℕ) → known ≡ map contains_borrow (meanings_from origins [] es)

-- where this is known of entries' meanings, the answer says whether what is read of these contains a borrow
abbrev pub SaysBorrow : List Bool → (List Meaning → Meaning) → Bool → Type 0
SaysBorrow known read answer = (ms : List Meaning) → known ≡ map contains_borrow ms → answer ≡ contains_borrow (read ms)
