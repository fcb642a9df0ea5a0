-- Pairs of entries that have to mean the same for others to do so.
use Rattle.std.specs.Prelude.{◌≡◌, ℕ, Bool, IsTrue, List, Some, slice_get}
use Rattle.std.specs.List.{AllByRecursion}
use Rattle.wac_graph_types.specs.declared.entry.Entry.{Entry}
use Rattle.wac_graph_types.specs.Meaning.{Meaning}
use Rattle.wac_graph_types.specs.Shape.{entry_over}

-- the entries of each pair have one meaning
abbrev pub Agree : (ℕ → Meaning) → List (ℕ × ℕ) → Type 0
Agree means pairs = AllByRecursion (λ p. means p.0 ≡ means p.1) pairs

-- what agrees on these pairs agrees on the others
abbrev pub Follow : List (ℕ × ℕ) → List (ℕ × ℕ) → Type 0
Follow pairs others = (means : ℕ → Meaning) → Agree means pairs → Agree means others

-- what agrees on these pairs and on one more agrees on the others
abbrev pub FollowWith : ℕ → ℕ → List (ℕ × ℕ) → List (ℕ × ℕ) → Type 0
FollowWith i j pairs others = (means : ℕ → Meaning) → Agree means pairs → means i ≡ means j → Agree means others

-- what agrees on these pairs gives two entries one meaning
abbrev pub AreMadeOne : List (ℕ × ℕ) → ℕ → ℕ → Type 0
AreMadeOne pairs i j = (means : ℕ → Meaning) → Agree means pairs → means i ≡ means j

-- each pair stays in its place
abbrev pub Keeps : List (ℕ × ℕ) → List (ℕ × ℕ) → Type 0
Keeps old new = (k : ℕ) (p : ℕ × ℕ) → slice_get old k ≡ Some p → slice_get new k ≡ Some p

-- Of meanings under which the old pairs agree, P holds exactly where the answer is true and the new pairs agree.
pub record Reduces (P : (ℕ → Meaning) → Type 0) (answer : Bool) (old new : List (ℕ × ℕ)) : Type 0 where
  pub keeps : Keeps old new
  pub needed : (means : ℕ → Meaning) → Agree means old → P means → IsTrue answer × Agree means new
  pub enough : (means : ℕ → Meaning) → IsTrue answer → Agree means new → P means

-- the entries of a pair mean the same, over these meanings of the entries that they name
abbrev pub AreAlikeOver : (ℕ → ℕ) → List Entry → ℕ → ℕ → (ℕ → Meaning) → Type 0
AreAlikeOver origins es i j means = (d e : Entry) → slice_get es i ≡ Some d → slice_get es j ≡ Some e
    → entry_over means (origins i) d ≡ entry_over means (origins j) e
