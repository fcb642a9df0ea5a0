-- A table that has grown by copies of another.
use Rattle.std.specs.Prelude.{◌≡◌, ◌+◌, ℕ, List, [], ◌∷◌, ◌++◌, length}
use Rattle.wac_graph_types.specs.declared.entry.Entry.{Entry}
use Rattle.wac_graph_types.specs.declared.kind.ItemKind.{ItemKind}
use Rattle.wac_graph_types.specs.Entry.{children, sort_of, label}
use Rattle.wac_graph_types.specs.Meaning.{meaning, NamesBefore}
use Rattle.wac_graph.specs.Moved.{moved, moved_children}

-- the second entry is the first with its numbers moved by n
pub record IsCopy (n : ℕ) (e d : Entry) : Type 0 where
  pub sorts : sort_of d ≡ sort_of e
  pub labels : (origin : ℕ) → label origin d ≡ label origin e
  pub kinds : children d ≡ moved_children n (children e)

abbrev pub AreCopies : ℕ → List Entry → List Entry → Type 0
AreCopies n [] [] = Unit {0}
AreCopies n [] (d ∷ ds) = ⊥
AreCopies n (e ∷ es) [] = ⊥
AreCopies n (e ∷ es) (d ∷ ds) = IsCopy n e d × AreCopies n es ds

-- entries were appended
abbrev pub IsGrown : List Entry → List Entry → Type 0
IsGrown old new = (ds : List Entry) × (new ≡ old ++ ds)

-- copies of the entries es were appended, with the numbers that they then have
abbrev pub IsGrownBy : List Entry → List Entry → List Entry → Type 0
IsGrownBy old es new = (ds : List Entry) × (new ≡ old ++ ds) × AreCopies (length old) es ds

-- what a kind of es means, its copy means, where a copied resource has the origin of its new number
abbrev pub MeansTheSame : List Entry → List Entry → List Entry → Type 0
MeansTheSame old es new = (origins : ℕ → ℕ) (k : ItemKind) → NamesBefore (length es) k → meaning origins new (moved (length old) k) ≡ meaning (λ i. origins (length old + i)) es k
