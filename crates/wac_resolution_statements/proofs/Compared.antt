-- Kinds that are compared by rules.
use Rattle.wac_resolution_statements.proofs.Common.{◌≡◌, ℕ, List, Option, subst, Reason, ItemKind, Entry, Meaning, meaning, Parts, means, origin_at, OriginsApart, Numbering, IsOneToOne}
use Rattle.std.proofs.Common.{Result}
use Rattle.wac_graph.specs.Means.{entry_means_in}
use Rattle.wac_graph_types.specs.Meaning as tables
use Rattle.wac_graph_types.specs.Rules.{Answers}

-- what rules say of two kinds under the table, they say under a numbering that is one to one
pub compared : (g : Parts) (passes : Meaning → Meaning → Option Reason) (es : List Entry) (r : Result (Unit {0}) Reason) (a b : ItemKind) → es ≡ g.types → OriginsApart g
    → ((origins : ℕ → ℕ) → tables.IsOneToOne es origins → Answers r (passes (meaning origins es a) (meaning origins es b))) → (numbering : Numbering) → IsOneToOne numbering → Answers r (passes (means numbering g a) (means numbering g b))
unfolding entry_means_in
compared g passes es r a b same apart h numbering one =
    subst (λ (ts : List Entry). (origins : ℕ → ℕ) → tables.IsOneToOne ts origins → Answers r (passes (meaning origins ts a) (meaning origins ts b))) same h (λ n. numbering (origin_at g n)) (apart numbering one)
