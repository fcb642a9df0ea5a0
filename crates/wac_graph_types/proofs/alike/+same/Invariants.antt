use Rattle.wac_graph_types.proofs.Common.{ℕ, ◌+◌, ◌*◌}
use Rattle.wac_graph_types.specs.Entry.{children}
use Rattle.wac_graph_types.specs.Meaning.{IsOneToOne, meaning_at}
use Rattle.wac_graph_types.specs.Pairs.{AreAlike}
use Rattle.wac_graph_types.proofs.Rows.{RestDecides, above}
use Rattle.wac_graph_types.proofs.alike.+same.Given as goal

abbrev pub decreases-same_at : goal.decreases-same_at
decreases-same_at l = 2 * l.i + 1

abbrev pub decreases-same_kind : goal.decreases-same_kind
decreases-same_kind l = above l.a

abbrev pub invariant-same_at-loop-at : goal.invariant-same_at-loop-at
invariant-same_at-loop-at l = AreAlike l.entries l.found × ((origins : ℕ → ℕ) → IsOneToOne l.entries origins → RestDecides (meaning_at origins l.entries) (children l.first) (children l.second) l.at)
