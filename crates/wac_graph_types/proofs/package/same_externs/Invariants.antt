use Rattle.wac_graph_types.proofs.Common.{ℕ}
use Rattle.wac_graph_types.specs.Entry.{export_children}
use Rattle.wac_graph_types.specs.Meaning.{IsOneToOne, meaning_at}
use Rattle.wac_graph_types.proofs.Rows.{RestDecides}
use Rattle.wac_graph_types.proofs.package.same_externs.Given as goal

abbrev pub invariant-loop-at : goal.invariant-loop-at
invariant-loop-at l = (o : ℕ → ℕ) → IsOneToOne l.entries o → RestDecides (meaning_at o l.entries) (export_children l.first.entries) (export_children l.second.entries) l.at
