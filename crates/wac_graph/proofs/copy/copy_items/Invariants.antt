use Rattle.wac_graph.proofs.Common.{ℕ, List, ItemKind, by_name}
use Rattle.wac_graph.specs.Moved.{moved, Fits}
use Rattle.wac_graph.proofs.Copying.{Copying}
use Rattle.wac_graph.proofs.copy.copy_items.Given as goal

abbrev pub invariant-loop-name : goal.invariant-loop-name
invariant-loop-name l = Copying (λ (e : List ℕ × ItemKind). e) (λ e. (e.0, moved l.n e.1)) (λ e. Fits l.n e.1) (by_name l.from.entries) (by_name l.copy.entries) (by_name l.name-iterator)
