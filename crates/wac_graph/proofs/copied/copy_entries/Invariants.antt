use Rattle.wac_graph.proofs.Common.{◌≡◌, length}
use Rattle.wac_graph.proofs.Growing.{Growing}
use Rattle.wac_graph.proofs.copied.copy_entries.Given as goal

abbrev pub invariant-loop-at : goal.invariant-loop-at
invariant-loop-at l = Growing l.initial.types l.from l.types l.at × (l.n ≡ length l.initial.types)
