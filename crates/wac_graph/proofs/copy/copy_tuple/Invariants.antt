use Rattle.wac_graph.proofs.Common.{◌≡◌, take, tuple_children}
use Rattle.wac_graph.specs.Moved.{moved_children}
use Rattle.wac_graph.proofs.copy.copy_tuple.Given as goal

abbrev pub invariant-loop-value : goal.invariant-loop-value
invariant-loop-value l = tuple_children l.copy.items ≡ moved_children l.n (tuple_children (take l.value-index l.from))
