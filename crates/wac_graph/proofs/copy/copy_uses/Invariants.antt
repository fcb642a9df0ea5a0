use Rattle.wac_graph.proofs.Common.{by_name}
use Rattle.wac_graph.specs.Moved.{moved_child, ChildFits}
use Rattle.wac_graph.proofs.Copying.{Copying}
use Rattle.wac_graph.proofs.Views.{use_child}
use Rattle.wac_graph.proofs.copy.copy_uses.Given as goal

abbrev pub invariant-loop-name : goal.invariant-loop-name
invariant-loop-name l = Copying use_child (moved_child l.n) (ChildFits l.n) (by_name l.from.entries) (by_name l.copy.entries) (by_name l.name-iterator)
