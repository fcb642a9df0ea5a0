use Rattle.std.proofs.Common.{◌<◌, length}
use Rattle.std.specs.List.{AllByRecursion}
use Rattle.wac_vectors_component_rules.proofs.pairs.node_named.Given as goal

abbrev pub invariant-loop-node : goal.invariant-loop-node
invariant-loop-node l = AllByRecursion (λ k. k < length l.graph.nodes) l.node-iterator
