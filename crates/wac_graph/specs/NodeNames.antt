-- Nodes by name.
use Rattle.std.specs.Prelude.{ℕ, map}
use Rattle.wac_graph_types.specs.Scope.{Named}
use Rattle.wac_graph.specs.declared.node.NodeId.{NodeId}

-- names, each with the number of its node
abbrev pub numbers_of : Named NodeId → Named ℕ
numbers_of names = map (λ n. (n.0, n.1.0)) names
