-- Arguments of an instantiation as they are given.
use Rattle.std.specs.Prelude.{ℕ, List, [], ◌∷◌, map, Option, Some, None}
use Rattle.wac_graph_types.specs.Scope.{Named}
use Rattle.wac_graph.specs.declared.node.NodeId.{NodeId}

-- the numbers of the nodes that are given
abbrev pub given_nodes : Named NodeId → Named ℕ
given_nodes all = map (λ e. (e.0, e.1.0)) all

-- the name of the first
abbrev pub first_name : {X : Type 0} → Named X → Option (List ℕ)
first_name [] = None
first_name (x ∷ xs) = Some x.0
