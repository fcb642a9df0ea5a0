-- What a graph gets as nodes are named and added.
use Rattle.std.specs.Prelude.{◌≡◌, ℕ, List, Some}
use Rattle.wac_graph_types.specs.declared.kind.ItemKind.{ItemKind}
use Rattle.wac_graph_types.specs.Scope.{Named}
use Rattle.wac_graph.specs.Graph.{Parts}
use Rattle.wac_graph.specs.Origin.{Numbering}
use Rattle.wac_resolution_rules.specs.Composition.{named_at}
use Rattle.wac_resolution_state.specs.Nodes.{composition_of, kind_in, NodesStand}

-- the new graph has more nodes, or names for nodes, and nothing else; each node keeps its kind
pub record GrowsNodes (old new : Parts) : Type 0 where
  pub same : new ≡ record old { nodes = new.nodes }
  pub kinds : (n : ℕ) (k : ItemKind) → kind_in old.nodes n ≡ Some k → kind_in new.nodes n ≡ Some k
  pub stand : NodesStand new

-- the node has this name, where it had none
pub record IsNamed (old new : Parts) (node : ℕ) (name : List ℕ) : Type 0 where
  pub grows : GrowsNodes old new
  pub is : (numbering : Numbering) (declared : Named ℕ)
      → composition_of numbering new declared ≡ record (composition_of numbering old declared)
      { nodes = named_at (composition_of numbering old declared).nodes node name }
