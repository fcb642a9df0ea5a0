-- Instances of packages.
use Rattle.std.specs.Prelude.{◌≡◌, ◌<◌, ℕ, Some, length, slice_get}
use Rattle.wac_graph_types.specs.declared.kind.ItemKind.TheVariants as kinds
use Rattle.wac_graph_types.specs.Scope.{Named}
use Rattle.wac_graph.specs.declared.node.NodeId.{NodeId}
use Rattle.wac_graph.specs.Graph.{Parts}
use Rattle.wac_graph.specs.Means.{means}
use Rattle.wac_graph.specs.Origin.{Numbering}
use Rattle.wac_graph.specs.Package.{HeldPackage}
use Rattle.wac_resolution_rules.specs.Expressions.{at}
use Rattle.wac_resolution_rules.specs.Nodes.{next_of, with_instance}
use Rattle.wac_resolution_state.specs.NodeGrowth.{GrowsNodes}
use Rattle.wac_resolution_state.specs.Nodes.{composition_of}
use Rattle.wac_resolution_expressions.specs.Arguments.{given_nodes}

-- the node is the instance of the package with these arguments, which was made
pub record MakesInstance (old new : Parts) (p : ℕ) (given : Named NodeId) (n : ℕ) : Type 0 where
  pub grows : GrowsNodes old new
  pub there : n < length new.nodes
  pub is : (held : HeldPackage) → slice_get old.packages p ≡ Some held → (numbering : Numbering) (declared : Named ℕ)
      → at (composition_of numbering new declared) n
      ≡ at (with_instance (composition_of numbering old declared) held.key
      (means numbering old (kinds.Instance held.instance)) (given_nodes given))
      (next_of (composition_of numbering old declared))
