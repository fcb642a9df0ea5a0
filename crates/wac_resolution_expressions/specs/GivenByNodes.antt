-- Arguments that are given by nodes of a graph that grows.
use Rattle.std.specs.Prelude.{ℕ}
use Rattle.wac_graph_types.specs.Scope.{Named}
use Rattle.wac_graph.specs.declared.node.NodeId.{NodeId}
use Rattle.wac_graph.specs.Graph.{Parts}
use Rattle.wac_graph.specs.Origin.{Numbering}
use Rattle.wac_resolution_rules.specs.Expressions.{Giving}
use Rattle.wac_resolution_state.specs.NodeGrowth.{GrowsNodes}
use Rattle.wac_resolution_expressions.specs.Spreads.{giving_of, GivenThere}

-- nodes were added and given, and this holds of what was given before and after
pub record Gave (old new : Parts) (before after : Named NodeId) (declared : Named ℕ)
    (holds : Numbering → Giving → Giving → Type 0) : Type 0 where
  pub grows : GrowsNodes old new
  pub there : GivenThere new after
  pub is : (numbering : Numbering) → holds numbering (giving_of numbering old declared before) (giving_of numbering new declared after)
