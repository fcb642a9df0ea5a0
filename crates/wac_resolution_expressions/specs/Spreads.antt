-- Arguments over a graph's composition, and spreads.
use Rattle.std.specs.Prelude.{◌≡◌, ◌<◌, ℕ, List, length, fold, Some, None, is_some, if◌then◌else◌}
use Rattle.std.specs.List.{AllByRecursion}
use Rattle.wac_graph_types.specs.declared.kind.InterfaceId.{InterfaceId}
use Rattle.wac_graph_types.specs.declared.kind.WorldId.{WorldId}
use Rattle.wac_graph_types.specs.Meaning.{Meaning}
use Rattle.wac_graph_types.specs.Scope.{Named, look_up}
use Rattle.wac_graph_types.specs.Shape.{exports_of, imports_of}
use Rattle.wac_graph.specs.declared.node.NodeId.{NodeId}
use Rattle.wac_graph.specs.Graph.{Parts}
use Rattle.wac_graph.specs.Means.{entry_means}
use Rattle.wac_graph.specs.Origin.{Numbering}
use Rattle.wac_resolution_rules.specs.Expressions.{Giving, at, alias_at, given_too, spread_from}
use Rattle.wac_resolution_state.specs.NodeGrowth.{GrowsNodes}
use Rattle.wac_resolution_state.specs.Instances.{IsInstance}
use Rattle.wac_resolution_state.specs.Nodes.{composition_of}
use Rattle.wac_resolution_expressions.specs.Arguments.{given_nodes}

-- the arguments given so far, and the composition
abbrev pub giving_of : Numbering → Parts → Named ℕ → Named NodeId → Giving
giving_of numbering g declared all = record { composition = composition_of numbering g declared; arguments = given_nodes all }

-- the nodes that are given exist
abbrev pub GivenThere : Parts → Named NodeId → Type 0
GivenThere g all = AllByRecursion (λ e. e.1.0 < length g.nodes) all

-- what a world of the graph imports
abbrev pub imports_at : Numbering → Parts → WorldId → Named Meaning
imports_at numbering g w = imports_of (entry_means numbering g w.0)

-- a name for which nothing is given yet: where the node exports it, its alias is given
abbrev pub name_spread : ℕ → Named Meaning → Giving → List ℕ → Giving
name_spread node exports g name = if is_some (look_up name g.arguments) then g else elim (look_up name exports)
    [ None ↦ g | Some k ↦ given_too g name (alias_at (at g.composition node) name k) ]

-- that was done for each of these names
pub record NamesSpread (old new : Parts) (before after : Named NodeId) (node : ℕ) (names : List (List ℕ)) : Type 0 where
  pub grows : GrowsNodes old new
  pub there : GivenThere new after
  pub is : (i : InterfaceId) → IsInstance old node i → (numbering : Numbering) (declared : Named ℕ)
      → giving_of numbering new declared after ≡ fold (name_spread node (exports_of (entry_means numbering old i.0)))
      (giving_of numbering old declared before) names

-- a node was spread over what a world imports
pub record NodeSpread (old new : Parts) (before after : Named NodeId) (node : ℕ) (world : WorldId) : Type 0 where
  pub grows : GrowsNodes old new
  pub there : GivenThere new after
  pub is : (i : InterfaceId) → IsInstance old node i → (numbering : Numbering) (declared : Named ℕ)
      → giving_of numbering new declared after ≡ spread_from (imports_at numbering old world) node
      (exports_of (entry_means numbering old i.0)) (giving_of numbering old declared before)
