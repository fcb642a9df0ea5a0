-- Nodes that are instances.
use Rattle.std.specs.Prelude.{◌≡◌, ℕ, List, Option, Some, option_map, option_and_then, slice_get, string_bytes}
use Rattle.wac_graph_types.specs.declared.kind.ItemKind.TheVariants as kinds
use Rattle.wac_graph_types.specs.declared.kind.InterfaceId.{InterfaceId}
use Rattle.wac_graph_types.specs.declared.entry.Entry.{Entry}
use Rattle.wac_graph_types.specs.Readings.{as_interface, interface_exports}
use Rattle.wac_graph_types.specs.Scope.{Named}
use Rattle.wac_graph_types.specs.Shape.{exports_of, items_mean}
use Rattle.wac_graph_types.specs.Table.{Names}
use Rattle.wac_graph.specs.Graph.{Parts}
use Rattle.wac_graph.specs.Means.{entry_means}
use Rattle.wac_graph.specs.Origin.{Numbering}
use Rattle.wac_resolution_rules.specs.Nodes.{instance_at}
use Rattle.wac_resolution_state.specs.Nodes.{composition_of, kind_in}

-- the node is an instance with this interface
pub record IsInstance (g : Parts) (node : ℕ) (i : InterfaceId) : Type 0 where
  pub kind : kind_in g.nodes node ≡ Some (kinds.Instance i)
  pub named : Names g.types (kinds.Instance i)
  pub is : (numbering : Numbering) (declared : Named ℕ)
      → instance_at (composition_of numbering g declared) node ≡ Some (entry_means numbering g i.0)
  pub exports : (numbering : Numbering)
      → exports_of (entry_means numbering g i.0) ≡ items_mean (entry_means numbering g) (interface_exports g.types i.0)

-- the id in the entry of an interface
abbrev pub written_id : List Entry → ℕ → Option (List ℕ)
written_id es i = option_and_then (λ x. option_map string_bytes x.id) (option_and_then as_interface (slice_get es i))
