-- Kinds that are interfaces.
use Rattle.std.specs.Prelude.{◌≡◌, List}
use Rattle.wac_graph_types.specs.declared.kind.ItemKind.{ItemKind}
use Rattle.wac_graph_types.specs.declared.kind.ItemKind.TheVariants as kinds
use Rattle.wac_graph_types.specs.declared.kind.InterfaceId.{InterfaceId}
use Rattle.wac_graph_types.specs.declared.entry.Entry.{Entry}
use Rattle.wac_graph_types.specs.Shape.{IsA, is_interface_form, entry_of, promoted}
use Rattle.wac_graph_types.specs.Table.{Names}
use Rattle.wac_graph.specs.Graph.{Parts}
use Rattle.wac_graph.specs.Means.{means, entry_means}
use Rattle.wac_graph.specs.Origin.{Numbering}

-- the kind is an interface, of this entry, whatever the graph is
pub record IsInterfaceKind (k : ItemKind) (i : InterfaceId) : Type 0 where
  pub is : (numbering : Numbering) (g : Parts) → IsA is_interface_form (means numbering g k)
  pub entry : (numbering : Numbering) (g : Parts) → entry_of (means numbering g k) ≡ entry_means numbering g i.0
  pub instance : (numbering : Numbering) (g : Parts) → means numbering g (kinds.Instance i) ≡ promoted (means numbering g k)
  pub named : (es : List Entry) → Names es k → Names es (kinds.Instance i)
