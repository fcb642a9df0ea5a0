-- Types of an interface that a body uses.
use Rattle.std.specs.Prelude.{◌≡◌, List, ◌∷◌, [], Some}
use Rattle.wac_ast_grammar.specs.Tree.{UseItem}
use Rattle.wac_graph_types.specs.declared.kind.ExternKind.{ExternKind}
use Rattle.wac_graph_types.specs.declared.kind.InterfaceId.{InterfaceId}
use Rattle.wac_graph_types.specs.declared.kind.ItemKind.{ItemKind}
use Rattle.wac_graph_types.specs.declared.kind.ItemKind.TheVariants as kinds
use Rattle.wac_graph_types.specs.Shape.{IsA, is_resource_or_value_form, export_of}
use Rattle.wac_graph_types.specs.Steps.{Steps}
use Rattle.wac_graph_types.specs.Table.{Names}
use Rattle.wac_graph.specs.Graph.{Parts}
use Rattle.wac_graph.specs.Means.{means}
use Rattle.wac_graph.specs.Origin.{Numbering}
use Rattle.wac_resolution_rules.specs.Bodies.{used_as, UsesItem}
use Rattle.wac_resolution_rules.specs.Places.{at_ident, used_at}
use Rattle.wac_resolution_types.specs.Lists.{Lists}
use Rattle.wac_resolution_types.specs.Bodies.{BodyStep}

-- the interface exports this kind under the name
pub record IsThere (g : Parts) (i : InterfaceId) (x : UseItem) (k : ItemKind) : Type 0 where
  pub named : Names g.types k
  pub is : (numbering : Numbering) → export_of (means numbering g (kinds.Instance i)) x.id.string ≡ Some (means numbering g k)

-- and it is a resource or a type of values
pub record IsUsed (g : Parts) (i : InterfaceId) (x : UseItem) (k : ItemKind) : Type 0 where
  pub there : IsThere g i x k
  pub usable : (numbering : Numbering) → IsA is_resource_or_value_form (means numbering g k)

-- one used type: the graph stays
abbrev pub UseStep : ExternKind → Parts → InterfaceId → Lists → Lists → UseItem → Type 0
UseStep side g i b c x = BodyStep side g g b c (at_ident (used_as x) ∷ [])
    (λ numbering before after. UsesItem side (means numbering g (kinds.Instance i)) before x after)

-- used types in order
abbrev pub UseSteps : ExternKind → Parts → InterfaceId → Lists → Lists → List UseItem → Type 0
UseSteps side g i b c xs = BodyStep side g g b c (used_at xs)
    (λ numbering before after. Steps (UsesItem side (means numbering g (kinds.Instance i))) before xs after)
