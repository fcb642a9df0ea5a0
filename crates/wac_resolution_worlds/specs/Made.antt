-- Interfaces, worlds and kinds that are made as bodies are resolved.
use Rattle.std.specs.Prelude.{ℕ, List, [], Option}
use Rattle.wac_ast_grammar.specs.Tree.{InterfaceExport, InterfaceItem}
use Rattle.wac_graph_types.specs.declared.kind.ExternKind.TheVariants as sides
use Rattle.wac_graph_types.specs.declared.kind.ItemKind.{ItemKind}
use Rattle.wac_graph_types.specs.declared.kind.ItemKind.TheVariants as kinds
use Rattle.wac_graph_types.specs.declared.kind.InterfaceId.{InterfaceId}
use Rattle.wac_graph_types.specs.Meaning.{Meaning}
use Rattle.wac_graph_types.specs.Package.{PackageParts}
use Rattle.wac_graph_types.specs.Scope.{Named, Scope}
use Rattle.wac_graph_types.specs.Shape.{entry_of, interface_entry}
use Rattle.wac_graph_types.specs.Steps.{Steps}
use Rattle.wac_graph_types.specs.Table.{Names}
use Rattle.wac_graph.specs.Graph.{Parts}
use Rattle.wac_graph.specs.Means.{means, declared_count}
use Rattle.wac_graph.specs.Origin.{Numbering}
use Rattle.wac_graph.specs.Package.{Key}
use Rattle.wac_resolution_rules.specs.Paths as rules
use Rattle.wac_resolution_rules.specs.Places.{bound_in_interface_item, bound_in_interface}
use Rattle.wac_resolution_rules.specs.Worlds.{HasInterfaceItem, IsInterface}
use Rattle.wac_resolution_state.specs.Growth.{AddsInterface}
use Rattle.wac_resolution_state.specs.Named.{scope_of}
use Rattle.wac_resolution_state.specs.declared.context.Context.{Context}
use Rattle.wac_resolution_state.specs.Expands.{Expands, AllSupplied}
use Rattle.wac_resolution_state.specs.Context.{packages_in, context_of}
use Rattle.wac_resolution_types.specs.Lists.{Lists}
use Rattle.wac_resolution_types.specs.Bodies.{body_in, BodyStep}
use Rattle.wac_resolution_worlds.specs.UseStatements.{BodyExpands}

-- the lists of an empty body
abbrev pub no_lists : Lists
no_lists = record { names = []; uses = []; imports = []; exports = [] }

-- a kind was made, and this holds of it and of how many resources are declared then
pub record KindMade (packages : List (Key × PackageParts)) (old new : Parts) (holds : Numbering → Meaning → ℕ → Type 0)
    (k : ItemKind) : Type 0 where
  pub grows : Expands old new
  pub supplied : AllSupplied packages new
  pub named : Names new.types k
  pub is : (numbering : Numbering) → holds numbering (means numbering new k) (declared_count new)

-- what the export of a function resolves to, whatever the context
abbrev pub FuncExportStep : Parts → Parts → Lists → Lists → InterfaceExport → Type 0
FuncExportStep old new b c x = BodyStep sides.Export old new b c []
    (λ numbering before after. (context : rules.Context) (root : Scope)
    → HasInterfaceItem context root before (InterfaceItem.interface_export x) after)

-- what an item of an interface resolves to
abbrev pub InterfaceItemStep : Context → Parts → Parts → Named ItemKind → Lists → Lists → InterfaceItem → Type 0
InterfaceItemStep context old new root b c x =
    BodyExpands (packages_in context) sides.Export old new b c (bound_in_interface_item x)
    (λ numbering before after. HasInterfaceItem (context_of numbering context) (scope_of numbering old root) before x after)

-- items in order
abbrev pub InterfaceItemSteps : Context → Parts → Parts → Named ItemKind → Lists → Lists → List InterfaceItem → Type 0
InterfaceItemSteps context old new root b c xs =
    BodyExpands (packages_in context) sides.Export old new b c (bound_in_interface xs)
    (λ numbering before after. Steps (HasInterfaceItem (context_of numbering context) (scope_of numbering old root)) before
    xs after)

-- an interface of items
abbrev pub InterfaceMade : Context → Parts → Parts → Named ItemKind → Option (List ℕ) → List InterfaceItem → InterfaceId
    → Type 0
InterfaceMade context old new root id items i =
    KindMade (packages_in context) old new
    (λ numbering m after. IsInterface (context_of numbering context) (scope_of numbering old root) (declared_count old) id
    items (entry_of m) after) (kinds.Instance i)

-- an interface of this id, with the uses and exports of a body, was added
abbrev pub InterfaceOf : Parts → Parts → Option (List ℕ) → Lists → InterfaceId → Type 0
InterfaceOf old new id b i =
    AddsInterface old new (λ numbering. interface_entry id (body_in numbering old b).uses (body_in numbering old b).exports) i
