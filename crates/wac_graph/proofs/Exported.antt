-- What nodes export and packages import names entries of the table, and exists.
use Rattle.wac_graph.proofs.Common.{◌≡◌, ◌<◌, ℕ, Option, Some, None, List, [], length, refl, sym, ap, slice_get, option_and_then, IfSome, slice_get_within, ItemKind, InterfaceId, Entry, instance_exports, world_imports, look_up, Names, IsTable, instance_exports_named, world_imports_named, found_named, each_entry_named}
use Rattle.wac_graph_types.specs.declared.kind.ItemKind.TheVariants as kinds
use Rattle.wac_graph.specs.Package.{HeldPackage}
use Rattle.wac_graph.specs.Node.{Node}
use Rattle.wac_graph.specs.Graph.{Parts, export_kind, import_kind}

pub export_kind_names : (g : Parts) (node : ℕ) (name : List ℕ) (k : ItemKind) → IsTable g.types → export_kind g node name ≡ Some k → Names g.types k
export_kind_names g node name k table is = go (slice_get g.nodes node) is
  where
    go : (o : Option Node) → option_and_then (λ (n : Node). look_up name (instance_exports g.types n.kind)) o ≡ Some k → Names g.types k
    go None h = absurd (cc)
    go (Some n) h = found_named g.types name (instance_exports g.types n.kind) k (instance_exports_named g.types (each_entry_named g.types table) n.kind) h

pub import_kind_names : (g : Parts) (p : ℕ) (name : List ℕ) (k : ItemKind) → IsTable g.types → import_kind g p name ≡ Some k → Names g.types k
import_kind_names g p name k table is = go (slice_get g.packages p) is
  where
    go : (o : Option HeldPackage) → option_and_then (λ (h : HeldPackage). look_up name (world_imports g.types h.world.0)) o ≡ Some k → Names g.types k
    go None h = absurd (cc)
    go (Some q) h = found_named g.types name (world_imports g.types q.world.0) k (world_imports_named g.types (each_entry_named g.types table) q.world.0) h

-- what names this kind names an entry
pub each_named : (es : List Entry) (r s : Option ItemKind) → r ≡ s → ((k : ItemKind) → s ≡ Some k → Names es k) → IfSome r (Names es)
each_named es None s is h = tt
each_named es (Some k) s is h = h k (sym is)

-- what a node exports under a name
pub exported_is : (g : Parts) (node : ℕ) (n : Node) (name : List ℕ) → slice_get g.nodes node ≡ Some n → export_kind g node name ≡ look_up name (instance_exports g.types n.kind)
exported_is g node n name is = ap (λ (o : Option Node). option_and_then (λ (m : Node). look_up name (instance_exports g.types m.kind)) o) is

-- what isn't an instance exports nothing
pub no_exports : (es : List Entry) (k : ItemKind) → ((id : InterfaceId) → k ≡ kinds.Instance id → ⊥) → instance_exports es k ≡ []
no_exports es (kinds.Ty t) h = refl
no_exports es (kinds.Func id) h = refl
no_exports es (kinds.Instance id) h = absurd (h id refl)
no_exports es (kinds.Component id) h = refl
no_exports es (kinds.Module id) h = refl
no_exports es (kinds.Value v) h = refl

-- a node that exports something exists
pub exporting_there : (g : Parts) (node : ℕ) (name : List ℕ) (k : ItemKind) → export_kind g node name ≡ Some k → node < length g.nodes
exporting_there g node name k is = go (slice_get g.nodes node) refl is
  where
    go : (o : Option Node) → slice_get g.nodes node ≡ o → option_and_then (λ (n : Node). look_up name (instance_exports g.types n.kind)) o ≡ Some k → node < length g.nodes
    go None at h = absurd (cc)
    go (Some n) at h = slice_get_within g.nodes node n at
