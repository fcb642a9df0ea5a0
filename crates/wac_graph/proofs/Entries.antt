-- A kind of an entry that was added names an entry of the table.
use Rattle.wac_graph.proofs.Common.{◌≡◌, ◌<◌, ℕ, Some, List, length, ap, subst, refl, sym, ◌∙◌, slice_get, option_map, IfSome, slice_get_within, ItemKind, InterfaceId, WorldId, Entry, sort_of, Names}
use Rattle.wac_graph_types.specs.declared.kind.ItemKind.TheVariants as kinds
use Rattle.wac_graph_types.specs.declared.kind.«Type».TheVariants as types
use Rattle.wac_graph_types.specs.declared.kind.ValueType.TheVariants as values
use Rattle.wac_graph_types.specs.declared.kind.DefinedTypeId.{DefinedTypeId}
use Rattle.wac_graph_types.specs.declared.kind.ResourceId.{ResourceId}
use Rattle.wac_graph_types.specs.declared.kind.FuncTypeId.{FuncTypeId}
use Rattle.wac_graph_types.specs.declared.entry.Entry.TheVariants as entries
use Rattle.wac_graph_types.specs.declared.entry.DefinedType.{DefinedType}
use Rattle.wac_graph_types.specs.declared.entry.Resource.{Resource}
use Rattle.wac_graph_types.specs.declared.entry.FuncType.{FuncType}
use Rattle.wac_graph_types.specs.declared.entry.Interface.{Interface}
use Rattle.wac_graph_types.specs.declared.entry.World.{World}
use Rattle.wac_graph_types.specs.Kind.{named_by, sort_named}

-- a kind that names the entry of a number, where that entry is of the kind's sort
pub names_at : (es : List Entry) (n : ℕ) (e : Entry) (k : ItemKind) → slice_get es n ≡ Some e → named_by k ≡ Some n → sort_of e ≡ sort_named k → Names es k
names_at es n e k is by sort = (
  subst (λ o. IfSome o (λ i. i < length es)) (sym by) (slice_get_within es n e is),
  subst (λ o. IfSome o (λ i. option_map sort_of (slice_get es i) ≡ Some (sort_named k))) (sym by) (ap (option_map sort_of) is ∙ ap Some sort),
)

pub defined_named : (es : List Entry) (id : DefinedTypeId) (d : DefinedType) → slice_get es id.0 ≡ Some (entries.Defined d) → Names es (kinds.Value (values.Defined id))
defined_named es id d is = names_at es id.0 (entries.Defined d) (kinds.Value (values.Defined id)) is refl refl

pub resource_named : (es : List Entry) (id : ResourceId) (r : Resource) → slice_get es id.0 ≡ Some (entries.Resource r) → Names es (kinds.Ty (types.Resource id))
resource_named es id r is = names_at es id.0 (entries.Resource r) (kinds.Ty (types.Resource id)) is refl refl

pub func_named : (es : List Entry) (id : FuncTypeId) (f : FuncType) → slice_get es id.0 ≡ Some (entries.Func f) → Names es (kinds.Func id)
func_named es id f is = names_at es id.0 (entries.Func f) (kinds.Func id) is refl refl

pub interface_named : (es : List Entry) (id : InterfaceId) (i : Interface) → slice_get es id.0 ≡ Some (entries.Interface i) → Names es (kinds.Instance id)
interface_named es id i is = names_at es id.0 (entries.Interface i) (kinds.Instance id) is refl refl

pub world_named : (es : List Entry) (id : WorldId) (w : World) → slice_get es id.0 ≡ Some (entries.World w) → Names es (kinds.Component id)
world_named es id w is = names_at es id.0 (entries.World w) (kinds.Component id) is refl refl
