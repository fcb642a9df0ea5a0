-- What the entries of a table use, and what a world's entry allows.
use Rattle.std.specs.Prelude.{ℕ, List, [], ◌++◌, map, flat_map, filter_map, reverse, Option, Some, None, option_map, option_and_then, slice_get, Bool, false}
use Rattle.std.specs.Option.{option_or}
use Rattle.std.specs.Str.{bytes_eq}
use Rattle.wac_graph_types.specs.declared.kind.ItemKind.{ItemKind}
use Rattle.wac_graph_types.specs.declared.kind.ItemKind.TheVariants as kinds
use Rattle.wac_graph_types.specs.declared.kind.InterfaceId.{InterfaceId}
use Rattle.wac_graph_types.specs.declared.entry.Entry.{Entry}
use Rattle.wac_graph_types.specs.declared.entry.UsedType.{UsedType}
use Rattle.wac_graph_types.specs.Names.{by_name}
use Rattle.wac_graph_types.specs.Readings.{as_interface, as_world, world_imports}
use Rattle.wac_graph_types.specs.Scope.{Named, look_up}
use Rattle.wac_resolution_state.specs.Instances.{written_id}

-- what a world uses, and what an interface does
abbrev pub world_uses : List Entry → ℕ → Named UsedType
world_uses es n = elim (option_and_then as_world (slice_get es n)) [ None ↦ [] | Some w ↦ by_name w.uses.entries ]

abbrev pub interface_uses : List Entry → ℕ → Named UsedType
interface_uses es n =
    elim (option_and_then as_interface (slice_get es n)) [ None ↦ [] | Some i ↦ by_name i.uses.entries ]

-- the interfaces that are used
abbrev pub interfaces_in : Named UsedType → List InterfaceId
interfaces_in uses = map (λ u. u.1.interface) uses

-- those that an import uses, if it is an instance
abbrev pub import_uses : List Entry → ItemKind → List InterfaceId
import_uses es (kinds.Ty t) = []
import_uses es (kinds.Func id) = []
import_uses es (kinds.Instance id) = interfaces_in (interface_uses es id.0)
import_uses es (kinds.Component id) = []
import_uses es (kinds.Module id) = []
import_uses es (kinds.Value v) = []

-- those that a world uses, then those that its imports use
abbrev pub used_in : List Entry → ℕ → List InterfaceId
used_in es w = interfaces_in (world_uses es w) ++ flat_map (λ e. import_uses es e.1) (world_imports es w)

-- an interface under its id, if it has one
abbrev pub with_id : List Entry → InterfaceId → Option (List ℕ × InterfaceId)
with_id es i = option_map (λ id. (id, i)) (written_id es i.0)

abbrev pub has_id : List Entry → List ℕ → InterfaceId → Bool
has_id es id i = elim (written_id es i.0) [ None ↦ false | Some other ↦ bytes_eq id other ]

-- the last of an id
abbrev pub last_of : List Entry → List ℕ → List InterfaceId → Option InterfaceId
last_of es id all = look_up id (reverse (filter_map (with_id es) all))

-- what a world allows under a name
abbrev pub allowed_kind : List Entry → ℕ → List ℕ → Option ItemKind
allowed_kind es w name =
    option_or (option_map (λ i. kinds.Instance i) (last_of es name (used_in es w))) (look_up name (world_imports es w))
