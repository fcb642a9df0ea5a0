-- An entry read as one of its sort.
use Rattle.std.specs.Prelude.{ℕ, List, [], Option, Some, None, option_and_then, slice_get, Bool, true, false}
use Rattle.wac_graph_types.specs.declared.entry.Entry.{Entry}
use Rattle.wac_graph_types.specs.declared.entry.Entry.TheVariants as entries
use Rattle.wac_graph_types.specs.declared.entry.DefinedType.{DefinedType}
use Rattle.wac_graph_types.specs.declared.entry.Resource.{Resource}
use Rattle.wac_graph_types.specs.declared.entry.FuncType.{FuncType}
use Rattle.wac_graph_types.specs.declared.entry.Interface.{Interface}
use Rattle.wac_graph_types.specs.declared.entry.World.{World}
use Rattle.wac_graph_types.specs.declared.kind.«Type».TheVariants as types
use Rattle.wac_graph_types.specs.declared.kind.ItemKind.{ItemKind}
use Rattle.wac_graph_types.specs.declared.kind.ItemKind.TheVariants as kinds
use Rattle.wac_graph_types.specs.Names.{by_name}
use Rattle.wac_graph_types.specs.Scope.{Named}

abbrev pub as_defined : Entry → Option DefinedType
as_defined (entries.Defined d) = Some d
as_defined _ = None

abbrev pub as_resource : Entry → Option Resource
as_resource (entries.Resource r) = Some r
as_resource _ = None

abbrev pub as_func : Entry → Option FuncType
as_func (entries.Func f) = Some f
as_func _ = None

abbrev pub as_interface : Entry → Option Interface
as_interface (entries.Interface i) = Some i
as_interface _ = None

abbrev pub as_world : Entry → Option World
as_world (entries.World w) = Some w
as_world _ = None

-- the interface of a number, and the world

abbrev pub interface_in : List Entry → ℕ → Option Interface
interface_in es n = option_and_then as_interface (slice_get es n)

abbrev pub world_in : List Entry → ℕ → Option World
world_in es n = option_and_then as_world (slice_get es n)

abbrev pub is_resource : Entry → Bool
is_resource (entries.Resource r) = true
is_resource _ = false

-- what an interface or world exports, and what a world imports, by name and in order

abbrev pub interface_exports : List Entry → ℕ → Named ItemKind
interface_exports es n = elim (interface_in es n) [ None ↦ [] | Some i ↦ by_name i.exports.entries ]

abbrev pub world_exports : List Entry → ℕ → Named ItemKind
world_exports es n = elim (world_in es n) [ None ↦ [] | Some w ↦ by_name w.exports.entries ]

abbrev pub world_imports : List Entry → ℕ → Named ItemKind
world_imports es n = elim (world_in es n) [ None ↦ [] | Some w ↦ by_name w.imports.entries ]

-- what an interface, instance, world or component exports
abbrev pub kind_exports : List Entry → ItemKind → Named ItemKind
kind_exports es (kinds.Ty (types.Interface id)) = interface_exports es id.0
kind_exports es (kinds.Ty (types.World id)) = world_exports es id.0
kind_exports es (kinds.Instance id) = interface_exports es id.0
kind_exports es (kinds.Component id) = world_exports es id.0
kind_exports es _ = []

-- what an instance exports
abbrev pub instance_exports : List Entry → ItemKind → Named ItemKind
instance_exports es (kinds.Instance id) = interface_exports es id.0
instance_exports es _ = []
