-- What is read of an entry: its parts, and what it imports and exports.
use Rattle.std.specs.Prelude.{◌≡◌, ℕ, List, [], Option, Some, None, option_map, slice_get}
use Rattle.wac_graph_types.specs.declared.kind.ValueType.{ValueType}
use Rattle.wac_graph_types.specs.declared.kind.ItemKind.{ItemKind}
use Rattle.wac_graph_types.specs.declared.entry.Entry.{Entry}
use Rattle.wac_graph_types.specs.declared.entry.Entry.TheVariants as entries
use Rattle.wac_graph_types.specs.declared.entry.DefinedType.{DefinedType}
use Rattle.wac_graph_types.specs.declared.entry.DefinedType.TheVariants as defined
use Rattle.wac_graph_types.specs.Entry as slots
use Rattle.wac_graph_types.specs.Entry.{Slot, optional, defined_children, result_children, value_children, sort_of, defined_label}
use Rattle.wac_graph_types.specs.Label.{Plain}
use Rattle.wac_graph_types.specs.Names.{by_name}
use Rattle.wac_graph_types.specs.Scope.{Named}
use Rattle.wac_graph_types.specs.Shape.{slot_import, slot_export}
use Rattle.wac_component_rules.specs.declared.parts.PartSlot.{PartSlot}
use Rattle.wac_component_rules.specs.declared.parts.PartSlot.TheVariants as places
use Rattle.wac_component_rules.specs.declared.parts.Part.{Part}
use Rattle.wac_component_rules.specs.declared.sides.Side.{Side}
use Rattle.wac_component_rules.specs.declared.sides.Side.TheVariants as sides

abbrev pub slot_of : PartSlot → Slot
slot_of places.Only = slots.only
slot_of places.Ok = slots.ok
slot_of places.Err = slots.err
slot_of (places.Named n) = slots.named n.now
slot_of (places.Given n) = slots.given (option_map (λ s. s.now) n)

abbrev pub part_view : Part → Slot × Option ItemKind
part_view p = (slot_of p.slot, optional p.value)

-- the parts of a defined type or of a function type
abbrev pub parts_of : Entry → List (Slot × Option ItemKind)
parts_of (entries.Defined d) = defined_children d
parts_of (entries.Resource r) = []
parts_of (entries.Func f) = slots.children (entries.Func f)
parts_of (entries.Interface i) = []
parts_of (entries.World w) = []

-- what an entry is apart from the kinds in it; a resource is left out
abbrev pub plain_of : Entry → Plain
plain_of (entries.Defined d) = defined_label d
plain_of (entries.Resource r) = Plain.absent
plain_of (entries.Func f) = Plain.func f.is_async
plain_of (entries.Interface i) = Plain.absent
plain_of (entries.World w) = Plain.absent

-- the type that an alias of a type of values is another name of
abbrev pub aliased_by : DefinedType → Option ValueType
aliased_by (defined.Alias t) = Some t
aliased_by _ = None

abbrev pub aliased_in : Entry → Option ValueType
aliased_in (entries.Defined d) = aliased_by d
aliased_in (entries.Resource r) = None
aliased_in (entries.Func f) = None
aliased_in (entries.Interface i) = None
aliased_in (entries.World w) = None

abbrev pub slot_side : Side → Slot → Option (List ℕ)
slot_side sides.Imports = slot_import
slot_side sides.Exports = slot_export

-- what an interface or a world imports or exports, by name and in order
abbrev pub side_items : Side → Entry → Named ItemKind
side_items sides.Imports (entries.World w) = by_name w.imports.entries
side_items sides.Exports (entries.Interface i) = by_name i.exports.entries
side_items sides.Exports (entries.World w) = by_name w.exports.entries
side_items _ _ = []

-- both entries are of one sort
abbrev pub OfOneSort : List Entry → ℕ → ℕ → Type 0
OfOneSort es i j = option_map sort_of (slice_get es i) ≡ option_map sort_of (slice_get es j)

-- an interface or a world
abbrev pub IsSided : Entry → Type 0
IsSided (entries.Defined d) = ⊥
IsSided (entries.Resource r) = ⊥
IsSided (entries.Func f) = ⊥
IsSided (entries.Interface i) = Unit {0}
IsSided (entries.World w) = Unit {0}
