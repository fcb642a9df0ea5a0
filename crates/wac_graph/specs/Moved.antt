-- Kinds whose numbers are moved by n.
use Rattle.std.specs.Prelude.{ℕ, ◌+◌, ◌<◌, ◌^◌, Option, option_map, IfSome, List, map}
use Rattle.std.specs.List.{AllByRecursion}
use Rattle.wac_graph_types.specs.declared.kind.ValueType.{ValueType}
use Rattle.wac_graph_types.specs.declared.kind.ValueType.TheVariants as values
use Rattle.wac_graph_types.specs.declared.kind.«Type».{«Type» as ItemType}
use Rattle.wac_graph_types.specs.declared.kind.«Type».TheVariants as types
use Rattle.wac_graph_types.specs.declared.kind.ItemKind.{ItemKind}
use Rattle.wac_graph_types.specs.declared.kind.ItemKind.TheVariants as kinds
use Rattle.wac_graph_types.specs.Kind.{named_by}
use Rattle.wac_graph_types.specs.Entry.{Slot}

abbrev pub moved_value : ℕ → ValueType → ValueType
moved_value n (values.Primitive p) = values.Primitive p
moved_value n (values.Borrow id) = values.Borrow (record { 0 = n + id.0 })
moved_value n (values.Own id) = values.Own (record { 0 = n + id.0 })
moved_value n (values.Defined id) = values.Defined (record { 0 = n + id.0 })

abbrev pub moved_type : ℕ → ItemType → ItemType
moved_type n (types.Resource id) = types.Resource (record { 0 = n + id.0 })
moved_type n (types.Func id) = types.Func (record { 0 = n + id.0 })
moved_type n (types.Value v) = types.Value (moved_value n v)
moved_type n (types.Interface id) = types.Interface (record { 0 = n + id.0 })
moved_type n (types.World id) = types.World (record { 0 = n + id.0 })
moved_type n (types.Module id) = types.Module id

abbrev pub moved : ℕ → ItemKind → ItemKind
moved n (kinds.Ty t) = kinds.Ty (moved_type n t)
moved n (kinds.Func id) = kinds.Func (record { 0 = n + id.0 })
moved n (kinds.Instance id) = kinds.Instance (record { 0 = n + id.0 })
moved n (kinds.Component id) = kinds.Component (record { 0 = n + id.0 })
moved n (kinds.Module id) = kinds.Module id
moved n (kinds.Value v) = kinds.Value (moved_value n v)

abbrev pub moved_child : ℕ → Slot × Option ItemKind → Slot × Option ItemKind
moved_child n c = (c.0, option_map (moved n) c.1)

-- the kinds in an entry, moved
abbrev pub moved_children : ℕ → List (Slot × Option ItemKind) → List (Slot × Option ItemKind)
moved_children n cs = map (moved_child n) cs

-- named kinds, moved
abbrev pub moved_items : ℕ → List (List ℕ × ItemKind) → List (List ℕ × ItemKind)
moved_items n ds = map (λ d. (d.0, moved n d.1)) ds

-- the moved number is in a usize's range
abbrev pub Fits : ℕ → ItemKind → Type 0
Fits n k = IfSome (named_by k) (λ i. n + i < 2 ^ 64)

abbrev pub ChildFits : ℕ → Slot × Option ItemKind → Type 0
ChildFits n c = IfSome c.1 (Fits n)

abbrev pub ItemsFit : ℕ → List (List ℕ × ItemKind) → Type 0
ItemsFit n ds = AllByRecursion (λ d. Fits n d.1) ds
