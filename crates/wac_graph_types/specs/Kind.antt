-- A kind is a form, over the entry that it names, if any.
use Rattle.std.specs.Prelude.{ℕ, Option, Some, None}
use Rattle.wac_graph_types.specs.declared.kind.PrimitiveType.{PrimitiveType}
use Rattle.wac_graph_types.specs.declared.kind.ValueType.{ValueType}
use Rattle.wac_graph_types.specs.declared.kind.ValueType.TheVariants as values
use Rattle.wac_graph_types.specs.declared.kind.«Type».TheVariants as types
use Rattle.wac_graph_types.specs.declared.kind.ItemKind.{ItemKind}
use Rattle.wac_graph_types.specs.declared.kind.ItemKind.TheVariants as kinds
use Rattle.wac_graph_types.specs.declared.kind.Sort.{Sort}
use Rattle.wac_graph_types.specs.declared.kind.Sort.TheVariants as sorts

pub data ValueForm : Type 0 where
  primitive : PrimitiveType → ValueForm
  borrow own defined : ValueForm
  deriving Discrete as ValueForm-discrete

pub data Form : Type 0 where
  a_resource a_func an_interface a_world func instance component : Form
  a_core_module core_module : ℕ → Form
  a_value value : ValueForm → Form
  deriving Discrete as Form-discrete

-- a value type's form, and of the entry that it names the number, if any, and the sort
abbrev pub value_parts : ValueType → ValueForm × Option ℕ × Sort
value_parts (values.Primitive p) = (primitive p, None, sorts.Defined)
value_parts (values.Borrow id) = (borrow, Some id.0, sorts.Resource)
value_parts (values.Own id) = (own, Some id.0, sorts.Resource)
value_parts (values.Defined id) = (defined, Some id.0, sorts.Defined)

abbrev pub value_form : ValueType → ValueForm
value_form v = (value_parts v).0

abbrev pub value_named_by : ValueType → Option ℕ
value_named_by v = (value_parts v).1

abbrev pub value_sort_named : ValueType → Sort
value_sort_named v = (value_parts v).2

-- a kind's form, and of the entry that it names the number, if any, and the sort
abbrev pub kind_parts : ItemKind → Form × Option ℕ × Sort
kind_parts (kinds.Ty (types.Resource id)) = (a_resource, Some id.0, sorts.Resource)
kind_parts (kinds.Ty (types.Func id)) = (a_func, Some id.0, sorts.Func)
kind_parts (kinds.Ty (types.Value v)) = (a_value (value_form v), value_named_by v, value_sort_named v)
kind_parts (kinds.Ty (types.Interface id)) = (an_interface, Some id.0, sorts.Interface)
kind_parts (kinds.Ty (types.World id)) = (a_world, Some id.0, sorts.World)
kind_parts (kinds.Ty (types.Module id)) = (a_core_module id.0, None, sorts.Defined)
kind_parts (kinds.Func id) = (func, Some id.0, sorts.Func)
kind_parts (kinds.Instance id) = (instance, Some id.0, sorts.Interface)
kind_parts (kinds.Component id) = (component, Some id.0, sorts.World)
kind_parts (kinds.Module id) = (core_module id.0, None, sorts.Defined)
kind_parts (kinds.Value v) = (value (value_form v), value_named_by v, value_sort_named v)

abbrev pub form : ItemKind → Form
form k = (kind_parts k).0

-- the number of the entry that a kind names
abbrev pub named_by : ItemKind → Option ℕ
named_by k = (kind_parts k).1

-- the sort of the entry that a kind names
abbrev pub sort_named : ItemKind → Sort
sort_named k = (kind_parts k).2

-- the kind of an item of a type
abbrev pub promoted : ItemKind → ItemKind
promoted (kinds.Ty (types.Func id)) = kinds.Func id
promoted (kinds.Ty (types.Interface id)) = kinds.Instance id
promoted (kinds.Ty (types.World id)) = kinds.Component id
promoted k = k
