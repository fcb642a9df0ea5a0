-- What is read of a meaning, and meanings made of their parts.
use Rattle.std.specs.Prelude.{◌≡◌, ℕ, List, [], ◌∷◌, ◌++◌, map, Option, Some, None, option_map, Bool, true, false, ◌||◌, codes, string_bytes, slice_get}
use Rattle.wac_graph_types.specs.declared.kind.PrimitiveType.{PrimitiveType}
use Rattle.wac_graph_types.specs.declared.kind.ValueType.{ValueType}
use Rattle.wac_graph_types.specs.declared.kind.ItemKind.{ItemKind}
use Rattle.wac_graph_types.specs.declared.kind.ItemKind.TheVariants as kinds
use Rattle.wac_graph_types.specs.declared.entry.UsedType.{UsedType}
use Rattle.wac_graph_types.specs.declared.entry.FuncResults.{FuncResults}
use Rattle.wac_graph_types.specs.declared.entry.FuncResults.TheVariants as results
use Rattle.wac_graph_types.specs.declared.entry.DefinedType.{DefinedType}
use Rattle.wac_graph_types.specs.declared.entry.DefinedType.TheVariants as types
use Rattle.wac_graph_types.specs.declared.entry.Entry.{Entry}
use Rattle.wac_graph_types.specs.Kind.{Form, a_resource, a_func, an_interface, a_world, func, instance, component, a_core_module, core_module, a_value, value, primitive, borrow, own, defined}
use Rattle.wac_graph_types.specs.Entry.{Slot, only, ok, err, named, given, owner, used, import, export, children, label}
use Rattle.wac_graph_types.specs.Label.{Label, plain, resource, Plain, kind, absent, alias}
use Rattle.wac_graph_types.specs.Meaning.{Meaning, node, Row, done, more, of_kind, of_child, row}
use Rattle.wac_graph_types.specs.Names.{by_name}
use Rattle.wac_graph_types.specs.Scope.{Named, look_up}

-- ---- kinds

-- a kind of a form, over what its entry means
abbrev pub kind_of : Form → Meaning → Meaning
kind_of f entry = node (plain (kind f)) (more only entry done)

-- a kind of a form that names no entry
abbrev pub bare_kind : Form → Meaning
bare_kind f = node (plain (kind f)) done

-- the form of a kind
abbrev pub form_of : Meaning → Option Form
form_of (node (plain (kind f)) r) = Some f
form_of _ = None

-- what is not given
abbrev pub nothing : Meaning
nothing = node (plain absent) done

-- what the entry means that a kind names
abbrev pub entry_of : Meaning → Meaning
entry_of (node l (more s m r)) = m
entry_of (node l done) = nothing

abbrev pub row_of : Meaning → Row
row_of (node l r) = r

-- ---- what kinds are

abbrev pub is_value_form : Form → Bool
is_value_form (a_value v) = true
is_value_form _ = false

abbrev pub is_resource_form : Form → Bool
is_resource_form a_resource = true
is_resource_form _ = false

-- a function or a function type
abbrev pub is_func_form : Form → Bool
is_func_form a_func = true
is_func_form func = true
is_func_form _ = false

abbrev pub is_interface_form : Form → Bool
is_interface_form an_interface = true
is_interface_form _ = false

abbrev pub is_instance_form : Form → Bool
is_instance_form instance = true
is_instance_form _ = false

-- a function type or an interface
abbrev pub is_func_or_interface_form : Form → Bool
is_func_or_interface_form a_func = true
is_func_or_interface_form an_interface = true
is_func_or_interface_form _ = false

-- a world or a component
abbrev pub is_world_form : Form → Bool
is_world_form a_world = true
is_world_form component = true
is_world_form _ = false

-- an interface, instance, world or component
abbrev pub has_exports_form : Form → Bool
has_exports_form f = is_interface_form f || is_instance_form f || is_world_form f

-- whether the kind's form passes the test
abbrev pub is_a : (Form → Bool) → Meaning → Bool
is_a test m = elim (form_of m) [ None ↦ false | Some f ↦ test f ]

-- the kind's form passes the test
abbrev pub IsA : (Form → Bool) → Meaning → Type 0
IsA test m = is_a test m ≡ true

-- the kind's form does not
abbrev pub IsNoneOf : (Form → Bool) → Meaning → Type 0
IsNoneOf test m = is_a test m ≡ false

abbrev pub is_resource_or_value_form : Form → Bool
is_resource_or_value_form f = is_resource_form f || is_value_form f

-- ---- a kind in words

abbrev pub form_word : Form → List ℕ
form_word a_resource = codes "resource"
form_word a_func = codes "function type"
form_word an_interface = codes "interface"
form_word a_world = codes "world"
form_word func = codes "function"
form_word instance = codes "instance"
form_word component = codes "component"
form_word (a_core_module n) = codes "module type"
form_word (core_module n) = codes "module"
form_word (a_value v) = codes "value type"
form_word (value v) = codes "value"

-- the word for a kind
abbrev pub described : Meaning → List ℕ
described m = elim (form_of m) [ None ↦ [] | Some f ↦ form_word f ]

-- ---- from one kind to another

abbrev pub promoted_form : Form → Form
promoted_form a_func = func
promoted_form an_interface = instance
promoted_form a_world = component
promoted_form f = f

-- what a value of a type is of: the type's own form, and of a resource an owned one
abbrev pub value_of_form : Form → Form
value_of_form a_resource = value own
value_of_form (a_value v) = value v
value_of_form f = f

-- the type of a value's form
abbrev pub type_of_form : Form → Form
type_of_form (value v) = a_value v
type_of_form f = f

-- a kind with another form, over the same entry
abbrev pub formed_as : (Form → Form) → Meaning → Meaning
formed_as f (node (plain (kind g)) r) = node (plain (kind (f g))) r
formed_as f m = m

-- the kind of an item of a type
abbrev pub promoted : Meaning → Meaning
promoted m = formed_as promoted_form m

-- the kind of a value of a type; of a resource an owned one
abbrev pub as_value : Meaning → Meaning
as_value m = formed_as value_of_form m

-- the type of a value, as an item of its own
abbrev pub as_type : Meaning → Meaning
as_type m = formed_as type_of_form m

-- ---- items in their slots

abbrev pub slot_export : Slot → Option (List ℕ)
slot_export (export n) = Some n
slot_export _ = None

abbrev pub slot_import : Slot → Option (List ℕ)
slot_import (import n) = Some n
slot_import _ = None

abbrev pub slot_use : Slot → Option (List ℕ × Option (List ℕ))
slot_use (used n m) = Some (n, m)
slot_use _ = None

abbrev pub cons_named : {X Y : Type 0} → Option X → Y → List (X × Y) → List (X × Y)
cons_named None y rest = rest
cons_named (Some x) y rest = (x, y) ∷ rest

-- the meanings in slots of a sort, in order
abbrev pub items_in : {X : Type 0} → (Slot → Option X) → Row → List (X × Meaning)
items_in pick done = []
items_in pick (more s m r) = cons_named (pick s) m (items_in pick r)

-- what an entry exports and imports, by name and in order
abbrev pub exports_of : Meaning → Named Meaning
exports_of m = items_in slot_export (row_of m)

abbrev pub imports_of : Meaning → Named Meaning
imports_of m = items_in slot_import (row_of m)

-- what an entry uses: the name here, the name there where it is another, and the interface as an instance
abbrev pub Uses : Type 0
Uses = List ((List ℕ × Option (List ℕ)) × Meaning)

abbrev pub uses_of : Meaning → Uses
uses_of m = items_in slot_use (row_of m)

-- what a kind exports under a name, if it is an interface, instance, world or component
abbrev pub export_of : Meaning → List ℕ → Option Meaning
export_of m name = elim (is_a has_exports_form m) [ true ↦ look_up name (exports_of (entry_of m)) | false ↦ None ]

-- the id of an interface's or a world's entry
abbrev pub id_of : Meaning → Option (List ℕ)
id_of (node (plain (Plain.interface id)) r) = id
id_of (node (plain (Plain.world id)) r) = id
id_of _ = None

-- ---- entries made of their parts

-- meanings, each in its slot
abbrev pub row_from : List (Slot × Meaning) → Row
row_from [] = done
row_from (c ∷ cs) = more c.0 c.1 (row_from cs)

-- named meanings, each in the slot of its name
abbrev pub in_slots : (List ℕ → Slot) → Named Meaning → List (Slot × Meaning)
in_slots slot all = map (λ e. (slot e.0, e.1)) all

abbrev pub using : Uses → List (Slot × Meaning)
using all = map (λ e. (used e.0.0 e.0.1, e.1)) all

abbrev pub naming_each : Named Meaning → List (Slot × Meaning)
naming_each all = in_slots named all

abbrev pub in_order : List Meaning → List (Slot × Meaning)
in_order all = map (λ m. (only, m)) all

abbrev pub interface_entry : Option (List ℕ) → Uses → Named Meaning → Meaning
interface_entry id uses exports = node (plain (Plain.interface id)) (row_from (using uses ++ in_slots export exports))

abbrev pub world_entry : Option (List ℕ) → Uses → Named Meaning → Named Meaning → Meaning
world_entry id uses imports exports = node (plain (Plain.world id)) (row_from (using uses ++ in_slots import imports ++ in_slots export exports))

-- the results, each in its slot, and the parameters
abbrev pub func_entry : Bool → List (Slot × Meaning) → Named Meaning → Meaning
func_entry is_async results params = node (plain (Plain.func is_async)) (row_from (results ++ naming_each params))

-- a result without a name
abbrev pub one_result : Meaning → List (Slot × Meaning)
one_result m = (given None, m) ∷ []

-- results with names
abbrev pub named_results : Named Meaning → List (Slot × Meaning)
named_results all = in_slots (λ n. given (Some n)) all

abbrev pub in_slot_owner : Row → Meaning
in_slot_owner done = nothing
in_slot_owner (more owner m r) = m
in_slot_owner (more _ m r) = in_slot_owner r

-- the interface that owns the source of an alias, as an instance, or nothing
abbrev pub owner_of : Meaning → Meaning
owner_of entry = in_slot_owner (row_of entry)

-- ---- types of values

abbrev pub primitive_value : PrimitiveType → Meaning
primitive_value p = bare_kind (value (primitive p))

abbrev pub borrow_of : Meaning → Meaning
borrow_of entry = kind_of (value borrow) entry

abbrev pub own_of : Meaning → Meaning
own_of entry = kind_of (value own) entry

-- a defined type as a value's
abbrev pub defined_value : Plain → List (Slot × Meaning) → Meaning
defined_value p children = kind_of (value defined) (node (plain p) (row_from children))

-- a defined type as an item of its own
abbrev pub defined_type : Plain → List (Slot × Meaning) → Meaning
defined_type p children = kind_of (a_value defined) (node (plain p) (row_from children))

abbrev pub tuple_children : List Meaning → List (Slot × Meaning)
tuple_children ms = in_order ms

abbrev pub one_child : Meaning → List (Slot × Meaning)
one_child m = (only, m) ∷ []

abbrev pub result_children : Meaning → Meaning → List (Slot × Meaning)
result_children a b = (ok, a) ∷ (err, b) ∷ []

-- names alone, as those of flags
abbrev pub name_children : List (List ℕ) → List (Slot × Meaning)
name_children ns = map (λ n. (named n, nothing)) ns

-- another name of a type of values
abbrev pub alias_type : Meaning → Meaning
alias_type v = defined_type alias (one_child v)

-- ---- borrows

abbrev pub is_borrow_form : Form → Bool
is_borrow_form (value borrow) = true
is_borrow_form _ = false

-- whether a label contains a borrow, given whether a part does: a resource doesn't, whatever its alias is
abbrev pub borrows : Label → Bool → Bool
borrows (plain (kind f)) rest = is_borrow_form f || rest
borrows (plain _) rest = rest
borrows (resource o n) rest = false

abbrev mutual
  -- whether a value of the type contains a borrow anywhere
  pub contains_borrow : Meaning → Bool
  contains_borrow (node l r) = borrows l (row_contains_borrow r)

  pub row_contains_borrow : Row → Bool
  row_contains_borrow done = false
  row_contains_borrow (more s m r) = contains_borrow m || row_contains_borrow r

-- ---- what is in a table, each part with its meaning

abbrev pub items_mean : (ℕ → Meaning) → Named ItemKind → Named Meaning
items_mean f all = map (λ e. (e.0, of_kind f e.1)) all

abbrev pub values_mean : (ℕ → Meaning) → Named ValueType → Named Meaning
values_mean f all = map (λ e. (e.0, of_kind f (kinds.Value e.1))) all

abbrev pub uses_mean : (ℕ → Meaning) → Named UsedType → Uses
uses_mean f all = map (λ e. ((e.0, option_map string_bytes e.1.name), of_kind f (kinds.Instance e.1.interface))) all

-- a value's type, if it is given
abbrev pub optional_means : (ℕ → Meaning) → Option ValueType → Meaning
optional_means f t = of_child f (option_map (λ v. kinds.Value v) t)

abbrev pub cases_mean : (ℕ → Meaning) → Named (Option ValueType) → Named Meaning
cases_mean f all = map (λ e. (e.0, optional_means f e.1)) all

abbrev pub types_mean : (ℕ → Meaning) → List ValueType → List Meaning
types_mean f all = map (λ t. of_kind f (kinds.Value t)) all

abbrev pub results_mean : (ℕ → Meaning) → FuncResults → List (Slot × Meaning)
results_mean f results.None = []
results_mean f (results.Scalar t) = one_result (of_kind f (kinds.Value t))
results_mean f (results.Named rs) = named_results (values_mean f (by_name rs.entries))

-- the parts of a defined type
abbrev pub defined_parts : (ℕ → Meaning) → DefinedType → List (Slot × Meaning)
defined_parts f (types.Tuple ts) = tuple_children (types_mean f ts.items)
defined_parts f (types.List t) = one_child (of_kind f (kinds.Value t))
defined_parts f (types.Option t) = one_child (of_kind f (kinds.Value t))
defined_parts f (types.Result o e) = result_children (optional_means f o) (optional_means f e)
defined_parts f (types.Variant cs) = naming_each (cases_mean f (by_name cs.entries))
defined_parts f (types.Record fs) = naming_each (values_mean f (by_name fs.entries))
defined_parts f (types.Flags ns) = name_children (map string_bytes ns.keys)
defined_parts f (types.Enum ns) = name_children (map string_bytes ns.keys)
defined_parts f (types.Alias t) = one_child (of_kind f (kinds.Value t))
defined_parts f (types.Stream t) = one_child (optional_means f t)
defined_parts f (types.Future t) = one_child (optional_means f t)

-- an entry, over the meanings of what it names
abbrev pub entry_over : (ℕ → Meaning) → ℕ → Entry → Meaning
entry_over f origin e = node (label origin e) (row f (children e))

-- each entry of a table means its label, over the meanings of what it names
abbrev pub IsOver : (ℕ → ℕ) → List Entry → (ℕ → Meaning) → Type 0
IsOver origins es f = (n : ℕ) (e : Entry) → slice_get es n ≡ Some e → f n ≡ entry_over f (origins n) e
