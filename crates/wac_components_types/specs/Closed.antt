-- Tables in which each number names an entry.
use Rattle.std.specs.Prelude.{◌≡◌, ℕ, ◌-◌, nat_lt, nat_le, Bool, true, ◌&&◌, List, length, Option, Some, None}
use Rattle.std.specs.List.{list_all}
use Rattle.indexmap.specs.IndexMap.{IndexMap, keys, values}
use Rattle.wac_graph_types.specs.declared.kind.ExternKind.{ExternKind}
use Rattle.wac_components_types.specs.declared.closed.Counts.{Counts}
use Rattle.wac_components_types.specs.declared.item.Item.{Item}
use Rattle.wac_components_types.specs.declared.item.Item.TheVariants as items
use Rattle.wac_components_types.specs.declared.item.NameId.{NameId}
use Rattle.wac_components_types.specs.declared.item.TypeId.{TypeId}
use Rattle.wac_components_types.specs.declared.table.Component.{Component}
use Rattle.wac_components_types.specs.declared.table.Instance.{Instance}
use Rattle.wac_components_types.specs.declared.ty.Func.{Func}
use Rattle.wac_components_types.specs.declared.ty.Named.{Named}
use Rattle.wac_components_types.specs.declared.ty.Owner.{Owner}
use Rattle.wac_components_types.specs.declared.ty.Owner.TheVariants as owners
use Rattle.wac_components_types.specs.declared.ty.Part.{Part}
use Rattle.wac_components_types.specs.declared.ty.Parts.{Parts}
use Rattle.wac_components_types.specs.declared.ty.TypeDef.{TypeDef}
use Rattle.wac_components_types.specs.declared.ty.TypeDef.TheVariants as defs
use Rattle.wac_components_types.specs.declared.ty.TypeEntry.{TypeEntry}

-- ---- numbers that name an entry, where there are so many of each

abbrev pub has_name : Counts → NameId → Bool
has_name n name = nat_lt name.0 n.names

abbrev pub has_type : Counts → TypeId → Bool
has_type n ty = nat_lt ty.0 n.types

abbrev pub has_name_if_any : Counts → Option NameId → Bool
has_name_if_any n None = true
has_name_if_any n (Some name) = has_name n name

abbrev pub has_type_if_any : Counts → Option TypeId → Bool
has_type_if_any n None = true
has_type_if_any n (Some ty) = has_type n ty

abbrev pub has_owner : Counts → Owner → Bool
has_owner n (owners.Instance id) = nat_lt id.0 n.instances
has_owner n (owners.Component id) = nat_lt id.0 n.components

abbrev pub has_owner_if_any : Counts → Option Owner → Bool
has_owner_if_any n None = true
has_owner_if_any n (Some owner) = has_owner n owner

-- ---- what is made of such numbers

abbrev pub has_part : Counts → Part → Bool
has_part n p = has_name_if_any n p.name && has_type_if_any n p.ty

abbrev pub has_parts : Counts → Parts → Bool
has_parts n p = nat_le p.first n.parts && nat_le p.count (n.parts - p.first)

abbrev pub has_named : Counts → Named → Bool
has_named n d = (has_name n d.name && has_owner n d.owner) && (has_type n d.target && has_owner_if_any n d.body)

abbrev pub has_func : Counts → Func → Bool
has_func n f = has_parts n f.params && has_type_if_any n f.result

abbrev pub has_def : Counts → TypeDef → Bool
has_def n (defs.Primitive p) = true
has_def n defs.Resource = true
has_def n (defs.Named d) = has_named n d
has_def n (defs.Record parts) = has_parts n parts
has_def n (defs.Variant parts) = has_parts n parts
has_def n (defs.Tuple parts) = has_parts n parts
has_def n (defs.Flags parts) = has_parts n parts
has_def n (defs.Enum parts) = has_parts n parts
has_def n (defs.List ty) = has_type n ty
has_def n (defs.FixedList ty size) = has_type n ty
has_def n (defs.Map key value) = has_type n key && has_type n value
has_def n (defs.Option ty) = has_type n ty
has_def n (defs.Result ok err) = has_type_if_any n ok && has_type_if_any n err
has_def n (defs.Own ty) = has_type n ty
has_def n (defs.Borrow ty) = has_type n ty
has_def n (defs.Stream ty) = has_type_if_any n ty
has_def n (defs.Future ty) = has_type_if_any n ty
has_def n (defs.Func f) = has_func n f
has_def n (defs.Body kind body) = true

abbrev pub has_entry : Counts → TypeEntry → Bool
has_entry n e = has_def n e.def && has_type n e.base

abbrev pub has_item : Counts → Item → Bool
has_item n items.Module = true
has_item n (items.Func ty) = has_type n ty
has_item n (items.«Type» ty) = has_type n ty
has_item n (items.Instance id) = nat_lt id.0 n.instances
has_item n (items.Component id) = nat_lt id.0 n.components
has_item n (items.Unevaluated body) = true

abbrev pub has_mark : Counts → Option (ExternKind × NameId) → Bool
has_mark n None = true
has_mark n (Some mark) = has_name n mark.1

module _ {S : Type 0} where
  abbrev pub has_items : Counts → IndexMap NameId Item S → Bool
  has_items n items = list_all (has_name n) (keys items) && list_all (has_item n) (values items)

abbrev pub has_instance : Counts → Instance → Bool
has_instance n i = has_mark n i.name && has_items n i.exports

abbrev pub has_component : Counts → Component → Bool
has_component n c = nat_lt c.instance.0 n.instances && has_items n c.imports

-- ---- what a contract sees of a table

pub record TableView : Type 0 where
  pub counts : Counts  -- how many there are of each
  pub is_closed : Bool  -- whether each number in it names an entry of it

abbrev pub is_closed : Counts → List TypeEntry → List Part → List Instance → List Component → Bool
is_closed n types parts instances components =
    (list_all (has_entry n) types && list_all (has_part n) parts)
    && (list_all (has_instance n) instances && list_all (has_component n) components)

abbrev pub counts_of : ℕ → List TypeEntry → List Part → List Instance → List Component → Counts
counts_of names types parts instances components =
    record {
      names = names;
      types = length types;
      parts = length parts;
      instances = length instances;
      components = length components;
    }

-- what a contract sees of these entries, with so many names
abbrev pub viewed : ℕ → List TypeEntry → List Part → List Instance → List Component → TableView
viewed names types parts instances components =
    let n : Counts = counts_of names types parts instances components in
    record { counts = n; is_closed = is_closed n types parts instances components }

-- each number in the table names an entry of it
abbrev pub IsClosed : TableView → Type 0
IsClosed t = t.is_closed ≡ true

-- the item names an entry of the table
abbrev pub NamesEntry : TableView → Item → Type 0
NamesEntry t item = has_item t.counts item ≡ true
