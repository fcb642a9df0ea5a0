-- The kinds in an entry, each in its slot, and what an entry is apart from them.
use Rattle.std.specs.Prelude.{ℕ, Option, Some, None, List, [], ◌∷◌, ◌++◌, map, option_map, string_bytes, String}
use Rattle.std.specs.declared.alloc.Global.{Global}
use Rattle.wac_graph_types.specs.declared.kind.ValueType.{ValueType}
use Rattle.wac_graph_types.specs.declared.kind.«Type».TheVariants as types
use Rattle.wac_graph_types.specs.declared.kind.ItemKind.{ItemKind}
use Rattle.wac_graph_types.specs.declared.kind.ItemKind.TheVariants as kinds
use Rattle.wac_graph_types.specs.declared.kind.Sort.{Sort}
use Rattle.wac_graph_types.specs.declared.kind.Sort.TheVariants as sorts
use Rattle.wac_graph_types.specs.declared.entry.Entry.{Entry}
use Rattle.wac_graph_types.specs.declared.entry.Entry.TheVariants as entries
use Rattle.wac_graph_types.specs.declared.entry.DefinedType.{DefinedType}
use Rattle.wac_graph_types.specs.declared.entry.DefinedType.TheVariants as defined
use Rattle.wac_graph_types.specs.declared.entry.FuncResults.{FuncResults}
use Rattle.wac_graph_types.specs.declared.entry.FuncResults.TheVariants as results
use Rattle.wac_graph_types.specs.declared.entry.ResourceAlias.{ResourceAlias}
use Rattle.wac_graph_types.specs.declared.entry.UsedType.{UsedType}
use Rattle.wac_graph_types.specs.declared.child.Place.{Place}
use Rattle.wac_graph_types.specs.declared.child.Place.TheVariants as places
use Rattle.wac_graph_types.specs.declared.child.Child.{Child}
use Rattle.wac_graph_types.specs.Label.{Label, plain, resource, Plain, tuple, list, option, result, variant, fields, flags, cases, alias, stream, future, func, interface, world}

pub data Slot : Type 0 where
  only ok err : Slot
  named : List ℕ → Slot
  -- a result, with its name, if it has one
  given : Option (List ℕ) → Slot
  owner source : Slot
  used : List ℕ → Option (List ℕ) → Slot
  import export : List ℕ → Slot
  deriving Discrete as Slot-discrete

abbrev pub slot_of : Place → Slot
slot_of places.Only = only
slot_of places.Ok = ok
slot_of places.Err = err
slot_of (places.Named n) = named n.now
slot_of (places.Given n) = given (option_map (λ s. s.now) n)
slot_of places.Owner = owner
slot_of places.Source = source
slot_of (places.Used n m) = used n.now (option_map (λ s. s.now) m)
slot_of (places.Import n) = import n.now
slot_of (places.Export n) = export n.now

abbrev pub child_view : Child → Slot × Option ItemKind
child_view c = (slot_of c.place, c.kind)

-- a value's type, if it is given
abbrev pub optional : Option ValueType → Option ItemKind
optional t = option_map (λ v. kinds.Value v) t

abbrev pub tuple_children : List ValueType → List (Slot × Option ItemKind)
tuple_children ts = map (λ t. (only, Some (kinds.Value t))) ts

abbrev pub case_children : List (String Global × Option ValueType) → List (Slot × Option ItemKind)
case_children cs = map (λ e. (named (string_bytes e.0), optional e.1)) cs

abbrev pub value_children : List (String Global × ValueType) → List (Slot × Option ItemKind)
value_children fs = map (λ e. (named (string_bytes e.0), Some (kinds.Value e.1))) fs

abbrev pub name_children : List (String Global) → List (Slot × Option ItemKind)
name_children ns = map (λ n. (named (string_bytes n), None)) ns

abbrev pub use_children : List (String Global × UsedType) → List (Slot × Option ItemKind)
use_children us = map (λ e. (used (string_bytes e.0) (option_map string_bytes e.1.name), Some (kinds.Instance e.1.interface))) us

abbrev pub import_children : List (String Global × ItemKind) → List (Slot × Option ItemKind)
import_children is = map (λ e. (import (string_bytes e.0), Some e.1)) is

abbrev pub export_children : List (String Global × ItemKind) → List (Slot × Option ItemKind)
export_children es = map (λ e. (export (string_bytes e.0), Some e.1)) es

-- what a world imports, and then what it exports
abbrev pub extern_children : List (String Global × ItemKind) → List (String Global × ItemKind)
    → List (Slot × Option ItemKind)
extern_children imports exports = import_children imports ++ export_children exports

-- what a defined type is apart from the kinds in it, and these
abbrev pub defined_view : DefinedType → Plain × List (Slot × Option ItemKind)
defined_view (defined.Tuple ts) = (tuple, tuple_children ts.items)
defined_view (defined.List t) = (list, (only, Some (kinds.Value t)) ∷ [])
defined_view (defined.Option t) = (option, (only, Some (kinds.Value t)) ∷ [])
defined_view (defined.Result o e) = (result, (ok, optional o) ∷ (err, optional e) ∷ [])
defined_view (defined.Variant cs) = (variant, case_children cs.entries)
defined_view (defined.Record fs) = (fields, value_children fs.entries)
defined_view (defined.Flags ns) = (flags, name_children ns.keys)
defined_view (defined.Enum ns) = (cases, name_children ns.keys)
defined_view (defined.Alias t) = (alias, (only, Some (kinds.Value t)) ∷ [])
defined_view (defined.Stream t) = (stream, (only, optional t) ∷ [])
defined_view (defined.Future t) = (future, (only, optional t) ∷ [])

abbrev pub defined_label : DefinedType → Plain
defined_label d = (defined_view d).0

abbrev pub defined_children : DefinedType → List (Slot × Option ItemKind)
defined_children d = (defined_view d).1

abbrev pub alias_children : Option ResourceAlias → List (Slot × Option ItemKind)
alias_children None = []
alias_children (Some a) = (owner, option_map (λ i. kinds.Instance i) a.owner) ∷ (source, Some (kinds.Ty (types.Resource a.source))) ∷ []

abbrev pub named_result_children : List (String Global × ValueType) → List (Slot × Option ItemKind)
named_result_children rs = map (λ e. (given (Some (string_bytes e.0)), Some (kinds.Value e.1))) rs

abbrev pub result_children : FuncResults → List (Slot × Option ItemKind)
result_children results.None = []
result_children (results.Scalar t) = (given None, Some (kinds.Value t)) ∷ []
result_children (results.Named rs) = named_result_children rs.entries

abbrev pub children : Entry → List (Slot × Option ItemKind)
children (entries.Defined d) = defined_children d
children (entries.Resource r) = alias_children r.alias
children (entries.Func f) = result_children f.results ++ value_children f.params.entries
children (entries.Interface i) = use_children i.uses.entries ++ export_children i.exports.entries
children (entries.World w) = use_children w.uses.entries ++ import_children w.imports.entries ++ export_children w.exports.entries

abbrev pub sort_of : Entry → Sort
sort_of (entries.Defined d) = sorts.Defined
sort_of (entries.Resource r) = sorts.Resource
sort_of (entries.Func f) = sorts.Func
sort_of (entries.Interface i) = sorts.Interface
sort_of (entries.World w) = sorts.World

-- what an entry is apart from the kinds in it; a resource is its origin
abbrev pub label : ℕ → Entry → Label
label origin (entries.Defined d) = plain (defined_label d)
label origin (entries.Resource r) = resource origin (string_bytes r.name)
label origin (entries.Func f) = plain (func f.is_async)
label origin (entries.Interface i) = plain (interface (option_map string_bytes i.id))
label origin (entries.World w) = plain (world (option_map string_bytes w.id))
