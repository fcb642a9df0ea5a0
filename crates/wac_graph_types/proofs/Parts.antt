-- What an entry means, made of its parts.
use Rattle.wac_graph_types.proofs.Common.{◌≡◌, ℕ, List, [], ◌∷◌, ◌++◌, map, Some, Option, refl, ◌∙◌, ap, string_bytes, option_map, String, Global}
use Rattle.wac_graph_types.specs.declared.kind.ItemKind.{ItemKind}
use Rattle.wac_graph_types.specs.declared.kind.ItemKind.TheVariants as kinds
use Rattle.wac_graph_types.specs.declared.kind.ValueType.{ValueType}
use Rattle.wac_graph_types.specs.declared.entry.Entry.TheVariants as entries
use Rattle.wac_graph_types.specs.declared.entry.DefinedType.{DefinedType}
use Rattle.wac_graph_types.specs.declared.entry.DefinedType.TheVariants as defined
use Rattle.wac_graph_types.specs.declared.entry.FuncResults.{FuncResults}
use Rattle.wac_graph_types.specs.declared.entry.FuncResults.TheVariants as results
use Rattle.wac_graph_types.specs.declared.entry.FuncType.{FuncType}
use Rattle.wac_graph_types.specs.declared.entry.Interface.{Interface}
use Rattle.wac_graph_types.specs.declared.entry.World.{World}
use Rattle.wac_graph_types.specs.declared.entry.UsedType.{UsedType}
use Rattle.wac_graph_types.specs.Entry as slots
use Rattle.wac_graph_types.specs.Entry.{Slot, children, defined_children, use_children, import_children, export_children, value_children, case_children, defined_label}
use Rattle.wac_graph_types.specs.Label.{Plain, plain}
use Rattle.wac_graph_types.specs.Meaning.{Meaning, node, Row, row, of_kind, of_child}
use Rattle.wac_graph_types.specs.Names.{by_name}
use Rattle.wac_graph_types.specs.Shape.{nothing, row_from, in_slots, using, naming_each, tuple_children, name_children, interface_entry, world_entry, func_entry, named_results, exports_of, imports_of, uses_of, id_of, items_mean, values_mean, cases_mean, types_mean, uses_mean, optional_means, results_mean, entry_over, defined_parts, items_in, slot_export}
use Rattle.wac_graph_types.proofs.Shapes.{exports_back, interface_exports_back, interface_uses_back, world_exports_back, world_imports_back, world_uses_back}

-- the kinds in an entry, each with its meaning
abbrev pub meant : (ℕ → Meaning) → List (Slot × Option ItemKind) → List (Slot × Meaning)
meant f cs = map (λ c. (c.0, of_child f c.1)) cs

pub row_is : (f : ℕ → Meaning) (cs : List (Slot × Option ItemKind)) → row f cs ≡ row_from (meant f cs)
row_is f [] = refl
row_is f (c ∷ cs) = ap (Row.more c.0 (of_child f c.1)) (row_is f cs)

meant_append : (f : ℕ → Meaning) (cs ds : List (Slot × Option ItemKind)) → meant f (cs ++ ds) ≡ meant f cs ++ meant f ds
meant_append f [] ds = refl
meant_append f (c ∷ cs) ds = ap (λ l. (c.0, of_child f c.1) ∷ l) (meant_append f cs ds)

exports_meant : (f : ℕ → Meaning) (es : List (String Global × ItemKind)) → meant f (export_children es) ≡ in_slots Slot.export (items_mean f (by_name es))
exports_meant f [] = refl
exports_meant f (e ∷ es) = ap (λ l. (Slot.export (string_bytes e.0), of_kind f e.1) ∷ l) (exports_meant f es)

-- a map of exports as a row
pub exports_row : (f : ℕ → Meaning) (es : List (String Global × ItemKind)) → row f (export_children es) ≡ row_from (in_slots Slot.export (items_mean f (by_name es)))
exports_row f es = row_is f (export_children es) ∙ ap row_from (exports_meant f es)

pub exports_read : (f : ℕ → Meaning) (es : List (String Global × ItemKind)) → items_in slot_export (row f (export_children es)) ≡ items_mean f (by_name es)
exports_read f es = ap (items_in slot_export) (exports_row f es) ∙ exports_back (items_mean f (by_name es))

imports_meant : (f : ℕ → Meaning) (es : List (String Global × ItemKind)) → meant f (import_children es) ≡ in_slots Slot.import (items_mean f (by_name es))
imports_meant f [] = refl
imports_meant f (e ∷ es) = ap (λ l. (Slot.import (string_bytes e.0), of_kind f e.1) ∷ l) (imports_meant f es)

used_meant : (f : ℕ → Meaning) (us : List (String Global × UsedType)) → meant f (use_children us) ≡ using (uses_mean f (by_name us))
used_meant f [] = refl
used_meant f (e ∷ us) = ap (λ l. (Slot.used (string_bytes e.0) (option_map string_bytes e.1.name), of_kind f (kinds.Instance e.1.interface)) ∷ l) (used_meant f us)

values_meant : (f : ℕ → Meaning) (es : List (String Global × ValueType)) → meant f (value_children es) ≡ naming_each (values_mean f (by_name es))
values_meant f [] = refl
values_meant f (e ∷ es) = ap (λ l. (Slot.named (string_bytes e.0), of_kind f (kinds.Value e.1)) ∷ l) (values_meant f es)

cases_meant : (f : ℕ → Meaning) (es : List (String Global × Option ValueType)) → meant f (case_children es) ≡ naming_each (cases_mean f (by_name es))
cases_meant f [] = refl
cases_meant f (e ∷ es) = ap (λ l. (Slot.named (string_bytes e.0), optional_means f e.1) ∷ l) (cases_meant f es)

names_meant : (f : ℕ → Meaning) (ns : List (String Global)) → meant f (slots.name_children ns) ≡ name_children (map string_bytes ns)
names_meant f [] = refl
names_meant f (n ∷ ns) = ap (λ l. (Slot.named (string_bytes n), nothing) ∷ l) (names_meant f ns)

types_meant : (f : ℕ → Meaning) (ts : List ValueType) → meant f (slots.tuple_children ts) ≡ tuple_children (types_mean f ts)
types_meant f [] = refl
types_meant f (t ∷ ts) = ap (λ l. (Slot.only, of_kind f (kinds.Value t)) ∷ l) (types_meant f ts)

named_meant : (f : ℕ → Meaning) (rs : List (String Global × ValueType)) → meant f (slots.named_result_children rs) ≡ named_results (values_mean f (by_name rs))
named_meant f [] = refl
named_meant f (r ∷ rs) = ap (λ l. (Slot.given (Some (string_bytes r.0)), of_kind f (kinds.Value r.1)) ∷ l) (named_meant f rs)

results_meant : (f : ℕ → Meaning) (rs : FuncResults) → meant f (slots.result_children rs) ≡ results_mean f rs
results_meant f results.None = refl
results_meant f (results.Scalar t) = refl
results_meant f (results.Named rs) = named_meant f rs.entries

pub interface_is : (f : ℕ → Meaning) (origin : ℕ) (i : Interface)
    → entry_over f origin (entries.Interface i) ≡ interface_entry (option_map string_bytes i.id) (uses_mean f (by_name i.uses.entries)) (items_mean f (by_name i.exports.entries))
interface_is f origin i = ap (node (plain (Plain.interface (option_map string_bytes i.id))))
    (row_is f (use_children i.uses.entries ++ export_children i.exports.entries)
    ∙ ap row_from (meant_append f (use_children i.uses.entries) (export_children i.exports.entries)
    ∙ ap (λ l. l ++ meant f (export_children i.exports.entries)) (used_meant f i.uses.entries)
    ∙ ap (λ l. using (uses_mean f (by_name i.uses.entries)) ++ l) (exports_meant f i.exports.entries)))

pub world_is : (f : ℕ → Meaning) (origin : ℕ) (w : World)
    → entry_over f origin (entries.World w) ≡ world_entry (option_map string_bytes w.id) (uses_mean f (by_name w.uses.entries)) (items_mean f (by_name w.imports.entries)) (items_mean f (by_name w.exports.entries))
world_is f origin w =
    let us = use_children w.uses.entries in
    let is = import_children w.imports.entries in
    let es = export_children w.exports.entries in
    ap (node (plain (Plain.world (option_map string_bytes w.id))))
    (row_is f (us ++ is ++ es)
    ∙ ap row_from (meant_append f (us ++ is) es
    ∙ ap (λ l. l ++ meant f es) (meant_append f us is)
    ∙ ap (λ l. (l ++ meant f is) ++ meant f es) (used_meant f w.uses.entries)
    ∙ ap (λ l. (using (uses_mean f (by_name w.uses.entries)) ++ l) ++ meant f es) (imports_meant f w.imports.entries)
    ∙ ap (λ l. (using (uses_mean f (by_name w.uses.entries)) ++ in_slots Slot.import (items_mean f (by_name w.imports.entries))) ++ l) (exports_meant f w.exports.entries)))

pub func_is : (f : ℕ → Meaning) (origin : ℕ) (t : FuncType)
    → entry_over f origin (entries.Func t) ≡ func_entry t.is_async (results_mean f t.results) (values_mean f (by_name t.params.entries))
func_is f origin t = ap (node (plain (Plain.func t.is_async)))
    (row_is f (slots.result_children t.results ++ value_children t.params.entries)
    ∙ ap row_from (meant_append f (slots.result_children t.results) (value_children t.params.entries)
    ∙ ap (λ l. l ++ meant f (value_children t.params.entries)) (results_meant f t.results)
    ∙ ap (λ l. results_mean f t.results ++ l) (values_meant f t.params.entries)))

parts_are : (f : ℕ → Meaning) (d : DefinedType) → meant f (defined_children d) ≡ defined_parts f d
parts_are f (defined.Tuple ts) = types_meant f ts.items
parts_are f (defined.List t) = refl
parts_are f (defined.Option t) = refl
parts_are f (defined.Result o e) = refl
parts_are f (defined.Variant cs) = cases_meant f cs.entries
parts_are f (defined.Record fs) = values_meant f fs.entries
parts_are f (defined.Flags ns) = names_meant f ns.keys
parts_are f (defined.Enum ns) = names_meant f ns.keys
parts_are f (defined.Alias t) = refl
parts_are f (defined.Stream t) = refl
parts_are f (defined.Future t) = refl

pub defined_is : (f : ℕ → Meaning) (origin : ℕ) (d : DefinedType) → entry_over f origin (entries.Defined d) ≡ node (plain (defined_label d)) (row_from (defined_parts f d))
defined_is f origin d = ap (node (plain (defined_label d))) (row_is f (defined_children d) ∙ ap row_from (parts_are f d))

-- ---- what is read of an entry's meaning

pub interface_id : (f : ℕ → Meaning) (m : Meaning) (origin : ℕ) (i : Interface) → m ≡ entry_over f origin (entries.Interface i) → id_of m ≡ option_map string_bytes i.id
interface_id f m origin i is = ap id_of is

pub interface_uses : (f : ℕ → Meaning) (m : Meaning) (origin : ℕ) (i : Interface) → m ≡ entry_over f origin (entries.Interface i) → uses_of m ≡ uses_mean f (by_name i.uses.entries)
interface_uses f m origin i is = ap uses_of (is ∙ interface_is f origin i) ∙ interface_uses_back (option_map string_bytes i.id) (uses_mean f (by_name i.uses.entries)) (items_mean f (by_name i.exports.entries))

pub interface_exports : (f : ℕ → Meaning) (m : Meaning) (origin : ℕ) (i : Interface) → m ≡ entry_over f origin (entries.Interface i) → exports_of m ≡ items_mean f (by_name i.exports.entries)
interface_exports f m origin i is = ap exports_of (is ∙ interface_is f origin i) ∙ interface_exports_back (option_map string_bytes i.id) (uses_mean f (by_name i.uses.entries)) (items_mean f (by_name i.exports.entries))

pub world_id : (f : ℕ → Meaning) (m : Meaning) (origin : ℕ) (w : World) → m ≡ entry_over f origin (entries.World w) → id_of m ≡ option_map string_bytes w.id
world_id f m origin w is = ap id_of is

pub world_uses : (f : ℕ → Meaning) (m : Meaning) (origin : ℕ) (w : World) → m ≡ entry_over f origin (entries.World w) → uses_of m ≡ uses_mean f (by_name w.uses.entries)
world_uses f m origin w is = ap uses_of (is ∙ world_is f origin w) ∙ world_uses_back (option_map string_bytes w.id) (uses_mean f (by_name w.uses.entries)) (items_mean f (by_name w.imports.entries)) (items_mean f (by_name w.exports.entries))

pub world_imports : (f : ℕ → Meaning) (m : Meaning) (origin : ℕ) (w : World) → m ≡ entry_over f origin (entries.World w) → imports_of m ≡ items_mean f (by_name w.imports.entries)
world_imports f m origin w is = ap imports_of (is ∙ world_is f origin w) ∙ world_imports_back (option_map string_bytes w.id) (uses_mean f (by_name w.uses.entries)) (items_mean f (by_name w.imports.entries)) (items_mean f (by_name w.exports.entries))

pub world_exports : (f : ℕ → Meaning) (m : Meaning) (origin : ℕ) (w : World) → m ≡ entry_over f origin (entries.World w) → exports_of m ≡ items_mean f (by_name w.exports.entries)
world_exports f m origin w is = ap exports_of (is ∙ world_is f origin w) ∙ world_exports_back (option_map string_bytes w.id) (uses_mean f (by_name w.uses.entries)) (items_mean f (by_name w.imports.entries)) (items_mean f (by_name w.exports.entries))
