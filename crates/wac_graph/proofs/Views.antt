-- What is in an entry, seen by name.
use Rattle.wac_graph.proofs.Common.{◌≡◌, ◌∙◌, ◌+◌, ℕ, zero, suc, Bool, Option, Some, None, List, [], ◌∷◌, ◌++◌, refl, sym, ap, subst, map, take, length, get_or, ◌<◌, add-one, arith, string_bytes, option_map, slice_get, IfSome, String, Global, ValueType, ItemKind, EachKind, by_name, plain, func, interface, world, Slot, only, given, tuple_children, used, import, export, optional, value_children, named_result_children, result_children, case_children, name_children, use_children, import_children, export_children}
use Rattle.wac_graph_types.specs.declared.kind.ItemKind.TheVariants as kinds
use Rattle.wac_graph_types.specs.declared.entry.UsedType.{UsedType}
use Rattle.wac_graph.specs.Moved.{moved, moved_value, moved_child, moved_children, moved_items, Fits, ItemsFit}
use Rattle.wac_graph.specs.Copied.{IsCopy}
use Rattle.wac_graph_types.specs.declared.entry.Entry.TheVariants as entries
use Rattle.wac_graph_types.specs.declared.entry.FuncType.{FuncType}
use Rattle.wac_graph_types.specs.declared.entry.Interface.{Interface}
use Rattle.wac_graph_types.specs.declared.entry.World.{World}
use Rattle.wac_graph_types.specs.Entry.{named}

abbrev pub value_child : List ℕ × ValueType → Slot × Option ItemKind
value_child e = (named e.0, Some (kinds.Value e.1))

pub value_view : (es : List (String Global × ValueType)) → value_children es ≡ map value_child (by_name es)
value_view [] = refl
value_view (e ∷ es) = ap (λ (l : List (Slot × Option ItemKind)). value_child (string_bytes e.0, e.1) ∷ l) (value_view es)

abbrev pub case_child : List ℕ × Option ValueType → Slot × Option ItemKind
case_child e = (named e.0, optional e.1)

pub case_view : (es : List (String Global × Option ValueType)) → case_children es ≡ map case_child (by_name es)
case_view [] = refl
case_view (e ∷ es) = ap (λ (l : List (Slot × Option ItemKind)). case_child (string_bytes e.0, e.1) ∷ l) (case_view es)

abbrev pub use_child : List ℕ × UsedType → Slot × Option ItemKind
use_child e = (used e.0 (option_map string_bytes e.1.name), Some (kinds.Instance e.1.interface))

pub use_view : (es : List (String Global × UsedType)) → use_children es ≡ map use_child (by_name es)
use_view [] = refl
use_view (e ∷ es) = ap (λ (l : List (Slot × Option ItemKind)). use_child (string_bytes e.0, e.1) ∷ l) (use_view es)

abbrev pub import_child : List ℕ × ItemKind → Slot × Option ItemKind
import_child e = (import e.0, Some e.1)

pub import_view : (es : List (String Global × ItemKind)) → import_children es ≡ map import_child (by_name es)
import_view [] = refl
import_view (e ∷ es) = ap (λ (l : List (Slot × Option ItemKind)). import_child (string_bytes e.0, e.1) ∷ l) (import_view es)

abbrev pub export_child : List ℕ × ItemKind → Slot × Option ItemKind
export_child e = (export e.0, Some e.1)

pub export_view : (es : List (String Global × ItemKind)) → export_children es ≡ map export_child (by_name es)
export_view [] = refl
export_view (e ∷ es) = ap (λ (l : List (Slot × Option ItemKind)). export_child (string_bytes e.0, e.1) ∷ l) (export_view es)

pub map_itself : {X : Type 0} (xs : List X) → map (λ x. x) xs ≡ xs
map_itself [] = refl
map_itself {X} (x ∷ xs) = ap (λ (l : List X). x ∷ l) (map_itself xs)

pub optional_moved : (n : ℕ) (v : Option ValueType) → optional (option_map (moved_value n) v) ≡ option_map (moved n) (optional v)
optional_moved n None = refl
optional_moved n (Some v) = refl

pub optional_fits : (n : ℕ) (v : Option ValueType) → IfSome (optional v) (Fits n) → IfSome v (λ w. Fits n (kinds.Value w))
optional_fits n None h = tt
optional_fits n (Some v) h = h

abbrev pub name_child : List ℕ → Slot × Option ItemKind
name_child t = (named t, None)

pub name_view : (ks : List (String Global)) → name_children ks ≡ map name_child (map string_bytes ks)
name_view [] = refl
name_view (k ∷ ks) = ap (λ (l : List (Slot × Option ItemKind)). name_child (string_bytes k) ∷ l) (name_view ks)

pub same_names : (ks ls : List (String Global)) → map string_bytes ks ≡ map string_bytes ls → name_children ks ≡ name_children ls
same_names ks ls is = name_view ks ∙ ap (map name_child) is ∙ sym (name_view ls)

pub tuple_fits : (n k : ℕ) (vs : List ValueType) (v : ValueType) → slice_get vs k ≡ Some v → EachKind (Fits n) (tuple_children vs) → Fits n (kinds.Value v)
tuple_fits n k [] v is h = absurd (cc)
tuple_fits n zero (x ∷ vs) v is h = let same : x ≡ v = cc in subst (λ (y : ValueType). Fits n (kinds.Value y)) same h.0
tuple_fits n (suc k) (x ∷ vs) v is h = tuple_fits n k vs v is h.1

tuple_append : (vs ws : List ValueType) → tuple_children (vs ++ ws) ≡ tuple_children vs ++ tuple_children ws
tuple_append [] ws = refl
tuple_append (v ∷ vs) ws = ap (λ (l : List (Slot × Option ItemKind)). (only, Some (kinds.Value v)) ∷ l) (tuple_append vs ws)

moved_append : (n : ℕ) (cs ds : List (Slot × Option ItemKind)) → moved_children n (cs ++ ds) ≡ moved_children n cs ++ moved_children n ds
moved_append n [] ds = refl
moved_append n (c ∷ cs) ds = ap (λ (l : List (Slot × Option ItemKind)). moved_child n c ∷ l) (moved_append n cs ds)

take_more : {X : Type 0} (xs : List X) (k : ℕ) (x : X) → slice_get xs k ≡ Some x → take (suc k) xs ≡ take k xs ++ x ∷ []
take_more [] k x is = absurd (cc)
take_more {X} (y ∷ xs) zero x is = let same : y ≡ x = cc in ap (λ (z : X). z ∷ []) same
take_more {X} (y ∷ xs) (suc k) x is = ap (λ (l : List X). y ∷ l) (take_more xs k x is)

pub tuple_step : (n k : ℕ) (from done next : List ValueType) (v w : ValueType) → slice_get from k ≡ Some v → tuple_children done ≡ moved_children n (tuple_children (take k from))
    → w ≡ moved_value n v → next ≡ done ++ w ∷ [] → tuple_children next ≡ moved_children n (tuple_children (take (k + 1) from))
tuple_step n k from done next v w at so_far kind new = rw add-one (
    ap tuple_children new ∙ tuple_append done (w ∷ [])
    ∙ ap (λ (l : List (Slot × Option ItemKind)). l ++ tuple_children (w ∷ [])) so_far
    ∙ ap (λ (x : ValueType). moved_children n (tuple_children (take k from)) ++ tuple_children (x ∷ [])) kind
    ∙ sym (moved_append n (tuple_children (take k from)) (tuple_children (v ∷ [])))
    ∙ ap (moved_children n) (sym (tuple_append (take k from) (v ∷ [])))
    ∙ ap (λ (l : List ValueType). moved_children n (tuple_children l)) (sym (take_more from k v at)))

pub taken_all : {X : Type 0} (xs : List X) (k : ℕ) → length xs ≡ k → take k xs ≡ xs
taken_all [] zero len = refl
taken_all [] (suc k) len = absurd (omega arith)
taken_all (x ∷ xs) zero len = absurd (omega arith)
taken_all {X} (x ∷ xs) (suc k) len = ap (λ (l : List X). x ∷ l) (taken_all xs k (omega arith))

pub tuple_start : (n : ℕ) (from done : List ValueType) → done ≡ [] → tuple_children done ≡ moved_children n (tuple_children (take 0 from))
tuple_start n [] done is = ap tuple_children is
tuple_start n (v ∷ from) done is = ap tuple_children is

pub read_at : {X : Type 0} (xs : List X) (k : ℕ) (d : X) → k < length xs → slice_get xs k ≡ Some (get_or xs k d)
read_at [] k d within = absurd (omega arith)
read_at (x ∷ xs) zero d within = refl
read_at (x ∷ xs) (suc k) d within = read_at xs k d (omega arith)

pub each_left : (P : ItemKind → Type 0) (cs ds : List (Slot × Option ItemKind)) → EachKind P (cs ++ ds) → EachKind P cs
each_left P [] ds h = tt
each_left P (c ∷ cs) ds h = (h.0, each_left P cs ds h.1)

pub each_right : (P : ItemKind → Type 0) (cs ds : List (Slot × Option ItemKind)) → EachKind P (cs ++ ds) → EachKind P ds
each_right P [] ds h = h
each_right P (c ∷ cs) ds h = each_right P cs ds h.1

pub imports_fit : (n : ℕ) (es : List (String Global × ItemKind)) → EachKind (Fits n) (import_children es) → ItemsFit n (by_name es)
imports_fit n [] h = tt
imports_fit n (e ∷ es) h = (h.0, imports_fit n es h.1)

pub exports_fit : (n : ℕ) (es : List (String Global × ItemKind)) → EachKind (Fits n) (export_children es) → ItemsFit n (by_name es)
exports_fit n [] h = tt
exports_fit n (e ∷ es) h = (h.0, exports_fit n es h.1)

items_moved : (n : ℕ) (f : List ℕ → Slot) (ds : List (List ℕ × ItemKind)) → map (λ e. (f e.0, Some e.1)) (moved_items n ds) ≡ moved_children n (map (λ e. (f e.0, Some e.1)) ds)
items_moved n f [] = refl
items_moved n f (d ∷ ds) = ap (λ (l : List (Slot × Option ItemKind)). (f d.0, Some (moved n d.1)) ∷ l) (items_moved n f ds)

pub imports_moved : (n : ℕ) (es fs : List (String Global × ItemKind)) → by_name fs ≡ moved_items n (by_name es) → import_children fs ≡ moved_children n (import_children es)
imports_moved n es fs is = import_view fs ∙ ap (map import_child) is ∙ items_moved n import (by_name es) ∙ ap (moved_children n) (sym (import_view es))

pub exports_moved : (n : ℕ) (es fs : List (String Global × ItemKind)) → by_name fs ≡ moved_items n (by_name es) → export_children fs ≡ moved_children n (export_children es)
exports_moved n es fs is = export_view fs ∙ ap (map export_child) is ∙ items_moved n export (by_name es) ∙ ap (moved_children n) (sym (export_view es))

-- the slot of a result with the name of a parameter
abbrev result_slot : Slot → Slot
result_slot (named t) = given (Some t)
result_slot s = s

abbrev result_child : Slot × Option ItemKind → Slot × Option ItemKind
result_child c = (result_slot c.0, c.1)

result_view : (es : List (String Global × ValueType)) → named_result_children es ≡ map result_child (value_children es)
result_view [] = refl
result_view (e ∷ es) = ap (λ (l : List (Slot × Option ItemKind)). (given (Some (string_bytes e.0)), Some (kinds.Value e.1)) ∷ l) (result_view es)

slots_moved : (n : ℕ) (cs : List (Slot × Option ItemKind)) → map result_child (moved_children n cs) ≡ moved_children n (map result_child cs)
slots_moved n [] = refl
slots_moved n (c ∷ cs) = ap (λ (l : List (Slot × Option ItemKind)). result_child (moved_child n c) ∷ l) (slots_moved n cs)

-- results with names are moved as parameters are
pub results_moved : (n : ℕ) (es fs : List (String Global × ValueType)) → value_children fs ≡ moved_children n (value_children es) → named_result_children fs ≡ moved_children n (named_result_children es)
results_moved n es fs is = result_view fs ∙ ap (map result_child) is ∙ slots_moved n (value_children es) ∙ ap (moved_children n) (sym (result_view es))

pub results_fit : (n : ℕ) (es : List (String Global × ValueType)) → EachKind (Fits n) (named_result_children es) → EachKind (Fits n) (value_children es)
results_fit n [] h = tt
results_fit n (e ∷ es) h = (h.0, results_fit n es h.1)

pub func_copy : (n : ℕ) (f g : FuncType) → g.is_async ≡ f.is_async → result_children g.results ≡ moved_children n (result_children f.results)
    → value_children g.params.entries ≡ moved_children n (value_children f.params.entries) → IsCopy n (entries.Func f) (entries.Func g)
func_copy n f g is_async results params = record {
  sorts = refl;
  labels = λ o. ap (λ (b : Bool). plain (func b)) is_async;
  kinds =
      let both : result_children g.results ++ value_children g.params.entries ≡ moved_children n (result_children f.results) ++ moved_children n (value_children f.params.entries) = cc in
      both ∙ sym (moved_append n (result_children f.results) (value_children f.params.entries));
}

pub interface_copy : (n : ℕ) (i j : Interface) → option_map string_bytes j.id ≡ option_map string_bytes i.id → use_children j.uses.entries ≡ moved_children n (use_children i.uses.entries)
    → by_name j.exports.entries ≡ moved_items n (by_name i.exports.entries) → IsCopy n (entries.Interface i) (entries.Interface j)
interface_copy n i j id uses exports = record {
  sorts = refl;
  labels = λ o. ap (λ (x : Option (List ℕ)). plain (interface x)) id;
  kinds =
      let both : use_children j.uses.entries ++ export_children j.exports.entries ≡ moved_children n (use_children i.uses.entries) ++ moved_children n (export_children i.exports.entries)
      = (let e = exports_moved n i.exports.entries j.exports.entries exports in cc) in
      both ∙ sym (moved_append n (use_children i.uses.entries) (export_children i.exports.entries));
}

pub world_copy : (n : ℕ) (v w : World) → option_map string_bytes w.id ≡ option_map string_bytes v.id → use_children w.uses.entries ≡ moved_children n (use_children v.uses.entries)
    → by_name w.imports.entries ≡ moved_items n (by_name v.imports.entries) → by_name w.exports.entries ≡ moved_items n (by_name v.exports.entries) → IsCopy n (entries.World v) (entries.World w)
world_copy n v w id uses imports exports = record {
  sorts = refl;
  labels = λ o. ap (λ (x : Option (List ℕ)). plain (world x)) id;
  kinds =
      let all : use_children w.uses.entries ++ import_children w.imports.entries ++ export_children w.exports.entries
      ≡ moved_children n (use_children v.uses.entries) ++ moved_children n (import_children v.imports.entries) ++ moved_children n (export_children v.exports.entries)
      = (let i = imports_moved n v.imports.entries w.imports.entries imports in let e = exports_moved n v.exports.entries w.exports.entries exports in cc) in
      all ∙ ap (λ (l : List (Slot × Option ItemKind)). l ++ moved_children n (export_children v.exports.entries)) (sym (moved_append n (use_children v.uses.entries) (import_children v.imports.entries)))
      ∙ sym (moved_append n (use_children v.uses.entries ++ import_children v.imports.entries) (export_children v.exports.entries));
}

-- a name has no number
pub names_stay : (n : ℕ) (ks : List (String Global)) → moved_children n (name_children ks) ≡ name_children ks
names_stay n [] = refl
names_stay n (k ∷ ks) = ap (λ (l : List (Slot × Option ItemKind)). (named (string_bytes k), None) ∷ l) (names_stay n ks)
