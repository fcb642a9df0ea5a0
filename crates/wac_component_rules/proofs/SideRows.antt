-- What interfaces and worlds import and export, read of their meanings, and compared place by place.
use Rattle.std.proofs.Common.{◌≡◌, ◌∙◌, ◌+◌, ℕ, zero, suc, List, [], ◌∷◌, ◌++◌, length, map, drop, refl, sym, ap, Option, Some, None, subst, add-one, append-nil, Bool, true, false, cond}
use Rattle.std.specs.Prelude.{slice_get, ◌&&◌, string_bytes, String}
use Rattle.std.specs.List.{AllByRecursion}
use Rattle.std.specs.Str.{bytes_eq}
use Rattle.std.specs.declared.alloc.Global.{Global}
use Rattle.wac_graph_types.specs.declared.kind.ItemKind.{ItemKind}
use Rattle.wac_graph_types.specs.declared.entry.Entry.{Entry}
use Rattle.wac_graph_types.specs.declared.entry.Entry.TheVariants as entries
use Rattle.wac_graph_types.specs.declared.entry.UsedType.{UsedType}
use Rattle.wac_graph_types.specs.Entry.{Slot, children, use_children, import_children, export_children}
use Rattle.wac_graph_types.specs.Meaning.{Meaning, of_kind, of_child, row, EachKind}
use Rattle.wac_graph_types.specs.Names.{by_name}
use Rattle.wac_graph_types.specs.Scope.{Named, look_up}
use Rattle.wac_graph_types.specs.Shape.{slot_import, slot_export, cons_named}
use Rattle.wac_graph_types.proofs.Rows.{drop_some, drop_past}
use Rattle.wac_component_rules.specs.declared.sides.Side.{Side}
use Rattle.wac_component_rules.specs.declared.sides.Side.TheVariants as sides
use Rattle.wac_component_rules.specs.Seen as view
use Rattle.wac_component_rules.specs.Seen.{Seen, Items, seen, items, listed, picked}
use Rattle.wac_component_rules.specs.Fits.{fits, offered, each_found, found_fits}
use Rattle.wac_component_rules.specs.Parts.{side_items, slot_side, IsSided}
use Rattle.wac_component_rules.specs.Sides.{side_fits}

-- kinds by name, as the rules see them; and each with what it fits
abbrev pub seen_items : (ℕ → Meaning) → Named ItemKind → Named Seen
seen_items f all = map (λ e. (e.0, seen (of_kind f e.1))) all

abbrev pub fit_items : (ℕ → Meaning) → Named ItemKind → Named (Seen → Bool)
fit_items f all = map (λ e. (e.0, λ y. fits (seen (of_kind f e.1)) y)) all

-- ---- reading

read : (ℕ → Meaning) → (Slot → Option (List ℕ)) → List (Slot × Option ItemKind) → Named Seen
read f pick cs = picked pick (listed (items (row f cs)))

cons_more : {X : Type 0} (o : Option (List ℕ)) (x : X) (xs ys : Named X) → cons_named o x (xs ++ ys) ≡ cons_named o x xs ++ ys
cons_more None x xs ys = refl
cons_more (Some n) x xs ys = refl

read_append : (f : ℕ → Meaning) (pick : Slot → Option (List ℕ)) (cs ds : List (Slot × Option ItemKind)) → read f pick (cs ++ ds) ≡ read f pick cs ++ read f pick ds
unfolding read
read_append f pick [] ds = refl
read_append f pick (c ∷ cs) ds =
    ap (cons_named (pick c.0) (seen (of_child f c.1))) (read_append f pick cs ds)
    ∙ cons_more (pick c.0) (seen (of_child f c.1)) (read f pick cs) (read f pick ds)

uses_export_none : (f : ℕ → Meaning) (us : List (String Global × UsedType)) → read f slot_export (use_children us) ≡ []
unfolding read
uses_export_none f [] = refl
uses_export_none f (u ∷ us) = uses_export_none f us

uses_import_none : (f : ℕ → Meaning) (us : List (String Global × UsedType)) → read f slot_import (use_children us) ≡ []
unfolding read
uses_import_none f [] = refl
uses_import_none f (u ∷ us) = uses_import_none f us

exports_read : (f : ℕ → Meaning) (es : List (String Global × ItemKind)) → read f slot_export (export_children es) ≡ seen_items f (by_name es)
unfolding read
exports_read f [] = refl
exports_read f (e ∷ es) = ap (λ (l : Named Seen). (string_bytes e.0, seen (of_kind f e.1)) ∷ l) (exports_read f es)

exports_import_none : (f : ℕ → Meaning) (es : List (String Global × ItemKind)) → read f slot_import (export_children es) ≡ []
unfolding read
exports_import_none f [] = refl
exports_import_none f (e ∷ es) = exports_import_none f es

imports_read : (f : ℕ → Meaning) (es : List (String Global × ItemKind)) → read f slot_import (import_children es) ≡ seen_items f (by_name es)
unfolding read
imports_read f [] = refl
imports_read f (e ∷ es) = ap (λ (l : Named Seen). (string_bytes e.0, seen (of_kind f e.1)) ∷ l) (imports_read f es)

imports_export_none : (f : ℕ → Meaning) (es : List (String Global × ItemKind)) → read f slot_export (import_children es) ≡ []
unfolding read
imports_export_none f [] = refl
imports_export_none f (e ∷ es) = imports_export_none f es

after : (f : ℕ → Meaning) (pick : Slot → Option (List ℕ)) (cs ds : List (Slot × Option ItemKind)) (all : Named Seen) → read f pick cs ≡ [] → read f pick ds ≡ all → read f pick (cs ++ ds) ≡ all
after f pick cs ds all p q = read_append f pick cs ds ∙ ap (λ (l : Named Seen). l ++ read f pick ds) p ∙ q

before : (f : ℕ → Meaning) (pick : Slot → Option (List ℕ)) (cs ds : List (Slot × Option ItemKind)) (all : Named Seen) → read f pick cs ≡ all → read f pick ds ≡ [] → read f pick (cs ++ ds) ≡ all
before f pick cs ds all p q =
    let nil : read f pick cs ++ [] ≡ read f pick cs = simp append-nil in
    read_append f pick cs ds ∙ ap (λ (l : Named Seen). read f pick cs ++ l) q ∙ nil ∙ p

side_read : (f : ℕ → Meaning) (side : Side) (e : Entry) → IsSided e → read f (slot_side side) (children e) ≡ seen_items f (side_items side e)
side_read f side (entries.Defined d) h = absurd h
side_read f side (entries.Resource r) h = absurd h
side_read f side (entries.Func g) h = absurd h
side_read f sides.Imports (entries.Interface i) h = after f slot_import (use_children i.uses.entries) (export_children i.exports.entries) [] (uses_import_none f i.uses.entries) (exports_import_none f i.exports.entries)
side_read f sides.Exports (entries.Interface i) h = after f slot_export (use_children i.uses.entries) (export_children i.exports.entries) (seen_items f (by_name i.exports.entries)) (uses_export_none f i.uses.entries) (exports_read f i.exports.entries)
side_read f sides.Imports (entries.World w) h =
    before f slot_import (use_children w.uses.entries ++ import_children w.imports.entries) (export_children w.exports.entries) (seen_items f (by_name w.imports.entries))
    (after f slot_import (use_children w.uses.entries) (import_children w.imports.entries) (seen_items f (by_name w.imports.entries)) (uses_import_none f w.uses.entries) (imports_read f w.imports.entries))
    (exports_import_none f w.exports.entries)
side_read f sides.Exports (entries.World w) h =
    after f slot_export (use_children w.uses.entries ++ import_children w.imports.entries) (export_children w.exports.entries) (seen_items f (by_name w.exports.entries))
    (after f slot_export (use_children w.uses.entries) (import_children w.imports.entries) [] (uses_export_none f w.uses.entries) (imports_export_none f w.imports.entries))
    (exports_read f w.exports.entries)

-- what is offered is what is listed, each with what it fits
pub fit_listed : (pick : Slot → Option (List ℕ)) (xs : Items) → picked pick (offered xs) ≡ map (λ (e : List ℕ × Seen). (e.0, λ (y : Seen). fits e.1 y)) (picked pick (listed xs))
fit_listed pick view.end = refl
fit_listed pick (view.item s x xs) = go (pick s) (fit_listed pick xs)
  where
    go : (o : Option (List ℕ)) → picked pick (offered xs) ≡ map (λ (e : List ℕ × Seen). (e.0, λ (y : Seen). fits e.1 y)) (picked pick (listed xs))
        → cons_named o (λ (y : Seen). fits x y) (picked pick (offered xs)) ≡ map (λ (e : List ℕ × Seen). (e.0, λ (y : Seen). fits e.1 y)) (cons_named o x (picked pick (listed xs)))
    go None rest = rest
    go (Some n) rest = ap (λ (l : Named (Seen → Bool)). (n, λ (y : Seen). fits x y) ∷ l) rest

fit_seen : (f : ℕ → Meaning) (all : Named ItemKind) → map (λ (e : List ℕ × Seen). (e.0, λ (y : Seen). fits e.1 y)) (seen_items f all) ≡ fit_items f all
fit_seen f [] = refl
fit_seen f (e ∷ all) = ap (λ (l : Named (Seen → Bool)). (e.0, λ (y : Seen). fits (seen (of_kind f e.1)) y) ∷ l) (fit_seen f all)

-- sides fit where each expected item is found among the given ones, and fits
pub side_is : (f : ℕ → Meaning) (side : Side) (d e : Entry) → IsSided d → IsSided e → side_fits f side d e ≡ each_found (fit_items f (side_items side d)) (seen_items f (side_items side e))
unfolding read
side_is f side d e hd he =
    let given : picked (slot_side side) (offered (items (row f (children d)))) ≡ fit_items f (side_items side d) =
    fit_listed (slot_side side) (items (row f (children d))) ∙ ap (map (λ (x : List ℕ × Seen). (x.0, λ (y : Seen). fits x.1 y))) (side_read f side d hd) ∙ fit_seen f (side_items side d) in
    ap (λ (l : Named (Seen → Bool)). each_found l (picked (slot_side side) (listed (items (row f (children e)))))) given
    ∙ ap (each_found (fit_items f (side_items side d))) (side_read f side e he)

-- ---- comparing

pub find_fit : (f : ℕ → Meaning) (all : Named ItemKind) (name : List ℕ) (k : ItemKind) → Some k ≡ look_up name all → look_up name (fit_items f all) ≡ Some (λ y. fits (seen (of_kind f k)) y)
find_fit f [] name k is = absurd (cc)
find_fit f (e ∷ all) name k is = go (bytes_eq name e.0) is (find_fit f all name k)
  where
    go : (b : Bool) → Some k ≡ cond b (Some e.1) (look_up name all) → (Some k ≡ look_up name all → look_up name (fit_items f all) ≡ Some (λ y. fits (seen (of_kind f k)) y))
        → cond b (Some (λ y. fits (seen (of_kind f e.1)) y)) (look_up name (fit_items f all)) ≡ Some (λ y. fits (seen (of_kind f k)) y)
    go true is later = (let same : e.1 ≡ k = cc in ap (λ (x : ItemKind). Some (λ (y : Seen). fits (seen (of_kind f x)) y)) same)
    go false is later = later is

pub find_none : (f : ℕ → Meaning) (all : Named ItemKind) (name : List ℕ) → None ≡ look_up name all → look_up name (fit_items f all) ≡ None
find_none f [] name is = refl
find_none f (e ∷ all) name is = go (bytes_eq name e.0) is (find_none f all name)
  where
    go : (b : Bool) → None ≡ cond b (Some e.1) (look_up name all) → (None ≡ look_up name all → look_up name (fit_items f all) ≡ None)
        → cond b (Some (λ y. fits (seen (of_kind f e.1)) y)) (look_up name (fit_items f all)) ≡ None
    go true is later = absurd (cc)
    go false is later = later is

-- all are found if and only if those from place k are
abbrev pub RestFound : (ℕ → Meaning) → Named ItemKind → Named ItemKind → ℕ → Type 0
RestFound f given asked k = each_found (fit_items f given) (seen_items f (drop k asked)) ≡ each_found (fit_items f given) (seen_items f asked)

here : (f : ℕ → Meaning) (given asked : Named ItemKind) (k : ℕ) (e : List ℕ × ItemKind) → slice_get asked k ≡ Some e
    → each_found (fit_items f given) (seen_items f (drop k asked)) ≡ found_fits (look_up e.0 (fit_items f given)) (seen (of_kind f e.1)) && each_found (fit_items f given) (seen_items f (drop (suc k) asked))
here f given asked k e is = ap (λ (l : Named ItemKind). each_found (fit_items f given) (seen_items f l)) (drop_some asked k e is)

pub rest_found_step : (f : ℕ → Meaning) (given asked : Named ItemKind) (k : ℕ) (e : List ℕ × ItemKind) (offer : ItemKind)
    → slice_get asked k ≡ Some e → Some offer ≡ look_up e.0 given → true ≡ fits (seen (of_kind f offer)) (seen (of_kind f e.1))
    → RestFound f given asked k → RestFound f given asked (k + 1)
rest_found_step f given asked k e offer is found fit r = rw add-one (
    let now : each_found (fit_items f given) (seen_items f (drop k asked)) ≡ each_found (fit_items f given) (seen_items f (drop (suc k) asked)) =
    here f given asked k e is
    ∙ ap (λ (o : Option (Seen → Bool)). found_fits o (seen (of_kind f e.1)) && each_found (fit_items f given) (seen_items f (drop (suc k) asked))) (find_fit f given e.0 offer found)
    ∙ ap (λ (b : Bool). b && each_found (fit_items f given) (seen_items f (drop (suc k) asked))) (sym fit) in
    sym now ∙ r)

pub item_missing : (f : ℕ → Meaning) (given asked : Named ItemKind) (k : ℕ) (e : List ℕ × ItemKind)
    → slice_get asked k ≡ Some e → None ≡ look_up e.0 given → RestFound f given asked k → each_found (fit_items f given) (seen_items f asked) ≡ false
item_missing f given asked k e is found r =
    sym r ∙ here f given asked k e is
    ∙ ap (λ (o : Option (Seen → Bool)). found_fits o (seen (of_kind f e.1)) && each_found (fit_items f given) (seen_items f (drop (suc k) asked))) (find_none f given e.0 found)

pub item_unfit : (f : ℕ → Meaning) (given asked : Named ItemKind) (k : ℕ) (e : List ℕ × ItemKind) (offer : ItemKind)
    → slice_get asked k ≡ Some e → Some offer ≡ look_up e.0 given → false ≡ fits (seen (of_kind f offer)) (seen (of_kind f e.1))
    → RestFound f given asked k → each_found (fit_items f given) (seen_items f asked) ≡ false
item_unfit f given asked k e offer is found fit r =
    sym r ∙ here f given asked k e is
    ∙ ap (λ (o : Option (Seen → Bool)). found_fits o (seen (of_kind f e.1)) && each_found (fit_items f given) (seen_items f (drop (suc k) asked))) (find_fit f given e.0 offer found)
    ∙ ap (λ (b : Bool). b && each_found (fit_items f given) (seen_items f (drop (suc k) asked))) (sym fit)

pub rest_found_end : (f : ℕ → Meaning) (given asked : Named ItemKind) (k : ℕ) → length asked ≡ k → RestFound f given asked k → each_found (fit_items f given) (seen_items f asked) ≡ true
rest_found_end f given asked k len r =
    let e : drop k asked ≡ [] = subst (λ (n : ℕ). drop n asked ≡ []) len (drop_past asked) in
    sym r ∙ ap (λ (l : Named ItemKind). each_found (fit_items f given) (seen_items f l)) e

-- ---- names

split_kinds : (P : ItemKind → Type 0) (cs ds : List (Slot × Option ItemKind)) → EachKind P (cs ++ ds) → EachKind P cs × EachKind P ds
split_kinds P [] ds h = (tt, h)
split_kinds P (c ∷ cs) ds h = let rest = split_kinds P cs ds h.1 in ((h.0, rest.0), rest.1)

exports_each : (P : ItemKind → Type 0) (es : List (String Global × ItemKind)) → EachKind P (export_children es) → AllByRecursion (λ (d : List ℕ × ItemKind). P d.1) (by_name es)
exports_each P [] h = tt
exports_each P (e ∷ es) h = (h.0, exports_each P es h.1)

imports_each : (P : ItemKind → Type 0) (es : List (String Global × ItemKind)) → EachKind P (import_children es) → AllByRecursion (λ (d : List ℕ × ItemKind). P d.1) (by_name es)
imports_each P [] h = tt
imports_each P (e ∷ es) h = (h.0, imports_each P es h.1)

-- what holds of the kinds in an entry holds of its imports and exports
pub side_each : (P : ItemKind → Type 0) (side : Side) (e : Entry) → EachKind P (children e) → AllByRecursion (λ (d : List ℕ × ItemKind). P d.1) (side_items side e)
side_each P sides.Imports (entries.Defined d) h = tt
side_each P sides.Imports (entries.Resource r) h = tt
side_each P sides.Imports (entries.Func f) h = tt
side_each P sides.Imports (entries.Interface i) h = tt
side_each P sides.Imports (entries.World w) h =
    imports_each P w.imports.entries (split_kinds P (use_children w.uses.entries) (import_children w.imports.entries) (split_kinds P (use_children w.uses.entries ++ import_children w.imports.entries) (export_children w.exports.entries) h).0).1
side_each P sides.Exports (entries.Defined d) h = tt
side_each P sides.Exports (entries.Resource r) h = tt
side_each P sides.Exports (entries.Func f) h = tt
side_each P sides.Exports (entries.Interface i) h = exports_each P i.exports.entries (split_kinds P (use_children i.uses.entries) (export_children i.exports.entries) h).1
side_each P sides.Exports (entries.World w) h =
    exports_each P w.exports.entries (split_kinds P (use_children w.uses.entries ++ import_children w.imports.entries) (export_children w.exports.entries) h).1

pub named_at : (P : ItemKind → Type 0) (all : Named ItemKind) (k : ℕ) (e : List ℕ × ItemKind) → AllByRecursion (λ (d : List ℕ × ItemKind). P d.1) all → slice_get all k ≡ Some e → P e.1
named_at P [] k e h is = absurd (cc)
named_at P (x ∷ all) zero e h is = let same : x ≡ e = cc in subst (λ (y : List ℕ × ItemKind). P y.1) same h.0
named_at P (x ∷ all) (suc k) e h is = named_at P all k e h.1 is

pub named_found : (P : ItemKind → Type 0) (all : Named ItemKind) (name : List ℕ) (k : ItemKind) → AllByRecursion (λ (d : List ℕ × ItemKind). P d.1) all → Some k ≡ look_up name all → P k
named_found P [] name k h is = absurd (cc)
named_found P (x ∷ all) name k h is = go (bytes_eq name x.0) is (named_found P all name k h.1)
  where
    go : (b : Bool) → Some k ≡ cond b (Some x.1) (look_up name all) → (Some k ≡ look_up name all → P k) → P k
    go true is later = let same : x.1 ≡ k = cc in subst P same h.0
    go false is later = later is
