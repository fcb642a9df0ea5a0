-- What is read of a meaning is what its kind says.
use Rattle.wac_graph_types.proofs.Common.{◌≡◌, ℕ, List, [], ◌∷◌, ◌++◌, Some, None, Option, Bool, true, false, cond, refl, ◌∙◌, ap, append-nil, option_map, bytes_eq}
use Rattle.wac_graph_types.specs.declared.kind.«Type».TheVariants as types
use Rattle.wac_graph_types.specs.declared.kind.ItemKind.{ItemKind}
use Rattle.wac_graph_types.specs.declared.kind.ItemKind.TheVariants as kinds
use Rattle.wac_graph_types.specs.Kind as forms
use Rattle.wac_graph_types.specs.Words as words
use Rattle.wac_graph_types.specs.Entry.{Slot}
use Rattle.wac_graph_types.specs.Meaning.{Meaning, of_kind}
use Rattle.wac_graph_types.specs.Scope.{Named, look_up}
use Rattle.wac_graph_types.specs.Shape.{form_of, described, promoted, Uses, row_from, in_slots, using, interface_entry, world_entry, exports_of, imports_of, uses_of, id_of, items_in, cons_named, slot_export, slot_import, slot_use, items_mean}

-- ---- kinds

pub form_is : (f : ℕ → Meaning) (k : ItemKind) → form_of (of_kind f k) ≡ Some (forms.form k)
form_is f k = refl

pub word_is : (f : ℕ → Meaning) (k : ItemKind) → described (of_kind f k) ≡ words.described k
word_is f (kinds.Ty (types.Resource id)) = refl
word_is f (kinds.Ty (types.Func id)) = refl
word_is f (kinds.Ty (types.Value v)) = refl
word_is f (kinds.Ty (types.Interface id)) = refl
word_is f (kinds.Ty (types.World id)) = refl
word_is f (kinds.Ty (types.Module id)) = refl
word_is f (kinds.Func id) = refl
word_is f (kinds.Instance id) = refl
word_is f (kinds.Component id) = refl
word_is f (kinds.Module id) = refl
word_is f (kinds.Value v) = refl

pub promoted_is : (f : ℕ → Meaning) (k : ItemKind) → promoted (of_kind f k) ≡ of_kind f (forms.promoted k)
promoted_is f (kinds.Ty (types.Resource id)) = refl
promoted_is f (kinds.Ty (types.Func id)) = refl
promoted_is f (kinds.Ty (types.Value v)) = refl
promoted_is f (kinds.Ty (types.Interface id)) = refl
promoted_is f (kinds.Ty (types.World id)) = refl
promoted_is f (kinds.Ty (types.Module id)) = refl
promoted_is f (kinds.Func id) = refl
promoted_is f (kinds.Instance id) = refl
promoted_is f (kinds.Component id) = refl
promoted_is f (kinds.Module id) = refl
promoted_is f (kinds.Value v) = refl

-- what a name finds among kinds, it finds among their meanings
pub items_found : (f : ℕ → Meaning) (all : Named ItemKind) (name : List ℕ) → look_up name (items_mean f all) ≡ option_map (of_kind f) (look_up name all)
items_found f [] name = refl
items_found f (e ∷ all) name = go (items_found f all name) (bytes_eq name e.0)
  where
    go : look_up name (items_mean f all) ≡ option_map (of_kind f) (look_up name all) → (b : Bool)
        → cond b (Some (of_kind f e.1)) (look_up name (items_mean f all)) ≡ option_map (of_kind f) (cond b (Some e.1) (look_up name all))
    go later true = refl
    go later false = later

-- ---- what is put in is read back

pub cons_append : {X Y : Type 0} (o : Option X) (m : Y) (xs ys : List (X × Y)) → cons_named o m (xs ++ ys) ≡ cons_named o m xs ++ ys
cons_append None m xs ys = refl
cons_append (Some x) m xs ys = refl

items_append : {X : Type 0} (pick : Slot → Option X) (cs ds : List (Slot × Meaning)) → items_in pick (row_from (cs ++ ds)) ≡ items_in pick (row_from cs) ++ items_in pick (row_from ds)
items_append pick [] ds = refl
items_append pick (c ∷ cs) ds = ap (cons_named (pick c.0) c.1) (items_append pick cs ds) ∙ cons_append (pick c.0) c.1 (items_in pick (row_from cs)) (items_in pick (row_from ds))

pub exports_back : (es : Named Meaning) → items_in slot_export (row_from (in_slots Slot.export es)) ≡ es
exports_back [] = refl
exports_back (e ∷ es) = ap (λ l. e ∷ l) (exports_back es)

imports_back : (es : Named Meaning) → items_in slot_import (row_from (in_slots Slot.import es)) ≡ es
imports_back [] = refl
imports_back (e ∷ es) = ap (λ l. e ∷ l) (imports_back es)

uses_back : (us : Uses) → items_in slot_use (row_from (using us)) ≡ us
uses_back [] = refl
uses_back (u ∷ us) = ap (λ l. u ∷ l) (uses_back us)

no_export_in_imports : (es : Named Meaning) → items_in slot_export (row_from (in_slots Slot.import es)) ≡ []
no_export_in_imports [] = refl
no_export_in_imports (e ∷ es) = no_export_in_imports es

no_import_in_exports : (es : Named Meaning) → items_in slot_import (row_from (in_slots Slot.export es)) ≡ []
no_import_in_exports [] = refl
no_import_in_exports (e ∷ es) = no_import_in_exports es

no_use_in_exports : (es : Named Meaning) → items_in slot_use (row_from (in_slots Slot.export es)) ≡ []
no_use_in_exports [] = refl
no_use_in_exports (e ∷ es) = no_use_in_exports es

no_use_in_imports : (es : Named Meaning) → items_in slot_use (row_from (in_slots Slot.import es)) ≡ []
no_use_in_imports [] = refl
no_use_in_imports (e ∷ es) = no_use_in_imports es

no_export_in_uses : (us : Uses) → items_in slot_export (row_from (using us)) ≡ []
no_export_in_uses [] = refl
no_export_in_uses (u ∷ us) = no_export_in_uses us

no_import_in_uses : (us : Uses) → items_in slot_import (row_from (using us)) ≡ []
no_import_in_uses [] = refl
no_import_in_uses (u ∷ us) = no_import_in_uses us

-- the rows of a list after another, where the first has nothing of the sort
after_none : {X : Type 0} (pick : Slot → Option X) (cs ds : List (Slot × Meaning)) (all : List (X × Meaning)) → items_in pick (row_from cs) ≡ [] → items_in pick (row_from ds) ≡ all → items_in pick (row_from (cs ++ ds)) ≡ all
after_none pick cs ds all p q = items_append pick cs ds ∙ ap (λ l. l ++ items_in pick (row_from ds)) p ∙ q

-- the same, where the second has nothing of the sort
before_none : {X : Type 0} (pick : Slot → Option X) (cs ds : List (Slot × Meaning)) (all : List (X × Meaning)) → items_in pick (row_from cs) ≡ all → items_in pick (row_from ds) ≡ [] → items_in pick (row_from (cs ++ ds)) ≡ all
before_none {X} pick cs ds all p q =
    let nil : items_in pick (row_from cs) ++ [] ≡ items_in pick (row_from cs) = simp append-nil in
    items_append pick cs ds ∙ ap (λ (l : List (X × Meaning)). items_in pick (row_from cs) ++ l) q ∙ nil ∙ p

pub interface_id_back : (id : Option (List ℕ)) (us : Uses) (es : Named Meaning) → id_of (interface_entry id us es) ≡ id
interface_id_back id us es = refl

pub interface_uses_back : (id : Option (List ℕ)) (us : Uses) (es : Named Meaning) → uses_of (interface_entry id us es) ≡ us
interface_uses_back id us es = before_none slot_use (using us) (in_slots Slot.export es) us (uses_back us) (no_use_in_exports es)

pub interface_exports_back : (id : Option (List ℕ)) (us : Uses) (es : Named Meaning) → exports_of (interface_entry id us es) ≡ es
interface_exports_back id us es = after_none slot_export (using us) (in_slots Slot.export es) es (no_export_in_uses us) (exports_back es)

pub world_id_back : (id : Option (List ℕ)) (us : Uses) (is es : Named Meaning) → id_of (world_entry id us is es) ≡ id
world_id_back id us is es = refl

pub world_uses_back : (id : Option (List ℕ)) (us : Uses) (is es : Named Meaning) → uses_of (world_entry id us is es) ≡ us
world_uses_back id us is es = before_none slot_use (using us ++ in_slots Slot.import is) (in_slots Slot.export es) us (before_none slot_use (using us) (in_slots Slot.import is) us (uses_back us) (no_use_in_imports is)) (no_use_in_exports es)

pub world_exports_back : (id : Option (List ℕ)) (us : Uses) (is es : Named Meaning) → exports_of (world_entry id us is es) ≡ es
world_exports_back id us is es = after_none slot_export (using us ++ in_slots Slot.import is) (in_slots Slot.export es) es (after_none slot_export (using us) (in_slots Slot.import is) [] (no_export_in_uses us) (no_export_in_imports is)) (exports_back es)

pub world_imports_back : (id : Option (List ℕ)) (us : Uses) (is es : Named Meaning) → imports_of (world_entry id us is es) ≡ is
world_imports_back id us is es = before_none slot_import (using us ++ in_slots Slot.import is) (in_slots Slot.export es) is (after_none slot_import (using us) (in_slots Slot.import is) is (no_import_in_uses us) (imports_back is)) (no_import_in_exports es)
