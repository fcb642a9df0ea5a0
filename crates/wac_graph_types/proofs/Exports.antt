-- An interface or world of a table has exports that name earlier entries.
use Rattle.wac_graph_types.proofs.Common.{◌≡◌, ◌<◌, ◌++◌, ℕ, zero, suc, List, [], ◌∷◌, length, arith, rules, Option, Some, None, Bool, sym, ap, ◌∙◌, slice_get, option_map, option_and_then, IsSome, IsTrue, ◌↔◌, String, Global}
use Rattle.wac_graph_types.specs.declared.kind.ItemKind.{ItemKind}
use Rattle.wac_graph_types.specs.declared.kind.Sort.TheVariants as sorts
use Rattle.wac_graph_types.specs.declared.entry.Entry.{Entry}
use Rattle.wac_graph_types.specs.declared.entry.Entry.TheVariants as entries
use Rattle.wac_graph_types.specs.declared.entry.Interface.{Interface}
use Rattle.wac_graph_types.specs.declared.entry.World.{World}
use Rattle.wac_graph_types.specs.Entry.{Slot, sort_of, use_children, import_children, export_children}
use Rattle.wac_graph_types.specs.Readings.{as_interface, as_world}
use Rattle.wac_graph_types.specs.Meaning.{ChildrenBefore, IsEarlier}
use Rattle.wac_graph_types.specs.Meaning.{Meaning, row, meaning_at, IsOneToOne}
use Rattle.wac_graph_types.specs.Names.{by_name}
use Rattle.wac_graph_types.specs.Package.{SameExports, OtherExports}
use Rattle.wac_graph_types.specs.Readings.{interface_exports, world_exports}
use Rattle.wac_graph_types.specs.Scope.{Named}
use Rattle.wac_graph_types.specs.Shape.{items_mean, items_in, slot_export, row_from, in_slots}
use Rattle.wac_graph_types.specs.declared.kind.InterfaceId.{InterfaceId}
use Rattle.wac_graph_types.specs.declared.kind.WorldId.{WorldId}
use Rattle.wac_graph_types.proofs.Parts.{exports_row, exports_read}
use Rattle.wac_graph_types.proofs.Rows.{earlier_from, before_more}

some_within : {X : Type 0} (xs : List X) (n : ℕ) (x : X) → slice_get xs n ≡ Some x → n < length xs
some_within [] n x is = absurd (cc)
some_within (y ∷ xs) zero x is = omega arith
some_within (y ∷ xs) (suc n) x is = (let h = some_within xs n x is in omega arith)

all_before_more : (i n : ℕ) (cs : List (Slot × Option ItemKind)) → i < n → ChildrenBefore i cs → ChildrenBefore n cs
all_before_more i n [] le h = tt
all_before_more i n (c ∷ cs) le h = (before_more i n c.1 le h.0, all_before_more i n cs le h.1)

each_right : (n : ℕ) (xs ys : List (Slot × Option ItemKind)) → ChildrenBefore n (xs ++ ys) → ChildrenBefore n ys
each_right n [] ys h = h
each_right n (x ∷ xs) ys h = each_right n xs ys h.1

pub interface_exports_before : (es : List Entry) (n : ℕ) (i : Interface) → IsEarlier es → slice_get es n ≡ Some (entries.Interface i) → ChildrenBefore (length es) (export_children i.exports.entries)
interface_exports_before es n i h is =
    all_before_more n (length es) (export_children i.exports.entries) (some_within es n (entries.Interface i) is)
    (each_right n (use_children i.uses.entries) (export_children i.exports.entries) (earlier_from 0 n es n (entries.Interface i) (omega arith) h is))

pub world_exports_before : (es : List Entry) (n : ℕ) (w : World) → IsEarlier es → slice_get es n ≡ Some (entries.World w) → ChildrenBefore (length es) (export_children w.exports.entries)
world_exports_before es n w h is =
    all_before_more n (length es) (export_children w.exports.entries) (some_within es n (entries.World w) is)
    (each_right n (use_children w.uses.entries ++ import_children w.imports.entries) (export_children w.exports.entries)
    ((earlier_from 0 n es n (entries.World w) (omega arith) h is)))

interface_is : (o : Option Entry) (i : Interface) → option_and_then as_interface o ≡ Some i → o ≡ Some (entries.Interface i)
interface_is None i h = absurd (cc)
interface_is (Some (entries.Defined d)) i h = absurd (cc)
interface_is (Some (entries.Resource r)) i h = absurd (cc)
interface_is (Some (entries.Func f)) i h = absurd (cc)
interface_is (Some (entries.Interface j)) i h = cc
interface_is (Some (entries.World w)) i h = absurd (cc)

world_is : (o : Option Entry) (w : World) → option_and_then as_world o ≡ Some w → o ≡ Some (entries.World w)
world_is None w h = absurd (cc)
world_is (Some (entries.Defined d)) w h = absurd (cc)
world_is (Some (entries.Resource r)) w h = absurd (cc)
world_is (Some (entries.Func f)) w h = absurd (cc)
world_is (Some (entries.Interface i)) w h = absurd (cc)
world_is (Some (entries.World v)) w h = cc

pub read_interface_before : (es : List Entry) (n : ℕ) (i : Interface) → IsEarlier es → option_and_then as_interface (slice_get es n) ≡ Some i → ChildrenBefore (length es) (export_children i.exports.entries)
read_interface_before es n i h is = interface_exports_before es n i h (interface_is (slice_get es n) i is)

pub read_world_before : (es : List Entry) (n : ℕ) (w : World) → IsEarlier es → option_and_then as_world (slice_get es n) ≡ Some w → ChildrenBefore (length es) (export_children w.exports.entries)
read_world_before es n w h is = world_exports_before es n w h (world_is (slice_get es n) w is)

pub interface_there : (o : Option Entry) → option_map sort_of o ≡ Some sorts.Interface → IsSome (option_and_then as_interface o)
interface_there None h = absurd (cc)
interface_there (Some (entries.Defined d)) h = absurd (cc)
interface_there (Some (entries.Resource r)) h = absurd (cc)
interface_there (Some (entries.Func f)) h = absurd (cc)
interface_there (Some (entries.Interface i)) h = search rules
interface_there (Some (entries.World w)) h = absurd (cc)

pub world_there : (o : Option Entry) → option_map sort_of o ≡ Some sorts.World → IsSome (option_and_then as_world o)
world_there None h = absurd (cc)
world_there (Some (entries.Defined d)) h = absurd (cc)
world_there (Some (entries.Resource r)) h = absurd (cc)
world_there (Some (entries.Func f)) h = absurd (cc)
world_there (Some (entries.Interface i)) h = absurd (cc)
world_there (Some (entries.World w)) h = search rules

-- a map that is read of what is found, or nothing
pub read_map : {E M : Type 0} (f : E → M) (g : M → List (String Global × ItemKind)) (o : Option E) (m : M) → Some m ≡ option_map f o → by_name (g m) ≡ elim o [ None ↦ [] | Some x ↦ by_name (g (f x)) ]
read_map f g None m h = absurd (cc)
read_map f g (Some x) m h = (let same : m ≡ f x = cc in ap (λ y. by_name (g y)) same)

-- the rows of two maps of exports are equal if and only if the maps' names and meanings are
rows_agree : (f : ℕ → Meaning) (xs ys : List (String Global × ItemKind)) → row f (export_children xs) ≡ row f (export_children ys) → items_mean f (by_name xs) ≡ items_mean f (by_name ys)
rows_agree f xs ys h = sym (exports_read f xs) ∙ ap (items_in slot_export) h ∙ exports_read f ys

items_agree : (f : ℕ → Meaning) (xs ys : List (String Global × ItemKind)) → items_mean f (by_name xs) ≡ items_mean f (by_name ys) → row f (export_children xs) ≡ row f (export_children ys)
items_agree f xs ys h = exports_row f xs ∙ ap (λ (l : Named Meaning). row_from (in_slots Slot.export l)) h ∙ sym (exports_row f ys)

module _ (es : List Entry) (world : WorldId) (instance : InterfaceId) (first second : List (String Global × ItemKind)) (r : Bool)
    (one : by_name first ≡ interface_exports es instance.0) (two : by_name second ≡ world_exports es world.0)
    (decided : (o : ℕ → ℕ) → IsOneToOne es o → (IsTrue r ↔ (row (meaning_at o es) (export_children first) ≡ row (meaning_at o es) (export_children second)))) where
  pub exports_same : IsTrue r → SameExports es world instance
  exports_same t o apart =
      ap (items_mean (meaning_at o es)) (sym one) ∙ rows_agree (meaning_at o es) first second ((decided o apart).0 t) ∙ ap (items_mean (meaning_at o es)) two

  pub exports_other : (IsTrue r → ⊥) → OtherExports es world instance
  exports_other deny o apart agree =
      deny ((decided o apart).1 (items_agree (meaning_at o es) first second (ap (items_mean (meaning_at o es)) one ∙ agree ∙ ap (items_mean (meaning_at o es)) (sym two))))
