-- The names of imports: which exist, and which one a statement means.
use Rattle.wac_resolution_statements.proofs.Common.{◌≡◌, ◌∙◌, ℕ, List, Option, Some, None, true, false, is_some, refl, sym, ap, option_map, option_and_then, slice_get, string_bytes, unwrap_or, Span, ItemKind, Meaning, of_kind, Named, look_up, entry_over, id_of, Names, Parts, entry_means, origin_at, EntriesMean, Numbering, IsSound, Error, duplicate_extern_name, IsImportedAlready, imports, Places, item_id, composition_of, imported_where}
use Rattle.wac_resolution_statements.specs.declared.externs.Externs.{Externs}
use Rattle.wac_resolution_statements.specs.Externs.{imported_in, ArePlaced}
use Rattle.wac_resolution_statements.proofs.Checks.{stands_too, fresh_too}
use Rattle.wac_graph_types.specs.declared.entry.Entry.{Entry}
use Rattle.wac_graph_types.specs.declared.entry.Entry.TheVariants as entries
use Rattle.wac_graph_types.specs.declared.entry.World.{World}
use Rattle.wac_graph_types.specs.declared.kind.ExternKind.TheVariants as sides
use Rattle.wac_graph_types.specs.declared.kind.InterfaceId.{InterfaceId}
use Rattle.wac_graph_types.specs.declared.kind.ItemKind.TheVariants as kinds
use Rattle.wac_graph_types.specs.declared.kind.Sort.TheVariants as sorts
use Rattle.wac_graph_types.specs.declared.kind.«Type».{«Type» as ItemType}
use Rattle.wac_graph_types.specs.declared.kind.«Type».TheVariants as types
use Rattle.wac_graph_types.specs.declared.kind.WorldId.{WorldId}
use Rattle.wac_graph_types.specs.Entry.{sort_of}
use Rattle.wac_graph_types.specs.Readings.{as_world}
use Rattle.wac_graph_types.proofs.Parts as parts
use Rattle.wac_resolution_statements.specs.Imports.{written_world_id, IsUnimported}

-- ---- what is imported already

none_there : {X : Type 0} (o : Option X) → is_some o ≡ false → o ≡ None
none_there None h = refl
none_there (Some x) h = absurd (cc)

some_there : {X : Type 0} (o : Option X) → is_some o ≡ true → (x : X) × (o ≡ Some x)
some_there None h = absurd (cc)
some_there (Some x) h = (x, refl)

pub unimported_yet : (g : Parts) (x : Externs) (name : List ℕ) → ArePlaced g x → IsSound g → look_up name (imported_in x) ≡ None → IsUnimported g name
unimported_yet g x name placed sound is =
    let fresh : look_up name g.imports ≡ None = fresh_too name (imported_in x) g.imports placed.imported is in
    record {
      in_graph = fresh;
      in_composition = λ numbering declared. none_there (look_up name (imports (composition_of numbering g declared))) (imported_where numbering g declared name sound ∙ ap (λ (o : Option ℕ). is_some o) fresh);
    }

pub imported_already : (g : Parts) (x : Externs) (name : List ℕ) (span : Span) (help : Option (List ℕ)) (previous : Span) (e : Error) → ArePlaced g x → IsSound g → look_up name (imported_in x) ≡ Some previous → e ≡ duplicate_extern_name sides.Import name span previous help
    → (numbering : Numbering) (declared : Named ℕ) (all : Places) → all.imported ≡ imported_in x → IsImportedAlready (composition_of numbering g declared) all name span help e
imported_already g x name span help previous e placed sound is error_is numbering declared all same =
    let there = stands_too name (imported_in x) g.imports previous placed.imported is in
    let node = some_there (look_up name (imports (composition_of numbering g declared))) (imported_where numbering g declared name sound ∙ ap (λ (o : Option ℕ). is_some o) there.1) in
    (node.0, previous, node.1, ap (look_up name) same ∙ is, error_is)

-- ---- ids of worlds

world_is : (f : ℕ → Meaning) (o : Option Entry) (m : Meaning) (origin : ℕ) → option_map sort_of o ≡ Some sorts.World → ((e : Entry) → o ≡ Some e → m ≡ entry_over f origin e)
    → id_of m ≡ option_and_then (λ (w : World). option_map string_bytes w.id) (option_and_then as_world o)
world_is f None m origin h law = absurd (cc)
world_is f (Some (entries.Defined d)) m origin h law = absurd (cc)
world_is f (Some (entries.Resource r)) m origin h law = absurd (cc)
world_is f (Some (entries.Func g)) m origin h law = absurd (cc)
world_is f (Some (entries.Interface i)) m origin h law = absurd (cc)
world_is f (Some (entries.World w)) m origin h law = parts.world_id f m origin w (law (entries.World w) refl)

pub world_id_is : (g : Parts) (w : WorldId) → EntriesMean g → Names g.types (kinds.Component w) → (numbering : Numbering) → id_of (entry_means numbering g w.0) ≡ written_world_id g.types w.0
world_id_is g w law named numbering = world_is (entry_means numbering g) (slice_get g.types w.0) (entry_means numbering g w.0) (numbering (origin_at g w.0)) named.1 (λ e at. law numbering w.0 e at)

-- what is no instance and no component has no id
pub no_id : (f : ℕ → Meaning) (k : ItemKind) → ((i : InterfaceId) → k ≡ kinds.Instance i → ⊥) → ((w : WorldId) → k ≡ kinds.Component w → ⊥) → item_id (of_kind f k) ≡ None
no_id f (kinds.Ty t) h l = none t
  where
    none : (t : ItemType) → item_id (of_kind f (kinds.Ty t)) ≡ None
    none (types.Resource id) = refl
    none (types.Func id) = refl
    none (types.Value v) = refl
    none (types.Interface id) = refl
    none (types.World id) = refl
    none (types.Module id) = refl
no_id f (kinds.Func id) h l = refl
no_id f (kinds.Instance id) h l = absurd (h id refl)
no_id f (kinds.Component id) h l = absurd (l id refl)
no_id f (kinds.Module id) h l = refl
no_id f (kinds.Value v) h l = refl

-- the id where there is one, else the other name
pub id_there : (o r : Option (List ℕ)) (id own : List ℕ) → r ≡ o → r ≡ Some id → id ≡ unwrap_or o own
id_there o r id own is some = ap (λ (x : Option (List ℕ)). unwrap_or x own) (sym some ∙ is)

pub id_missing : (o r : Option (List ℕ)) (own : List ℕ) → r ≡ o → r ≡ None → own ≡ unwrap_or o own
id_missing o r own is none = ap (λ (x : Option (List ℕ)). unwrap_or x own) (sym none ∙ is)
