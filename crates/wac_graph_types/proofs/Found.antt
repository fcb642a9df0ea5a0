-- What a table has under a name is what is read of the meaning.
use Rattle.wac_graph_types.proofs.Common.{◌≡◌, ◌∙◌, ℕ, List, [], ◌∷◌, ◌++◌, Option, Some, None, Bool, true, false, cond, refl, sym, ap, subst, slice_get, option_map, option_and_then, String, Global, bytes_eq}
use Rattle.wac_graph_types.specs.declared.kind.ItemKind.{ItemKind}
use Rattle.wac_graph_types.specs.declared.kind.ItemKind.TheVariants as kinds
use Rattle.wac_graph_types.specs.declared.kind.«Type».TheVariants as types
use Rattle.wac_graph_types.specs.declared.kind.WorldId.{WorldId}
use Rattle.wac_graph_types.specs.declared.kind.Sort.TheVariants as sorts
use Rattle.wac_graph_types.specs.declared.entry.Entry.{Entry}
use Rattle.wac_graph_types.specs.declared.entry.Entry.TheVariants as entries
use Rattle.wac_graph_types.specs.declared.entry.Interface.{Interface}
use Rattle.wac_graph_types.specs.declared.entry.World.{World}
use Rattle.wac_graph_types.specs.Entry.{Slot, sort_of, use_children, import_children, export_children}
use Rattle.wac_graph_types.specs.Meaning.{Meaning, of_kind, EachKind}
use Rattle.wac_graph_types.specs.Names.{by_name}
use Rattle.wac_graph_types.specs.Readings.{as_interface, as_world, interface_exports, world_exports, world_imports, kind_exports, instance_exports}
use Rattle.wac_graph_types.specs.Scope.{Named, look_up}
use Rattle.wac_graph_types.specs.Shape.{items_mean, IsOver, exports_of, imports_of, export_of}
use Rattle.wac_graph_types.specs.Table.{Names, ItemsNamed, EachEntryNamed}
use Rattle.wac_graph_types.proofs.Shapes.{items_found}
use Rattle.wac_graph_types.proofs.Parts as parts

is_interface : (o : Option Entry) → option_map sort_of o ≡ Some sorts.Interface → (i : Interface) × (o ≡ Some (entries.Interface i))
is_interface None h = absurd (cc)
is_interface (Some (entries.Defined d)) h = absurd (cc)
is_interface (Some (entries.Resource r)) h = absurd (cc)
is_interface (Some (entries.Func f)) h = absurd (cc)
is_interface (Some (entries.Interface i)) h = (i, refl)
is_interface (Some (entries.World w)) h = absurd (cc)

is_world : (o : Option Entry) → option_map sort_of o ≡ Some sorts.World → (w : World) × (o ≡ Some (entries.World w))
is_world None h = absurd (cc)
is_world (Some (entries.Defined d)) h = absurd (cc)
is_world (Some (entries.Resource r)) h = absurd (cc)
is_world (Some (entries.Func f)) h = absurd (cc)
is_world (Some (entries.Interface i)) h = absurd (cc)
is_world (Some (entries.World w)) h = (w, refl)

module _ (o : ℕ → ℕ) (es : List Entry) (f : ℕ → Meaning) (over : IsOver o es f) where
  pub interface_exports_mean : (n : ℕ) → option_map sort_of (slice_get es n) ≡ Some sorts.Interface → exports_of (f n) ≡ items_mean f (interface_exports es n)
  interface_exports_mean n h =
      let i = is_interface (slice_get es n) h in
      parts.interface_exports f (f n) (o n) i.0 (over n (entries.Interface i.0) i.1)
      ∙ ap (λ (x : Option Entry). items_mean f (elim (option_and_then as_interface x) [ None ↦ [] | Some y ↦ by_name y.exports.entries ])) (sym i.1)

  pub world_exports_mean : (n : ℕ) → option_map sort_of (slice_get es n) ≡ Some sorts.World → exports_of (f n) ≡ items_mean f (world_exports es n)
  world_exports_mean n h =
      let w = is_world (slice_get es n) h in
      parts.world_exports f (f n) (o n) w.0 (over n (entries.World w.0) w.1)
      ∙ ap (λ (x : Option Entry). items_mean f (elim (option_and_then as_world x) [ None ↦ [] | Some y ↦ by_name y.exports.entries ])) (sym w.1)

  pub world_imports_mean : (n : ℕ) → option_map sort_of (slice_get es n) ≡ Some sorts.World → imports_of (f n) ≡ items_mean f (world_imports es n)
  world_imports_mean n h =
      let w = is_world (slice_get es n) h in
      parts.world_imports f (f n) (o n) w.0 (over n (entries.World w.0) w.1)
      ∙ ap (λ (x : Option Entry). items_mean f (elim (option_and_then as_world x) [ None ↦ [] | Some y ↦ by_name y.imports.entries ])) (sym w.1)

  -- the export of a kind
  pub export_found : (k : ItemKind) (name : List ℕ) → Names es k → option_map (of_kind f) (look_up name (kind_exports es k)) ≡ export_of (of_kind f k) name
  export_found (kinds.Ty (types.Resource id)) name h = refl
  export_found (kinds.Ty (types.Func id)) name h = refl
  export_found (kinds.Ty (types.Value v)) name h = refl
  export_found (kinds.Ty (types.Interface id)) name h = sym (ap (look_up name) (interface_exports_mean id.0 h.1) ∙ items_found f (interface_exports es id.0) name)
  export_found (kinds.Ty (types.World id)) name h = sym (ap (look_up name) (world_exports_mean id.0 h.1) ∙ items_found f (world_exports es id.0) name)
  export_found (kinds.Ty (types.Module id)) name h = refl
  export_found (kinds.Func id) name h = refl
  export_found (kinds.Instance id) name h = sym (ap (look_up name) (interface_exports_mean id.0 h.1) ∙ items_found f (interface_exports es id.0) name)
  export_found (kinds.Component id) name h = sym (ap (look_up name) (world_exports_mean id.0 h.1) ∙ items_found f (world_exports es id.0) name)
  export_found (kinds.Module id) name h = refl
  export_found (kinds.Value v) name h = refl

  -- the import of a world
  pub import_found : (id : WorldId) (name : List ℕ) → Names es (kinds.Component id) → option_map (of_kind f) (look_up name (world_imports es id.0)) ≡ look_up name (imports_of (f id.0))
  import_found id name h = sym (ap (look_up name) (world_imports_mean id.0 h.1) ∙ items_found f (world_imports es id.0) name)

-- ---- what is found names entries of the table

exports_named : (es : List Entry) (xs : List (String Global × ItemKind)) → EachKind (Names es) (export_children xs) → ItemsNamed es (by_name xs)
exports_named es [] h = tt
exports_named es (x ∷ xs) h = (h.0, exports_named es xs h.1)

imports_named : (es : List Entry) (xs : List (String Global × ItemKind)) → EachKind (Names es) (import_children xs) → ItemsNamed es (by_name xs)
imports_named es [] h = tt
imports_named es (x ∷ xs) h = (h.0, imports_named es xs h.1)

each_left : (P : ItemKind → Type 0) (cs ds : List (Slot × Option ItemKind)) → EachKind P (cs ++ ds) → EachKind P cs
each_left P [] ds h = tt
each_left P (c ∷ cs) ds h = (h.0, each_left P cs ds h.1)

each_right : (P : ItemKind → Type 0) (cs ds : List (Slot × Option ItemKind)) → EachKind P (cs ++ ds) → EachKind P ds
each_right P [] ds h = h
each_right P (c ∷ cs) ds h = each_right P cs ds h.1

module _ (es : List Entry) (named : EachEntryNamed es) where
  pub interface_exports_named : (n : ℕ) → ItemsNamed es (interface_exports es n)
  interface_exports_named n = go (slice_get es n) refl
    where
      go : (o : Option Entry) → slice_get es n ≡ o → ItemsNamed es (elim (option_and_then as_interface o) [ None ↦ [] | Some i ↦ by_name i.exports.entries ])
      go None is = tt
      go (Some (entries.Defined d)) is = tt
      go (Some (entries.Resource r)) is = tt
      go (Some (entries.Func f)) is = tt
      go (Some (entries.Interface i)) is = exports_named es i.exports.entries (each_right (Names es) (use_children i.uses.entries) (export_children i.exports.entries) (named n (entries.Interface i) is))
      go (Some (entries.World w)) is = tt

  pub world_exports_named : (n : ℕ) → ItemsNamed es (world_exports es n)
  world_exports_named n = go (slice_get es n) refl
    where
      go : (o : Option Entry) → slice_get es n ≡ o → ItemsNamed es (elim (option_and_then as_world o) [ None ↦ [] | Some w ↦ by_name w.exports.entries ])
      go None is = tt
      go (Some (entries.Defined d)) is = tt
      go (Some (entries.Resource r)) is = tt
      go (Some (entries.Func f)) is = tt
      go (Some (entries.Interface i)) is = tt
      go (Some (entries.World w)) is = exports_named es w.exports.entries (each_right (Names es) (use_children w.uses.entries ++ import_children w.imports.entries) (export_children w.exports.entries) (named n (entries.World w) is))

  pub world_imports_named : (n : ℕ) → ItemsNamed es (world_imports es n)
  world_imports_named n = go (slice_get es n) refl
    where
      go : (o : Option Entry) → slice_get es n ≡ o → ItemsNamed es (elim (option_and_then as_world o) [ None ↦ [] | Some w ↦ by_name w.imports.entries ])
      go None is = tt
      go (Some (entries.Defined d)) is = tt
      go (Some (entries.Resource r)) is = tt
      go (Some (entries.Func f)) is = tt
      go (Some (entries.Interface i)) is = tt
      go (Some (entries.World w)) is = imports_named es w.imports.entries (each_right (Names es) (use_children w.uses.entries) (import_children w.imports.entries) (each_left (Names es) (use_children w.uses.entries ++ import_children w.imports.entries) (export_children w.exports.entries) (named n (entries.World w) is)))

  pub instance_exports_named : (k : ItemKind) → ItemsNamed es (instance_exports es k)
  instance_exports_named (kinds.Ty t) = tt
  instance_exports_named (kinds.Func id) = tt
  instance_exports_named (kinds.Instance id) = interface_exports_named id.0
  instance_exports_named (kinds.Component id) = tt
  instance_exports_named (kinds.Module id) = tt
  instance_exports_named (kinds.Value v) = tt

  pub kind_exports_named : (k : ItemKind) → ItemsNamed es (kind_exports es k)
  kind_exports_named (kinds.Ty (types.Resource id)) = tt
  kind_exports_named (kinds.Ty (types.Func id)) = tt
  kind_exports_named (kinds.Ty (types.Value v)) = tt
  kind_exports_named (kinds.Ty (types.Interface id)) = interface_exports_named id.0
  kind_exports_named (kinds.Ty (types.World id)) = world_exports_named id.0
  kind_exports_named (kinds.Ty (types.Module id)) = tt
  kind_exports_named (kinds.Func id) = tt
  kind_exports_named (kinds.Instance id) = interface_exports_named id.0
  kind_exports_named (kinds.Component id) = world_exports_named id.0
  kind_exports_named (kinds.Module id) = tt
  kind_exports_named (kinds.Value v) = tt

-- what a name finds among named kinds
pub found_named : (es : List Entry) (name : List ℕ) (all : Named ItemKind) (k : ItemKind) → ItemsNamed es all → look_up name all ≡ Some k → Names es k
found_named es name [] k h is = absurd (cc)
found_named es name (e ∷ all) k h is = go (found_named es name all k h.1) (bytes_eq name e.0) is
  where
    go : (look_up name all ≡ Some k → Names es k) → (b : Bool) → cond b (Some e.1) (look_up name all) ≡ Some k → Names es k
    go later true found = (let same : e.1 ≡ k = cc in subst (Names es) same h.0)
    go later false found = later found
