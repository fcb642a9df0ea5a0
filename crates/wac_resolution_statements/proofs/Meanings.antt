-- What a world's entry allows is what the world allows.
use Rattle.wac_resolution_statements.proofs.Common.{◌≡◌, ◌∙◌, ℕ, List, [], ◌∷◌, ◌++◌, Option, Some, None, Bool, true, false, cond, refl, sym, ap, subst, map, reverse, flat_map, option_map, option_and_then, slice_get, IfSome, String, AllByRecursion, cons_option, option_or, bytes_eq, map-append, ItemKind, InterfaceId, WorldId, Entry, UsedType, Meaning, of_kind, EachKind, by_name, as_interface, as_world, world_imports, Named, look_up, imports_of, uses_mean, items_mean, Names, ItemsNamed, EachEntryNamed, world_imports_mean, world_imports_named, found_named, items_found, Parts, means, entry_means, origin_at, EntriesMean, Numbering, used_by, uses_of_import, uses_of_world, under_id, used_under, allowed, written_id}
use Rattle.std.specs.declared.alloc.Global.{Global}
use Rattle.wac_graph_types.specs.declared.kind.ItemKind.TheVariants as kinds
use Rattle.wac_graph_types.specs.declared.kind.«Type».TheVariants as types
use Rattle.wac_graph_types.specs.declared.kind.Sort.TheVariants as sorts
use Rattle.wac_graph_types.specs.declared.entry.Entry.TheVariants as entries
use Rattle.wac_graph_types.specs.Entry.{Slot, sort_of, use_children, import_children, export_children}
use Rattle.wac_graph_types.proofs.Parts as parts
use Rattle.wac_resolution_state.proofs.NodeNames.{interface_id_is}
use Rattle.wac_resolution_statements.specs.Used.{world_uses, interface_uses, interfaces_in, import_uses, used_in, with_id, has_id, last_of, allowed_kind}
use Rattle.wac_resolution_statements.proofs.Last.{last_in, last_cons, last_one}

-- ---- what is used exists

abbrev AreInterfaces : List Entry → List InterfaceId → Type 0
AreInterfaces es all = AllByRecursion (λ i. Names es (kinds.Instance i)) all

interface_uses_named : (es : List Entry) (us : List (String Global × UsedType)) (rest : List (Slot × Option ItemKind)) → EachKind (Names es) (use_children us ++ rest) → AreInterfaces es (interfaces_in (by_name us))
interface_uses_named es [] rest h = tt
interface_uses_named es (u ∷ us) rest h = (h.0, interface_uses_named es us rest h.1)

world_uses_named : (es : List Entry) (us : List (String Global × UsedType)) (is rest : List (Slot × Option ItemKind)) → EachKind (Names es) ((use_children us ++ is) ++ rest) → AreInterfaces es (interfaces_in (by_name us))
world_uses_named es [] is rest h = tt
world_uses_named es (u ∷ us) is rest h = (h.0, world_uses_named es us is rest h.1)

both : (es : List Entry) (xs ys : List InterfaceId) → AreInterfaces es xs → AreInterfaces es ys → AreInterfaces es (xs ++ ys)
both es [] ys h k = k
both es (x ∷ xs) ys h k = (h.0, both es xs ys h.1 k)

module _ (es : List Entry) (named : EachEntryNamed es) where
  interface_named : (n : ℕ) → AreInterfaces es (interfaces_in (interface_uses es n))
  interface_named n = go (slice_get es n) refl
    where
      go : (o : Option Entry) → slice_get es n ≡ o → AreInterfaces es (interfaces_in (elim (option_and_then as_interface o) as (λ _. Named UsedType) [ None ↦ [] | Some i ↦ by_name i.uses.entries ]))
      go None is = tt
      go (Some (entries.Defined d)) is = tt
      go (Some (entries.Resource r)) is = tt
      go (Some (entries.Func f)) is = tt
      go (Some (entries.Interface i)) is = interface_uses_named es i.uses.entries (export_children i.exports.entries) (named n (entries.Interface i) is)
      go (Some (entries.World w)) is = tt

  world_named : (n : ℕ) → AreInterfaces es (interfaces_in (world_uses es n))
  world_named n = go (slice_get es n) refl
    where
      go : (o : Option Entry) → slice_get es n ≡ o → AreInterfaces es (interfaces_in (elim (option_and_then as_world o) as (λ _. Named UsedType) [ None ↦ [] | Some w ↦ by_name w.uses.entries ]))
      go None is = tt
      go (Some (entries.Defined d)) is = tt
      go (Some (entries.Resource r)) is = tt
      go (Some (entries.Func f)) is = tt
      go (Some (entries.Interface i)) is = tt
      go (Some (entries.World w)) is = world_uses_named es w.uses.entries (import_children w.imports.entries) (export_children w.exports.entries) (named n (entries.World w) is)

  import_named : (k : ItemKind) → AreInterfaces es (import_uses es k)
  import_named (kinds.Ty t) = tt
  import_named (kinds.Func id) = tt
  import_named (kinds.Instance id) = interface_named id.0
  import_named (kinds.Component id) = tt
  import_named (kinds.Module id) = tt
  import_named (kinds.Value v) = tt

  imports_named : (ks : Named ItemKind) → AreInterfaces es (flat_map (λ e. import_uses es e.1) ks)
  imports_named [] = tt
  imports_named (k ∷ ks) = both es (import_uses es k.1) (flat_map (λ (e : List ℕ × ItemKind). import_uses es e.1) ks) (import_named k.1) (imports_named ks)

  used_named : (w : ℕ) → AreInterfaces es (used_in es w)
  used_named w = both es (interfaces_in (world_uses es w)) (flat_map (λ (e : List ℕ × ItemKind). import_uses es e.1) (world_imports es w)) (world_named w) (imports_named (world_imports es w))

one_named : (es : List Entry) (i : InterfaceId) → Names es (kinds.Instance i) → (b : Bool) → IfSome (cond b (Some i) None) (λ x. Names es (kinds.Instance x))
one_named es i h true = h
one_named es i h false = tt

either_named : (es : List Entry) (a b : Option InterfaceId) → IfSome a (λ x. Names es (kinds.Instance x)) → IfSome b (λ x. Names es (kinds.Instance x)) → IfSome (option_or a b) (λ x. Names es (kinds.Instance x))
either_named es None b h k = k
either_named es (Some x) b h k = h

last_named : (es : List Entry) (name : List ℕ) (all : List InterfaceId) → AreInterfaces es all → IfSome (last_of es name all) (λ x. Names es (kinds.Instance x))
last_named es name [] h = tt
last_named es name (i ∷ all) h =
    subst (λ (o : Option InterfaceId). IfSome o (λ x. Names es (kinds.Instance x))) (sym (last_cons (with_id es) name i all))
    (either_named es (last_of es name all) (last_of es name (i ∷ [])) (last_named es name all h.1)
    (subst (λ (o : Option InterfaceId). IfSome o (λ x. Names es (kinds.Instance x))) (sym (last_one es name i)) (one_named es i h.0 (has_id es name i))))

-- what is allowed exists
pub allowed_named : (es : List Entry) (w : ℕ) (name : List ℕ) → EachEntryNamed es → IfSome (allowed_kind es w name) (Names es)
allowed_named es w name named = go (last_of es name (used_in es w)) (last_named es name (used_in es w) (used_named es named w))
  where
    own : (o : Option ItemKind) → look_up name (world_imports es w) ≡ o → IfSome o (Names es)
    own None is = tt
    own (Some k) is = found_named es name (world_imports es w) k (world_imports_named es named w) is

    go : (o : Option InterfaceId) → IfSome o (λ x. Names es (kinds.Instance x)) → IfSome (option_or (option_map (λ i. kinds.Instance i) o) (look_up name (world_imports es w))) (Names es)
    go None h = own (look_up name (world_imports es w)) refl
    go (Some i) h = h

-- ---- what is used, as it is meant

map_or : {X Y : Type 0} (f : X → Y) (a b : Option X) → option_map f (option_or a b) ≡ option_or (option_map f a) (option_map f b)
map_or f None b = refl
map_or f (Some x) b = refl

module _ (g : Parts) (law : EntriesMean g) (entries_named : EachEntryNamed g.types) (numbering : Numbering) where
  abbrev f : ℕ → Meaning
  f = entry_means numbering g

  abbrev inst : InterfaceId → Meaning
  inst i = of_kind f (kinds.Instance i)

  used_each : (us : Named UsedType) → map (λ u. u.1) (uses_mean f us) ≡ map inst (interfaces_in us)
  used_each [] = refl
  used_each (u ∷ us) = ap (λ (l : List Meaning). inst u.1.interface ∷ l) (used_each us)

  world_used : (n : ℕ) → option_map sort_of (slice_get g.types n) ≡ Some sorts.World → used_by (f n) ≡ map inst (interfaces_in (world_uses g.types n))
  world_used n = go (slice_get g.types n) refl
    where
      go : (o : Option Entry) → slice_get g.types n ≡ o → option_map sort_of o ≡ Some sorts.World
          → used_by (f n) ≡ map inst (interfaces_in (elim (option_and_then as_world o) as (λ _. Named UsedType) [ None ↦ [] | Some w ↦ by_name w.uses.entries ]))
      go None is h = absurd (cc)
      go (Some (entries.Defined d)) is h = absurd (cc)
      go (Some (entries.Resource r)) is h = absurd (cc)
      go (Some (entries.Func t)) is h = absurd (cc)
      go (Some (entries.Interface i)) is h = absurd (cc)
      go (Some (entries.World w)) is h = ap (map (λ u. u.1)) (parts.world_uses f (f n) (numbering (origin_at g n)) w (law numbering n (entries.World w) is)) ∙ used_each (by_name w.uses.entries)

  interface_used : (n : ℕ) → option_map sort_of (slice_get g.types n) ≡ Some sorts.Interface → used_by (f n) ≡ map inst (interfaces_in (interface_uses g.types n))
  interface_used n = go (slice_get g.types n) refl
    where
      go : (o : Option Entry) → slice_get g.types n ≡ o → option_map sort_of o ≡ Some sorts.Interface
          → used_by (f n) ≡ map inst (interfaces_in (elim (option_and_then as_interface o) as (λ _. Named UsedType) [ None ↦ [] | Some i ↦ by_name i.uses.entries ]))
      go None is h = absurd (cc)
      go (Some (entries.Defined d)) is h = absurd (cc)
      go (Some (entries.Resource r)) is h = absurd (cc)
      go (Some (entries.Func t)) is h = absurd (cc)
      go (Some (entries.Interface i)) is h = ap (map (λ u. u.1)) (parts.interface_uses f (f n) (numbering (origin_at g n)) i (law numbering n (entries.Interface i) is)) ∙ used_each (by_name i.uses.entries)
      go (Some (entries.World w)) is h = absurd (cc)

  import_used : (name : List ℕ) (k : ItemKind) → Names g.types k → uses_of_import (name, of_kind f k) ≡ map inst (import_uses g.types k)
  import_used name (kinds.Ty (types.Resource id)) h = refl
  import_used name (kinds.Ty (types.Func id)) h = refl
  import_used name (kinds.Ty (types.Value v)) h = refl
  import_used name (kinds.Ty (types.Interface id)) h = refl
  import_used name (kinds.Ty (types.World id)) h = refl
  import_used name (kinds.Ty (types.Module id)) h = refl
  import_used name (kinds.Func id) h = refl
  import_used name (kinds.Instance id) h = interface_used id.0 h.1
  import_used name (kinds.Component id) h = refl
  import_used name (kinds.Module id) h = refl
  import_used name (kinds.Value v) h = refl

  imports_used : (ks : Named ItemKind) → ItemsNamed g.types ks → flat_map uses_of_import (items_mean f ks) ≡ map inst (flat_map (λ e. import_uses g.types e.1) ks)
  imports_used [] h = refl
  imports_used (k ∷ ks) h =
      ap (λ (l : List Meaning). l ++ flat_map uses_of_import (items_mean f ks)) (import_used k.0 k.1 h.0)
      ∙ ap (λ (l : List Meaning). map inst (import_uses g.types k.1) ++ l) (imports_used ks h.1)
      ∙ sym (map-append inst (import_uses g.types k.1) (flat_map (λ (e : List ℕ × ItemKind). import_uses g.types e.1) ks))

  imports_mean : (w : WorldId) → Names g.types (kinds.Component w) → imports_of (f w.0) ≡ items_mean f (world_imports g.types w.0)
  imports_mean w h = world_imports_mean (λ n. numbering (origin_at g n)) g.types f (law numbering) w.0 h.1

  used_mean : (w : WorldId) → Names g.types (kinds.Component w) → uses_of_world (f w.0) ≡ map inst (used_in g.types w.0)
  used_mean w h =
      ap (λ (l : List Meaning). l ++ flat_map uses_of_import (imports_of (f w.0))) (world_used w.0 h.1)
      ∙ ap (λ (l : Named Meaning). map inst (interfaces_in (world_uses g.types w.0)) ++ flat_map uses_of_import l) (imports_mean w h)
      ∙ ap (λ (l : List Meaning). map inst (interfaces_in (world_uses g.types w.0)) ++ l) (imports_used (world_imports g.types w.0) (world_imports_named g.types entries_named w.0))
      ∙ sym (map-append inst (interfaces_in (world_uses g.types w.0)) (flat_map (λ (e : List ℕ × ItemKind). import_uses g.types e.1) (world_imports g.types w.0)))

  one_meant : (name : List ℕ) (i : InterfaceId) → Names g.types (kinds.Instance i) → last_in under_id name (inst i ∷ []) ≡ option_map inst (last_of g.types name (i ∷ []))
  one_meant name i h = ap (λ (o : Option (List ℕ)). look_up name (reverse (cons_option (option_map {U = List ℕ × Meaning} (λ id. (id, inst i)) o) []))) (interface_id_is g i law h numbering) ∙ go (written_id g.types i.0)
    where
      cases : (b : Bool) → cond b (Some (inst i)) None ≡ option_map inst (cond b (Some i) None)
      cases true = refl
      cases false = refl

      go : (o : Option (List ℕ)) → look_up name (reverse (cons_option (option_map {U = List ℕ × Meaning} (λ id. (id, inst i)) o) [])) ≡ option_map inst (look_up name (reverse (cons_option (option_map {U = List ℕ × InterfaceId} (λ id. (id, i)) o) [])))
      go None = refl
      go (Some id) = cases (bytes_eq name id)

  last_meant : (name : List ℕ) (all : List InterfaceId) → AreInterfaces g.types all → last_in under_id name (map inst all) ≡ option_map inst (last_of g.types name all)
  last_meant name [] h = refl
  last_meant name (i ∷ all) h =
      last_cons under_id name (inst i) (map inst all)
      ∙ ap (λ (o : Option Meaning). option_or o (last_in under_id name (inst i ∷ []))) (last_meant name all h.1)
      ∙ ap (option_or (option_map inst (last_of g.types name all))) (one_meant name i h.0)
      ∙ sym (map_or inst (last_of g.types name all) (last_of g.types name (i ∷ [])))
      ∙ ap (option_map inst) (sym (last_cons (with_id g.types) name i all))

  pub allowed_means : (w : WorldId) (name : List ℕ) → Names g.types (kinds.Component w) → option_map (means numbering g) (allowed_kind g.types w.0 name) ≡ allowed (f w.0) name
  allowed_means w name h =
      map_or (means numbering g) (option_map (λ i. kinds.Instance i) (last_of g.types name (used_in g.types w.0))) (look_up name (world_imports g.types w.0))
      ∙ ap (λ (o : Option Meaning). option_or o (option_map (means numbering g) (look_up name (world_imports g.types w.0)))) (through (last_of g.types name (used_in g.types w.0)))
      ∙ ap (λ (o : Option Meaning). option_or o (option_map (means numbering g) (look_up name (world_imports g.types w.0)))) (sym (last_meant name (used_in g.types w.0) (used_named g.types entries_named w.0)))
      ∙ ap (λ (l : List Meaning). option_or (last_in under_id name l) (option_map (means numbering g) (look_up name (world_imports g.types w.0)))) (sym (used_mean w h))
      ∙ ap (option_or (used_under (f w.0) name)) (sym (items_found f (world_imports g.types w.0) name) ∙ ap (look_up name) (sym (imports_mean w h)))
    where
      through : (o : Option InterfaceId) → option_map (means numbering g) (option_map (λ i. kinds.Instance i) o) ≡ option_map inst o
      through None = refl
      through (Some i) = refl
