-- What stays as a graph gets more types and packages.
use Rattle.wac_resolution_state.proofs.Common.{◌≡◌, ◌∙◌, ◌⊎◌, inl, inr, ◌≤◌, ◌<◌, ◌-◌, ℕ, List, [], ◌∷◌, Some, None, length, get_or, refl, sym, ap, subst, arith, slice_get, option_map, AllByRecursion, slice_get_cases, ItemKind, KeepsNames, Meaning, PackageParts, Named, Names, ItemsNamed, Parts, means, Numbering, Key, HeldPackage, IsHeld, Contents, contents_in, all_implies}
use Rattle.wac_resolution_state.specs.Named.{scope_of}
use Rattle.wac_graph_types.specs.declared.kind.ItemKind.TheVariants as kinds
use Rattle.wac_graph_types.specs.declared.kind.«Type».TheVariants as types
use Rattle.wac_graph_types.specs.declared.kind.ValueType.TheVariants as values
use Rattle.wac_graph_types.specs.declared.entry.Entry.{Entry}
use Rattle.wac_graph_types.specs.declared.entry.Entry.TheVariants as entries
use Rattle.wac_graph_types.specs.Entry.{sort_of}
use Rattle.wac_resolution_state.specs.Growth.{Grows}
use Rattle.wac_resolution_state.specs.Expands.{Expands, IsSuppliedAs, AllSupplied}

pub expands_self : (g : Parts) → Expands g g
expands_self g = record { same = refl; held = λ i p h. h; named = λ k h. h; kinds = λ numbering k h. refl }

pub expands_on : (a b c : Parts) → Expands a b → Expands b c → Expands a c
expands_on a b c p q = record {
  same = q.same ∙ ap (λ (g : Parts). record g { types = c.types; packages = c.packages }) p.same;
  held = λ i h is. q.held i h (p.held i h is);
  named = λ k h. q.named k (p.named k h);
  kinds = λ numbering k h. q.kinds numbering k (p.named k h) ∙ p.kinds numbering k h;
}

pub grows_packages : (old new : Parts) → Grows old new → new.packages ≡ old.packages
grows_packages old new g = ap (λ (x : Parts). x.packages) g.same

pub grows_expands : (old new : Parts) → Grows old new → Expands old new
grows_expands old new g = record {
  same = g.same ∙ ap (λ (ps : List HeldPackage). record old { types = new.types; packages = ps }) (sym (grows_packages old new g));
  held = λ i p is. subst (λ (ps : List HeldPackage). slice_get ps i ≡ Some p) (sym (grows_packages old new g)) is;
  named = g.named;
  kinds = g.kinds;
}

-- ---- named kinds

pub items_expanded : (old new : Parts) (ks : Named ItemKind) → Expands old new → ItemsNamed old.types ks → ItemsNamed new.types ks
items_expanded old new [] e h = tt
items_expanded old new (k ∷ ks) e h = (e.named k.1 h.0, items_expanded old new ks e h.1)

-- named kinds still mean the same
pub scope_expanded : (old new : Parts) (ks : Named ItemKind) (numbering : Numbering) → Expands old new → ItemsNamed old.types ks → scope_of numbering new ks ≡ scope_of numbering old ks
scope_expanded old new [] numbering e h = refl
scope_expanded old new (k ∷ ks) numbering e h =
    let one : means numbering new k.1 ≡ means numbering old k.1 = e.kinds numbering k.1 h.0 in
    let rest : scope_of numbering new ks ≡ scope_of numbering old ks = scope_expanded old new ks numbering e h.1 in
    cc

-- ---- the length of the table

-- a kind that names an entry
kind_at : Entry → ℕ → ItemKind
kind_at (entries.Defined d) i = kinds.Value (values.Defined (record { 0 = i }))
kind_at (entries.Resource r) i = kinds.Ty (types.Resource (record { 0 = i }))
kind_at (entries.Func f) i = kinds.Func (record { 0 = i })
kind_at (entries.Interface x) i = kinds.Instance (record { 0 = i })
kind_at (entries.World w) i = kinds.Component (record { 0 = i })

names_entry : (es : List Entry) (i : ℕ) (e : Entry) → i < length es → slice_get es i ≡ Some e → Names es (kind_at e i)
unfolding kind_at
names_entry es i (entries.Defined d) within is = (within, ap (option_map sort_of) is)
names_entry es i (entries.Resource r) within is = (within, ap (option_map sort_of) is)
names_entry es i (entries.Func f) within is = (within, ap (option_map sort_of) is)
names_entry es i (entries.Interface x) within is = (within, ap (option_map sort_of) is)
names_entry es i (entries.World w) within is = (within, ap (option_map sort_of) is)

entry_within : (es : List Entry) (i : ℕ) (e : Entry) → Names es (kind_at e i) → i < length es
unfolding kind_at
entry_within es i (entries.Defined d) h = h.0
entry_within es i (entries.Resource r) h = h.0
entry_within es i (entries.Func f) h = h.0
entry_within es i (entries.Interface x) h = h.0
entry_within es i (entries.World w) h = h.0

-- a table that keeps names is no shorter
pub length_kept : (old new : List Entry) → KeepsNames old new → length old ≤ length new
length_kept old new keeps = go (slice_get_cases old (length old - 1)).1
  where
    go : ((e : Entry) × (length old - 1 < length old) × (slice_get old (length old - 1) ≡ Some e) × (get_or old (length old - 1) e ≡ e)) ⊎ ((length old ≤ length old - 1) × (slice_get old (length old - 1) ≡ None)) → length old ≤ length new
    go (inl p) =
        let within : length old - 1 < length new = entry_within new (length old - 1) p.0 (keeps (kind_at p.0 (length old - 1)) (names_entry old (length old - 1) p.0 p.1 p.2)) in
        omega arith
    go (inr p) = let none : length old ≤ length old - 1 = p.0 in omega arith

-- ---- packages

contents : (a b : Contents) → a.world ≡ b.world → a.instance ≡ b.instance → a.definitions ≡ b.definitions → a ≡ b
contents a b w i d =
    ap (λ (m : Meaning). record { world = m; instance = a.instance; definitions = a.definitions }) w
    ∙ ap (λ (m : Meaning). record { world = b.world; instance = m; definitions = a.definitions }) i
    ∙ ap (λ (l : Named Meaning). record { world = b.world; instance = b.instance; definitions = l }) d

-- a package still has the same contents
pub contents_expanded : (old new : Parts) (p : HeldPackage) (numbering : Numbering) → Expands old new → IsHeld old.types p → contents_in numbering new p ≡ contents_in numbering old p
contents_expanded old new p numbering e h = contents _ _
    (e.kinds numbering (kinds.Component p.world) h.of_world)
    (e.kinds numbering (kinds.Instance p.instance) h.of_instance)
    (scope_expanded old new p.definitions numbering e h.of_definitions)

pub held_expanded : (old new : Parts) (p : HeldPackage) → Expands old new → IsHeld old.types p → IsHeld new.types p
held_expanded old new p e h = record {
  of_range = omega (arith, h.of_range, length_kept old.types new.types e.named);
  of_world = e.named (kinds.Component p.world) h.of_world;
  of_instance = e.named (kinds.Instance p.instance) h.of_instance;
  of_definitions = items_expanded old new p.definitions e h.of_definitions;
}

pub supplied_expanded : (packages : List (Key × PackageParts)) (old new : Parts) → Expands old new → (p : HeldPackage) → IsSuppliedAs packages old p → IsSuppliedAs packages new p
supplied_expanded packages old new e p h = record {
  there = held_expanded old new p e h.there;
  contents = λ numbering. h.contents numbering ∙ ap Some (sym (contents_expanded old new p numbering e h.there));
}

-- where no package is added, each that is held is still held as it was supplied
pub supplied_kept : (packages : List (Key × PackageParts)) (old new : Parts) → Expands old new → new.packages ≡ old.packages → AllSupplied packages old → AllSupplied packages new
supplied_kept packages old new e same h =
    subst (AllByRecursion (IsSuppliedAs packages new)) (sym same) (all_implies (IsSuppliedAs packages old) (IsSuppliedAs packages new) (supplied_expanded packages old new e) old.packages h)

pub supplied_grown : (packages : List (Key × PackageParts)) (old new : Parts) → Grows old new → AllSupplied packages old → AllSupplied packages new
supplied_grown packages old new g h = supplied_kept packages old new (grows_expands old new g) (grows_packages old new g) h
