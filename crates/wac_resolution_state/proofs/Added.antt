-- What is added to the types of a graph.
use Rattle.wac_resolution_state.proofs.Common.{◌≡◌, ◌∙◌, ℕ, List, [], ◌∷◌, Option, Some, None, refl, sym, ap, subst, arith, slice_get, option_map, option_and_then, string_bytes, IfSome, ResourceId, children, sort_of, alias_children, Meaning, node, row, of_child, EachKind, Names, EachEntryNamed, Parts, entry_means, declared_count, origin_at, EntriesMean, Numbering, declared}
use Rattle.wac_graph_types.specs.declared.kind.ItemKind.TheVariants as kinds
use Rattle.wac_graph_types.specs.declared.kind.«Type».TheVariants as types
use Rattle.wac_graph_types.specs.declared.kind.ValueType.TheVariants as values
use Rattle.wac_graph_types.specs.declared.kind.Sort.TheVariants as sorts
use Rattle.wac_graph_types.specs.declared.kind.DefinedTypeId.{DefinedTypeId}
use Rattle.wac_graph_types.specs.declared.kind.FuncTypeId.{FuncTypeId}
use Rattle.wac_graph_types.specs.declared.kind.InterfaceId.{InterfaceId}
use Rattle.wac_graph_types.specs.declared.kind.WorldId.{WorldId}
use Rattle.wac_graph_types.specs.declared.entry.Entry.{Entry}
use Rattle.wac_graph_types.specs.declared.entry.Entry.TheVariants as entries
use Rattle.wac_graph_types.specs.declared.entry.DefinedType.{DefinedType}
use Rattle.wac_graph_types.specs.declared.entry.FuncType.{FuncType}
use Rattle.wac_graph_types.specs.declared.entry.Interface.{Interface}
use Rattle.wac_graph_types.specs.declared.entry.World.{World}
use Rattle.wac_graph_types.specs.declared.entry.Resource.{Resource}
use Rattle.wac_graph_types.specs.declared.entry.ResourceAlias.{ResourceAlias}
use Rattle.wac_graph_types.specs.Kind.{value, defined}
use Rattle.wac_graph_types.specs.Label.{resource}
use Rattle.wac_graph_types.specs.Names.{by_name}
use Rattle.wac_graph_types.specs.Readings.{as_resource}
use Rattle.wac_graph_types.specs.Shape.{kind_of, entry_over, owner_of, func_entry, interface_entry, world_entry, results_mean, values_mean, items_mean, uses_mean}
use Rattle.wac_graph_types.proofs.Parts.{defined_is, func_is, interface_is, world_is}
use Rattle.wac_graph.specs.Adds.{Adds}
use Rattle.wac_graph.specs.Resources.{resource_entry, alias_entry}
use Rattle.wac_resolution_state.specs.Growth.{Grows, AddsDefined, AddsFunc, AddsInterface, AddsWorld, AddsResource}

added_grows : (old new : Parts) (e : Entry) (id : ℕ) → Adds old new e id → Grows old new
added_grows old new e id a = record {
  same = a.is ∙ ap (λ (l : List Entry). record old { types = l }) (sym (ap (λ (g : Parts). g.types) a.is));
  named = a.names;
  kinds = λ numbering k h. a.kinds numbering k h.0;
}

-- the new entry, over what the old graph means
added_means : (old new : Parts) (e : Entry) (id : ℕ) → Adds old new e id → (numbering : Numbering) → entry_means numbering new id ≡ entry_over (entry_means numbering old) (numbering (declared (declared_count old))) e
added_means old new e id a numbering = ap (entry_means numbering new) a.number ∙ a.means numbering

pub adds_defined : (old new : Parts) (d : DefinedType) (id : DefinedTypeId) → Adds old new (entries.Defined d) id.0 → Names new.types (kinds.Value (values.Defined id)) → AddsDefined old new d (values.Defined id)
adds_defined old new d id a there = record {
  grows = record { grows = added_grows old new (entries.Defined d) id.0 a; count = omega (arith, a.count) };
  named = there;
  is = λ numbering. ap (kind_of (value defined)) (added_means old new (entries.Defined d) id.0 a numbering ∙ defined_is (entry_means numbering old) (numbering (declared (declared_count old))) d);
}

pub adds_func : (old new : Parts) (f : FuncType) (id : FuncTypeId) → Adds old new (entries.Func f) id.0 → Names new.types (kinds.Func id)
    → AddsFunc old new (λ numbering. func_entry f.is_async (results_mean (entry_means numbering old) f.results) (values_mean (entry_means numbering old) (by_name f.params.entries))) id
adds_func old new f id a there = record {
  grows = record { grows = added_grows old new (entries.Func f) id.0 a; count = omega (arith, a.count) };
  named = there;
  is = λ numbering. added_means old new (entries.Func f) id.0 a numbering ∙ func_is (entry_means numbering old) (numbering (declared (declared_count old))) f;
}

pub adds_interface : (old new : Parts) (i : Interface) (id : InterfaceId) → Adds old new (entries.Interface i) id.0 → Names new.types (kinds.Instance id)
    → AddsInterface old new (λ numbering. interface_entry (option_map string_bytes i.id) (uses_mean (entry_means numbering old) (by_name i.uses.entries)) (items_mean (entry_means numbering old) (by_name i.exports.entries))) id
adds_interface old new i id a there = record {
  grows = record { grows = added_grows old new (entries.Interface i) id.0 a; count = omega (arith, a.count) };
  named = there;
  is = λ numbering. added_means old new (entries.Interface i) id.0 a numbering ∙ interface_is (entry_means numbering old) (numbering (declared (declared_count old))) i;
}

pub adds_world : (old new : Parts) (w : World) (id : WorldId) → Adds old new (entries.World w) id.0 → Names new.types (kinds.Component id)
    → AddsWorld old new (λ numbering. world_entry (option_map string_bytes w.id) (uses_mean (entry_means numbering old) (by_name w.uses.entries)) (items_mean (entry_means numbering old) (by_name w.imports.entries)) (items_mean (entry_means numbering old) (by_name w.exports.entries))) id
adds_world old new w id a there = record {
  grows = record { grows = added_grows old new (entries.World w) id.0 a; count = omega (arith, a.count) };
  named = there;
  is = λ numbering. added_means old new (entries.World w) id.0 a numbering ∙ world_is (entry_means numbering old) (numbering (declared (declared_count old))) w;
}

pub adds_resource : (old new : Parts) (r : Resource) (name : List ℕ) (id : ResourceId) → r.alias ≡ None → string_bytes r.name ≡ name → Adds old new (entries.Resource r) id.0 → Names new.types (kinds.Ty (types.Resource id))
    → AddsResource old new (λ numbering. resource_entry numbering (declared_count old) name) id
adds_resource old new r name id alone named a there = record {
  grows = added_grows old new (entries.Resource r) id.0 a;
  count = omega (arith, a.count);
  named = there;
  is = λ numbering. added_means old new (entries.Resource r) id.0 a numbering
      ∙ ap (λ (n : List ℕ). node (resource (numbering (declared (declared_count old))) n) (row (entry_means numbering old) (alias_children r.alias))) named
      ∙ ap (λ (x : Option ResourceAlias). node (resource (numbering (declared (declared_count old))) name) (row (entry_means numbering old) (alias_children x))) alone;
}

-- ---- aliases of resources

pub adds_alias : (old new : Parts) (r : Resource) (name : List ℕ) (from : ResourceId) (owner : Option InterfaceId) (id : ResourceId) → r.alias ≡ Some (record { owner = owner; source = from }) → string_bytes r.name ≡ name
    → ((numbering : Numbering) → of_child (entry_means numbering old) (option_map (λ i. kinds.Instance i) owner) ≡ owner_of (entry_means numbering old from.0))
    → Adds old new (entries.Resource r) id.0 → Names new.types (kinds.Ty (types.Resource id))
    → AddsResource old new (λ numbering. alias_entry numbering (declared_count old) name (entry_means numbering old from.0)) id
adds_alias old new r name from owner id alias named owned a there = record {
  grows = added_grows old new (entries.Resource r) id.0 a;
  count = omega (arith, a.count);
  named = there;
  is = λ numbering.
      let f : ℕ → Meaning = entry_means numbering old in
      let origin : ℕ = numbering (declared (declared_count old)) in
      added_means old new (entries.Resource r) id.0 a numbering
      ∙ ap (λ (n : List ℕ). node (resource origin n) (row f (alias_children r.alias))) named
      ∙ ap (λ (x : Option ResourceAlias). node (resource origin name) (row f (alias_children x))) alias
      ∙ ap (λ (m : Meaning). node (resource origin name) (Rattle.wac_graph_types.specs.Meaning.Row.more Rattle.wac_graph_types.specs.Entry.Slot.owner m (row f ((Rattle.wac_graph_types.specs.Entry.Slot.source, Some (kinds.Ty (types.Resource from))) ∷ [])))) (owned numbering);
}

pub alias_kinds : (ts : List Entry) (x : Option ResourceAlias) (owner : Option InterfaceId) (from : ResourceId) → x ≡ Some (record { owner = owner; source = from })
    → IfSome (option_map (λ i. kinds.Instance i) owner) (Names ts) → Names ts (kinds.Ty (types.Resource from)) → EachKind (Names ts) (alias_children x)
alias_kinds ts x owner from is there here = subst (λ (y : Option ResourceAlias). EachKind (Names ts) (alias_children y)) (sym is) (there, (here, tt))

-- an entry of a resource's sort is a resource
is_resource : (o : Option Entry) → option_map sort_of o ≡ Some sorts.Resource → (r : Resource) × (o ≡ Some (entries.Resource r))
is_resource None h = absurd (cc)
is_resource (Some (entries.Defined d)) h = absurd (cc)
is_resource (Some (entries.Resource r)) h = (r, refl)
is_resource (Some (entries.Func f)) h = absurd (cc)
is_resource (Some (entries.Interface i)) h = absurd (cc)
is_resource (Some (entries.World w)) h = absurd (cc)

abbrev owner_in : Option Entry → Option InterfaceId
owner_in o = option_and_then (λ (a : ResourceAlias). a.owner) (option_and_then (λ (r : Resource). r.alias) (option_and_then as_resource o))

alias_owner : (f : ℕ → Meaning) (origin : ℕ) (name : List ℕ) (x : Option ResourceAlias) → of_child f (option_map (λ i. kinds.Instance i) (option_and_then (λ (a : ResourceAlias). a.owner) x)) ≡ owner_of (node (resource origin name) (row f (alias_children x)))
alias_owner f origin name None = refl
alias_owner f origin name (Some a) = refl

pub owner_means : (g : Parts) (id : ResourceId) (result : Option InterfaceId) → EntriesMean g → Names g.types (kinds.Ty (types.Resource id)) → result ≡ owner_in (slice_get g.types id.0)
    → (numbering : Numbering) → of_child (entry_means numbering g) (option_map (λ i. kinds.Instance i) result) ≡ owner_of (entry_means numbering g id.0)
owner_means g id result law named is numbering =
    let r = is_resource (slice_get g.types id.0) named.1 in
    let read : result ≡ option_and_then (λ (a : ResourceAlias). a.owner) r.0.alias = is ∙ ap owner_in r.1 in
    ap (λ (o : Option InterfaceId). of_child (entry_means numbering g) (option_map (λ i. kinds.Instance i) o)) read
    ∙ alias_owner (entry_means numbering g) (numbering (origin_at g id.0)) (string_bytes r.0.name) r.0.alias
    ∙ sym (ap owner_of (law numbering id.0 (entries.Resource r.0) r.1))

alias_owner_named : (ts : List Entry) (x : Option ResourceAlias) → EachKind (Names ts) (alias_children x) → IfSome (option_map (λ i. kinds.Instance i) (option_and_then (λ (a : ResourceAlias). a.owner) x)) (Names ts)
alias_owner_named ts None h = tt
alias_owner_named ts (Some a) h = h.0

pub owner_named : (g : Parts) (id : ResourceId) (result : Option InterfaceId) → EachEntryNamed g.types → Names g.types (kinds.Ty (types.Resource id)) → result ≡ owner_in (slice_get g.types id.0)
    → IfSome (option_map (λ i. kinds.Instance i) result) (Names g.types)
owner_named g id result law named is =
    let r = is_resource (slice_get g.types id.0) named.1 in
    subst (λ (o : Option InterfaceId). IfSome (option_map (λ i. kinds.Instance i) o) (Names g.types)) (sym (is ∙ ap owner_in r.1)) (alias_owner_named g.types r.0.alias (law id.0 (entries.Resource r.0) r.1))
