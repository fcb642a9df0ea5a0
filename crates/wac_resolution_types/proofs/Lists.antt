-- Bodies of a graph: what they mean as they and the graph grow.
use Rattle.wac_resolution_types.proofs.Common.{◌≡◌, ◌∙◌, ℕ, List, [], ◌∷◌, ◌++◌, Some, refl, sym, ap, subst, option_map, map_push, Span, ExternKind, ItemKind, Meaning, Named, Scope, look_up, StandsFor, IsFresh, with_named, Uses, items_mean, uses_mean, Names, ItemsNamed, Parts, means, entry_means, declared_count, Numbering, Body, externs, with_extern, with_count, with_type, Bindings, values_of, places_of, scope_of}
use Rattle.wac_graph_types.specs.declared.kind.ExternKind.TheVariants as sides
use Rattle.wac_graph_types.specs.declared.kind.ItemKind.TheVariants as kinds
use Rattle.wac_graph_types.specs.declared.entry.Entry.{Entry}
use Rattle.wac_graph_types.specs.declared.entry.UsedType.{UsedType}
use Rattle.wac_graph_types.specs.Growth.{KeepsNames}
use Rattle.wac_graph_types.proofs.Shapes.{items_found}
use Rattle.wac_resolution_types.specs.Lists.{Lists, kinds_of, with_kind, with_bound}
use Rattle.wac_resolution_types.specs.Bodies.{body_in, UsesNamed, Covers, IsBody}
use Rattle.wac_resolution_rules.proofs.Scopes.{fresh_before, fresh_after}

-- each kind of the old graph means what it meant
abbrev pub KeepsMeant : Numbering → Parts → Parts → Type 0
KeepsMeant numbering old new = (k : ItemKind) → Names old.types k → means numbering new k ≡ means numbering old k

-- ---- more types

items_still_named : (es fs : List Entry) (all : Named ItemKind) → KeepsNames es fs → ItemsNamed es all → ItemsNamed fs all
items_still_named es fs [] keeps h = tt
items_still_named es fs (e ∷ all) keeps h = (keeps e.1 h.0, items_still_named es fs all keeps h.1)

uses_still_named : (es fs : List Entry) (all : Named UsedType) → KeepsNames es fs → UsesNamed es all → UsesNamed fs all
uses_still_named es fs [] keeps h = tt
uses_still_named es fs (u ∷ all) keeps h = (keeps (kinds.Instance u.1.interface) h.0, uses_still_named es fs all keeps h.1)

pub body_still : (es fs : List Entry) (side : ExternKind) (b : Lists) → KeepsNames es fs → IsBody es side b → IsBody fs side b
body_still es fs side b keeps h = record {
  names = items_still_named es fs (values_of b.names) keeps h.names;
  uses = uses_still_named es fs b.uses keeps h.uses;
  imports = items_still_named es fs b.imports keeps h.imports;
  exports = items_still_named es fs b.exports keeps h.exports;
  bound = h.bound;
  used = h.used;
}

items_kept : (numbering : Numbering) (old new : Parts) (all : Named ItemKind) → KeepsMeant numbering old new → ItemsNamed old.types all → items_mean (entry_means numbering new) all ≡ items_mean (entry_means numbering old) all
items_kept numbering old new [] keeps h = refl
items_kept numbering old new (e ∷ all) keeps h =
    let one : means numbering new e.1 ≡ means numbering old e.1 = keeps e.1 h.0 in
    let rest : items_mean (entry_means numbering new) all ≡ items_mean (entry_means numbering old) all = items_kept numbering old new all keeps h.1 in
    cc

uses_kept : (numbering : Numbering) (old new : Parts) (all : Named UsedType) → KeepsMeant numbering old new → UsesNamed old.types all → uses_mean (entry_means numbering new) all ≡ uses_mean (entry_means numbering old) all
uses_kept numbering old new [] keeps h = refl
uses_kept numbering old new (u ∷ all) keeps h =
    let one : means numbering new (kinds.Instance u.1.interface) ≡ means numbering old (kinds.Instance u.1.interface) = keeps (kinds.Instance u.1.interface) h.0 in
    let rest : uses_mean (entry_means numbering new) all ≡ uses_mean (entry_means numbering old) all = uses_kept numbering old new all keeps h.1 in
    cc

-- a body still means the same, but for how many resources are declared
pub body_kept : (numbering : Numbering) (old new : Parts) (side : ExternKind) (b : Lists) → KeepsMeant numbering old new → IsBody old.types side b → body_in numbering new b ≡ with_count (body_in numbering old b) (declared_count new)
body_kept numbering old new side b keeps h =
    let scope : scope_of numbering new (values_of b.names) ≡ scope_of numbering old (values_of b.names) = items_kept numbering old new (values_of b.names) keeps h.names in
    let uses : uses_mean (entry_means numbering new) b.uses ≡ uses_mean (entry_means numbering old) b.uses = uses_kept numbering old new b.uses keeps h.uses in
    let imports : items_mean (entry_means numbering new) b.imports ≡ items_mean (entry_means numbering old) b.imports = items_kept numbering old new b.imports keeps h.imports in
    let exports : items_mean (entry_means numbering new) b.exports ≡ items_mean (entry_means numbering old) b.exports = items_kept numbering old new b.exports keeps h.exports in
    let made : Scope → Uses → Named Meaning → Named Meaning → Body = λ sc us is es. record { scope = sc; uses = us; imports = is; exports = es; resources = declared_count new } in
    cc

-- ---- one more name

items_append : (es : List Entry) (all : Named ItemKind) (name : List ℕ) (k : ItemKind) → ItemsNamed es all → Names es k → ItemsNamed es (with_named all name k)
items_append es [] name k h here = (here, tt)
items_append es (e ∷ all) name k h here = (h.0, items_append es all name k h.1 here)

pub values_append : (all : Bindings ItemKind) (name : List ℕ) (at : Span) (k : ItemKind) → values_of (with_named all name (at, k)) ≡ with_named (values_of all) name k
values_append all name at k = map_push (λ b. (b.0, b.1.1)) all (name, (at, k))

pub places_append : (all : Bindings ItemKind) (name : List ℕ) (at : Span) (k : ItemKind) → places_of (with_named all name (at, k)) ≡ places_of all ++ (name, at) ∷ []
places_append all name at k = map_push (λ b. (b.0, b.1.0)) all (name, (at, k))

still_covers : {X : Type 0} (side other : ExternKind) (b : Lists) (name : List ℕ) (k : ItemKind) (all : Named X) → Covers side b all → Covers side (with_kind other b name k) all
still_covers sides.Import sides.Import b name k all h n f = h n (fresh_before n b.imports name k f).0
still_covers sides.Import sides.Export b name k all h n f = h n f
still_covers sides.Export sides.Import b name k all h n f = h n f
still_covers sides.Export sides.Export b name k all h n f = h n (fresh_before n b.exports name k f).0

covers_more : {X : Type 0} (side : ExternKind) (b c : Lists) (name : List ℕ) (k : ItemKind) (all : Named X) (x : X) → kinds_of side c ≡ kinds_of side b → Covers side b all → Covers side (with_kind side c name k) (with_named all name x)
covers_more {X} sides.Import b c name k all x same h n f =
    let p = fresh_before n c.imports name k f in
    fresh_after n all name x (h n (subst (λ (l : Named ItemKind). IsFresh n l) same p.0)) p.1
covers_more {X} sides.Export b c name k all x same h n f =
    let p = fresh_before n c.exports name k f in
    fresh_after n all name x (h n (subst (λ (l : Named ItemKind). IsFresh n l) same p.0)) p.1

-- an import or export of a name
pub body_with_kind : (es : List Entry) (side other : ExternKind) (b : Lists) (name : List ℕ) (k : ItemKind) → IsBody es side b → Names es k → IsBody es side (with_kind other b name k)
body_with_kind es side sides.Import b name k h here = record {
  names = h.names;
  uses = h.uses;
  imports = items_append es b.imports name k h.imports here;
  exports = h.exports;
  bound = still_covers side sides.Import b name k b.names h.bound;
  used = still_covers side sides.Import b name k b.uses h.used;
}
body_with_kind es side sides.Export b name k h here = record {
  names = h.names;
  uses = h.uses;
  imports = h.imports;
  exports = items_append es b.exports name k h.exports here;
  bound = still_covers side sides.Export b name k b.names h.bound;
  used = still_covers side sides.Export b name k b.uses h.used;
}

same_kinds : (side : ExternKind) (b : Lists) (names : Bindings ItemKind) → kinds_of side (record b { names = names }) ≡ kinds_of side b
same_kinds sides.Import b names = refl
same_kinds sides.Export b names = refl

-- a name that is bound, and among the externs
pub body_with_bound : (es : List Entry) (side : ExternKind) (b : Lists) (name : List ℕ) (at : Span) (k : ItemKind) → IsBody es side b → Names es k → IsBody es side (with_bound side b name at k)
body_with_bound es sides.Import b name at k h here = record {
  names = subst (ItemsNamed es) (sym (values_append b.names name at k)) (items_append es (values_of b.names) name k h.names here);
  uses = h.uses;
  imports = items_append es b.imports name k h.imports here;
  exports = h.exports;
  bound = covers_more sides.Import b (record b { names = with_named b.names name (at, k) }) name k b.names (at, k) refl h.bound;
  used = still_covers sides.Import sides.Import b name k b.uses h.used;
}
body_with_bound es sides.Export b name at k h here = record {
  names = subst (ItemsNamed es) (sym (values_append b.names name at k)) (items_append es (values_of b.names) name k h.names here);
  uses = h.uses;
  imports = h.imports;
  exports = items_append es b.exports name k h.exports here;
  bound = covers_more sides.Export b (record b { names = with_named b.names name (at, k) }) name k b.names (at, k) refl h.bound;
  used = still_covers sides.Export sides.Export b name k b.uses h.used;
}

-- ---- what it means then

items_mean_append : (f : ℕ → Meaning) (all : Named ItemKind) (name : List ℕ) (k : ItemKind) → items_mean f (with_named all name k) ≡ with_named (items_mean f all) name (Rattle.wac_graph_types.specs.Meaning.of_kind f k)
items_mean_append f all name k = map_push (λ e. (e.0, Rattle.wac_graph_types.specs.Meaning.of_kind f e.1)) all (name, k)

pub means_with_kind : (numbering : Numbering) (g : Parts) (side : ExternKind) (b : Lists) (name : List ℕ) (k : ItemKind) → body_in numbering g (with_kind side b name k) ≡ with_extern side (body_in numbering g b) name (means numbering g k)
means_with_kind numbering g sides.Import b name k = ap (λ (l : Named Meaning). record (body_in numbering g b) { imports = l }) (items_mean_append (entry_means numbering g) b.imports name k)
means_with_kind numbering g sides.Export b name k = ap (λ (l : Named Meaning). record (body_in numbering g b) { exports = l }) (items_mean_append (entry_means numbering g) b.exports name k)

pub means_with_bound : (numbering : Numbering) (g : Parts) (side : ExternKind) (b : Lists) (name : List ℕ) (at : Span) (k : ItemKind) → body_in numbering g (with_bound side b name at k) ≡ with_type side (body_in numbering g b) name (means numbering g k)
means_with_bound numbering g side b name at k =
    let scope : scope_of numbering g (values_of (with_named b.names name (at, k))) ≡ with_named (scope_of numbering g (values_of b.names)) name (means numbering g k)
    = ap (scope_of numbering g) (values_append b.names name at k) ∙ items_mean_append (entry_means numbering g) (values_of b.names) name k in
    means_with_kind numbering g side (record b { names = with_named b.names name (at, k) }) name k
    ∙ ap (λ (l : Scope). with_extern side (record (body_in numbering g b) { scope = l }) name (means numbering g k)) scope

-- ---- what a name denotes

pub extern_fresh : (numbering : Numbering) (g : Parts) (side : ExternKind) (b : Lists) (name : List ℕ) → IsFresh name (kinds_of side b) → IsFresh name (externs side (body_in numbering g b))
extern_fresh numbering g sides.Import b name h = items_found (entry_means numbering g) b.imports name ∙ ap (option_map (means numbering g)) h
extern_fresh numbering g sides.Export b name h = items_found (entry_means numbering g) b.exports name ∙ ap (option_map (means numbering g)) h

pub extern_stands : (numbering : Numbering) (g : Parts) (side : ExternKind) (b : Lists) (name : List ℕ) (k : ItemKind) → look_up name (kinds_of side b) ≡ Some k → StandsFor (externs side (body_in numbering g b)) name (means numbering g k)
extern_stands numbering g sides.Import b name k h = items_found (entry_means numbering g) b.imports name ∙ ap (option_map (means numbering g)) h
extern_stands numbering g sides.Export b name k h = items_found (entry_means numbering g) b.exports name ∙ ap (option_map (means numbering g)) h

pub bound_fresh : (numbering : Numbering) (g : Parts) (b : Lists) (name : List ℕ) → IsFresh name (values_of b.names) → IsFresh name (body_in numbering g b).scope
bound_fresh numbering g b name h = items_found (entry_means numbering g) (values_of b.names) name ∙ ap (option_map (means numbering g)) h

pub bound_stands : (numbering : Numbering) (g : Parts) (b : Bindings ItemKind) (name : List ℕ) (k : ItemKind) → look_up name (values_of b) ≡ Some k → StandsFor (scope_of numbering g (values_of b)) name (means numbering g k)
bound_stands numbering g b name k h = items_found (entry_means numbering g) (values_of b) name ∙ ap (option_map (means numbering g)) h
