-- Used types of an interface.
use Rattle.wac_resolution_worlds.proofs.Common.{◌≡◌, ◌∙◌, ◌⊎◌, inl, inr, ◌+◌, ◌<◌, ℕ, List, [], ◌∷◌, ◌++◌, Option, Some, None, refl, sym, ap, subst, map, take, length, get_or, option_map, string_bytes, map_push, take_more, length-map, get_or-map, Span, Ident, ExternKind, InterfaceId, ItemKind, ValueType, Entry, UsedType, Meaning, Named, look_up, StandsFor, IsFresh, with_named, Uses, IsNoneOf, is_resource_or_value_form, export_of, uses_mean, Names, Parts, means, entry_means, Numbering, Error, use_conflict, Body, externs, with_type, used_as, renamed_from, UsesItem, IsNoTypeThere, IsNoUsableType, IsUseConflict, UseItemBroken, help_unless, at_ident, used_at, values_of, places_of, grows_self, memory_model, Lists, kinds_of, with_bound, with_used, body_in, UsesNamed, Covers, IsBody, body_with_bound, means_with_bound, extern_fresh, extern_stands, places_append, items_step}
use Rattle.wac_ast_grammar.specs.Tree.{UseItem}
use Rattle.wac_graph_types.specs.declared.kind.ExternKind.TheVariants as sides
use Rattle.wac_graph_types.specs.declared.kind.ItemKind.TheVariants as kinds
use Rattle.wac_graph_types.specs.declared.kind.«Type».TheVariants as types
use Rattle.wac_graph_types.specs.declared.kind.ResourceId.{ResourceId}
use Rattle.wac_resolution_rules.proofs.Scopes.{fresh_before, fresh_after}
use Rattle.wac_resolution_types.proofs.Found.{fresh_value}
use Rattle.wac_resolution_worlds.specs.Used.{IsThere, IsUsed, UseStep, UseSteps}

-- ---- what an interface exports

pub kind_there : (g : Parts) (i : InterfaceId) (x : UseItem) (k : ItemKind) (o : Option ItemKind) → o ≡ Some k
    → ((numbering : Numbering) → option_map (means numbering g) o ≡ export_of (means numbering g (kinds.Instance i)) x.id.string) → Names g.types k → IsThere g i x k
kind_there g i x k o is means_it named = record { named = named; is = λ numbering. sym (means_it numbering) ∙ ap (option_map (means numbering g)) is }

pub nothing_there : (g : Parts) (i : InterfaceId) (x : UseItem) (o : Option ItemKind) → o ≡ None
    → ((numbering : Numbering) → option_map (means numbering g) o ≡ export_of (means numbering g (kinds.Instance i)) x.id.string) → (numbering : Numbering) → export_of (means numbering g (kinds.Instance i)) x.id.string ≡ None
nothing_there g i x o is means_it numbering = sym (means_it numbering) ∙ ap (option_map (means numbering g)) is

pub resource_used : (g : Parts) (i : InterfaceId) (x : UseItem) (k : ItemKind) (r : ResourceId) → k ≡ kinds.Ty (types.Resource r) → IsThere g i x k → IsUsed g i x (kinds.Ty (types.Resource r))
resource_used g i x k r is h = record { there = subst (IsThere g i x) is h; usable = λ numbering. refl }

pub value_used : (g : Parts) (i : InterfaceId) (x : UseItem) (k : ItemKind) (v : ValueType) → k ≡ kinds.Ty (types.Value v) → IsThere g i x k → IsUsed g i x (kinds.Ty (types.Value v))
value_used g i x k v is h = record { there = subst (IsThere g i x) is h; usable = λ numbering. refl }

-- what is neither a resource nor a type of values
pub not_usable : (numbering : Numbering) (g : Parts) (k : ItemKind) → ((r : ResourceId) → k ≡ kinds.Ty (types.Resource r) → ⊥) → ((v : ValueType) → k ≡ kinds.Ty (types.Value v) → ⊥) → IsNoneOf is_resource_or_value_form (means numbering g k)
not_usable numbering g (kinds.Ty (types.Resource r)) p q = absurd (p r refl)
not_usable numbering g (kinds.Ty (types.Func f)) p q = refl
not_usable numbering g (kinds.Ty (types.Value v)) p q = absurd (q v refl)
not_usable numbering g (kinds.Ty (types.Interface i)) p q = refl
not_usable numbering g (kinds.Ty (types.World w)) p q = refl
not_usable numbering g (kinds.Ty (types.Module m)) p q = refl
not_usable numbering g (kinds.Func f) p q = refl
not_usable numbering g (kinds.Instance i) p q = refl
not_usable numbering g (kinds.Component w) p q = refl
not_usable numbering g (kinds.Module m) p q = refl
not_usable numbering g (kinds.Value v) p q = refl

pub ruleset kinds_used = (resource_used, value_used, not_usable, memory_model)

-- ---- one used type

uses_append : (es : List Entry) (all : Named UsedType) (name : List ℕ) (u : UsedType) → UsesNamed es all → Names es (kinds.Instance u.interface) → UsesNamed es (with_named all name u)
uses_append es [] name u h here = (here, tt)
uses_append es (e ∷ all) name u h here = (h.0, uses_append es all name u h.1 here)

used_covers : (side : ExternKind) (b : Lists) (name : List ℕ) (at : Span) (k : ItemKind) (u : UsedType) → Covers side b b.uses → Covers side (with_bound side (with_used b name u) name at k) (with_named b.uses name u)
used_covers sides.Import b name at k u h n f = let p = fresh_before n b.imports name k f in fresh_after n b.uses name u (h n p.0) p.1
used_covers sides.Export b name at k u h n f = let p = fresh_before n b.exports name k f in fresh_after n b.uses name u (h n p.0) p.1

same_names : (side : ExternKind) (b : Lists) (name : List ℕ) (at : Span) (k : ItemKind) → (with_bound side b name at k).names ≡ with_named b.names name (at, k)
same_names sides.Import b name at k = refl
same_names sides.Export b name at k = refl

same_uses : (side : ExternKind) (b : Lists) (name : List ℕ) (at : Span) (k : ItemKind) → (with_bound side b name at k).uses ≡ b.uses
same_uses sides.Import b name at k = refl
same_uses sides.Export b name at k = refl

-- the body without the used type is one, and the used type changes no other list
body_with_use : (es : List Entry) (side : ExternKind) (b : Lists) (name : List ℕ) (at : Span) (k : ItemKind) (u : UsedType) → IsBody es side b → Names es k → Names es (kinds.Instance u.interface)
    → IsBody es side (with_bound side (with_used b name u) name at k)
body_with_use es sides.Import b name at k u h here there =
    let p = body_with_bound es sides.Import b name at k h here in
    record { names = p.names; uses = uses_append es b.uses name u h.uses there; imports = p.imports; exports = p.exports; bound = p.bound; used = used_covers sides.Import b name at k u h.used }
body_with_use es sides.Export b name at k u h here there =
    let p = body_with_bound es sides.Export b name at k h here in
    record { names = p.names; uses = uses_append es b.uses name u h.uses there; imports = p.imports; exports = p.exports; bound = p.bound; used = used_covers sides.Export b name at k u h.used }

means_with_use : (numbering : Numbering) (g : Parts) (b : Lists) (name : List ℕ) (u : UsedType) (other : Option (List ℕ)) → option_map string_bytes u.name ≡ other
    → body_in numbering g (with_used b name u) ≡ record (body_in numbering g b) { uses = (body_in numbering g b).uses ++ ((name, other), means numbering g (kinds.Instance u.interface)) ∷ [] }
means_with_use numbering g b name u other is =
    let made : Uses → Body = λ (l : Uses). record (body_in numbering g b) { uses = l } in
    let first : uses_mean (entry_means numbering g) (with_named b.uses name u) ≡ uses_mean (entry_means numbering g) b.uses ++ ((name, option_map string_bytes u.name), means numbering g (kinds.Instance u.interface)) ∷ []
    = map_push (λ e. ((e.0, option_map string_bytes e.1.name), means numbering g (kinds.Instance e.1.interface))) b.uses (name, u) in
    ap made first ∙ ap (λ (o : Option (List ℕ)). made (uses_mean (entry_means numbering g) b.uses ++ ((name, o), means numbering g (kinds.Instance u.interface)) ∷ [])) is

same_kinds : (side : ExternKind) (b : Lists) (name : List ℕ) (u : UsedType) → kinds_of side (with_used b name u) ≡ kinds_of side b
same_kinds sides.Import b name u = refl
same_kinds sides.Export b name u = refl

-- the bindings stay new with the used type
pub fresh_with_used : (side : ExternKind) (b : Lists) (name : List ℕ) (u : UsedType) (n : List ℕ) → IsFresh n (kinds_of side b) → IsFresh n (kinds_of side (with_used b name u))
fresh_with_used side b name u n h = subst (IsFresh n) (sym (same_kinds side b name u)) h

pub use_goes : (side : ExternKind) (g : Parts) (i : InterfaceId) (b c d : Lists) (x : UseItem) (id : Ident) (k : ItemKind) (u : UsedType)
    → id ≡ used_as x → u.interface ≡ i → option_map string_bytes u.name ≡ renamed_from x
    → IsBody g.types side b → Names g.types (kinds.Instance i) → IsUsed g i x k → IsFresh (used_as x).string (kinds_of side b)
    → c ≡ with_used b id.string u → d ≡ with_bound side c id.string id.span k → UseStep side g i b d x
use_goes side g i b c d x id k u named from renamed body there used fresh is then =
    let y : Ident = used_as x in
    let e : Lists = with_bound side (with_used b y.string u) y.string y.span k in
    let same : d ≡ e = then ∙ ap (λ (l : Lists). with_bound side l id.string id.span k) is ∙ ap (λ (z : Ident). with_bound side (with_used b z.string u) z.string z.span k) named in
    record {
      grows = (grows_self g).grows;
      body = subst (IsBody g.types side) (sym same) (body_with_use g.types side b y.string y.span k u body used.there.named (subst (λ (j : InterfaceId). Names g.types (kinds.Instance j)) (sym from) there));
      places = ap (λ (l : Lists). places_of l.names) same ∙ ap places_of (same_names side (with_used b y.string u) y.string y.span k) ∙ places_append b.names y.string y.span k;
      goes = λ numbering. (
        means numbering g k,
        used.there.is numbering,
        used.usable numbering,
        extern_fresh numbering g side b y.string fresh,
        ap (body_in numbering g) same ∙ means_with_bound numbering g side (with_used b y.string u) y.string y.span k
            ∙ ap (λ (l : Body). with_type side l y.string (means numbering g k)) (means_with_use numbering g b y.string u (renamed_from x) renamed)
            ∙ ap (λ (j : InterfaceId). with_type side (record (body_in numbering g b) { uses = (body_in numbering g b).uses ++ ((y.string, renamed_from x), means numbering g (kinds.Instance j)) ∷ [] }) y.string (means numbering g k)) from,
      );
    }

-- ---- in order

pub uses_step : {Y : Type 0} (f : Y → UseItem) (side : ExternKind) (g : Parts) (i : InterfaceId) (b c d : Lists) (ys : List Y) (n : ℕ) (y : Y)
    → n < length ys → y ≡ get_or ys n y → UseSteps side g i b c (take n (map f ys)) → UseStep side g i c d (f y) → UseSteps side g i b d (take (n + 1) (map f ys))
uses_step {Y} f side g i b c d ys n y within at p q =
    let within_too : n < length (map f ys) = subst (λ (m : ℕ). n < m) (sym (length-map ys f)) within in
    let read : get_or (map f ys) n (f y) ≡ f y = get_or-map f ys n y (f y) within ∙ ap f (sym at) in
    let next : take (n + 1) (map f ys) ≡ take n (map f ys) ++ f y ∷ [] = take_more (map f ys) n (f y) within_too ∙ ap (λ (z : UseItem). take n (map f ys) ++ z ∷ []) read in
    let places : used_at (take (n + 1) (map f ys)) ≡ used_at (take n (map f ys)) ++ at_ident (used_as (f y)) ∷ []
    = ap used_at next ∙ map_push (λ x. at_ident (used_as x)) (take n (map f ys)) (f y) in
    items_step (λ numbering. UsesItem side (means numbering g (kinds.Instance i))) f side g g g b c d (used_at (take n (map f ys))) (at_ident (used_as (f y)) ∷ []) (used_at (take (n + 1) (map f ys))) ys n y within at places p q

pub uses_all : (side : ExternKind) (g : Parts) (i : InterfaceId) (b c : Lists) (xs ys : List UseItem) → xs ≡ ys → UseSteps side g i b c xs → UseSteps side g i b c ys
uses_all side g i b c xs ys is h = subst (UseSteps side g i b c) is h

-- ---- what taking a type requires

pub use_unused : (es : List Entry) (side : ExternKind) (b : Lists) (x : UseItem) (id : Ident) → id ≡ used_as x → IsBody es side b → IsFresh (used_as x).string (kinds_of side b) → IsFresh id.string b.uses
use_unused es side b x id named body fresh = body.used id.string (subst (λ (z : Ident). IsFresh z.string (kinds_of side b)) (sym named) fresh)

pub use_bound : (es : List Entry) (side : ExternKind) (b c : Lists) (x : UseItem) (id : Ident) (u : UsedType) → id ≡ used_as x → IsBody es side b → IsFresh (used_as x).string (kinds_of side b) → c ≡ with_used b id.string u → IsFresh id.string (values_of c.names)
use_bound es side b c x id u named body fresh is =
    subst (λ (l : Lists). IsFresh id.string (values_of l.names)) (sym is) (fresh_value id.string b.names (body.bound id.string (subst (λ (z : Ident). IsFresh z.string (kinds_of side b)) (sym named) fresh)))

pub use_fresh : (side : ExternKind) (b c : Lists) (x : UseItem) (id : Ident) (u : UsedType) → id ≡ used_as x → IsFresh (used_as x).string (kinds_of side b) → c ≡ with_used b id.string u → IsFresh id.string (kinds_of side c)
use_fresh side b c x id u named fresh is =
    subst (λ (l : Lists). IsFresh id.string (kinds_of side l)) (sym is) (fresh_with_used side b id.string u id.string (subst (λ (z : Ident). IsFresh z.string (kinds_of side b)) (sym named) fresh))

-- the interface exports nothing under the name, or no type that can be used
pub kind_breaks : (side : ExternKind) (g : Parts) (i : InterfaceId) (path : List ℕ) (e : Error) (b : Body) (before : List UseItem) (x : UseItem) (numbering : Numbering)
    → IsNoTypeThere (means numbering g (kinds.Instance i)) path x e ⊎ IsNoUsableType (means numbering g (kinds.Instance i)) path x e → UseItemBroken side (means numbering g (kinds.Instance i)) path e b before x
kind_breaks side g i path e b before x numbering (inl h) = inl h
kind_breaks side g i path e b before x numbering (inr h) = inr (inl h)

-- the name is taken, by what the identifier denotes
pub use_stands : (numbering : Numbering) (g : Parts) (side : ExternKind) (b : Lists) (x : UseItem) (id : Ident) (k : ItemKind) → id ≡ used_as x → look_up id.string (kinds_of side b) ≡ Some k → StandsFor (externs side (body_in numbering g b)) (used_as x).string (means numbering g k)
use_stands numbering g side b x id k named is = subst (λ (z : Ident). StandsFor (externs side (body_in numbering g b)) z.string (means numbering g k)) named (extern_stands numbering g side b id.string k is)

pub use_conflicts : (side : ExternKind) (b : Body) (x : UseItem) (id : Ident) (help : Option (List ℕ)) (m : Meaning) (e : Error) → id ≡ used_as x → help ≡ help_unless x.as_id → StandsFor (externs side b) (used_as x).string m
    → e ≡ use_conflict side id.string id.span help → IsUseConflict side b x e
use_conflicts side b x id help m e named helped stands is =
    (m, stands, is ∙ ap (λ (z : Ident). use_conflict side z.string z.span help) named ∙ ap (use_conflict side (used_as x).string (used_as x).span) helped)
