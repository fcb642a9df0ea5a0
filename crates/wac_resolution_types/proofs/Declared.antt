-- Resources and declarations of types.
use Rattle.wac_resolution_types.proofs.Common.{◌≡◌, ◌∙◌, inr, ℕ, suc, [], ◌∷◌, ◌++◌, sym, ap, subst, append-nil, Span, Ident, ResourceDecl, ItemTypeDecl, ExternKind, ItemKind, ResourceId, a_resource, Meaning, Named, IsFresh, kind_of, Steps, Fails, Names, Parts, means, entry_means, declared_count, Numbering, Error, Body, with_count, with_type, with_resource, DeclaresIn, HasMethod, HasItem, Owner, MethodBroken, ItemBroken, values_of, places_of, Grows, AddsResource, grows_on}
use Rattle.wac_graph_types.specs.declared.kind.ExternKind.TheVariants as sides
use Rattle.wac_graph_types.specs.declared.kind.ItemKind.TheVariants as kinds
use Rattle.wac_graph_types.specs.declared.kind.«Type».TheVariants as types
use Rattle.wac_graph_types.specs.declared.kind.ValueType.{ValueType}
use Rattle.wac_graph.specs.Resources.{resource_entry}
use Rattle.wac_resolution_rules.specs.Places.{at_ident}
use Rattle.wac_resolution_rules.specs.Spans.{item_identifier}
use Rattle.wac_resolution_types.specs.Declarations.{ValueAdded, KindAdded}
use Rattle.wac_resolution_types.specs.Lists.{Lists, kinds_of, with_bound}
use Rattle.wac_resolution_types.specs.Bodies.{body_in, IsBody, BodyStep, MethodSteps, ResourceStep, IsDeclared, DeclarationStep}
use Rattle.wac_resolution_types.proofs.Lists.{body_still, body_kept, body_with_bound, means_with_bound, extern_fresh, bound_fresh, places_append}

-- ---- a name that is declared

bound_places : (side : ExternKind) (b : Lists) (id : Ident) (k : ItemKind) → places_of (with_bound side b id.string id.span k).names ≡ places_of b.names ++ at_ident id ∷ []
bound_places sides.Import b id k = places_append b.names id.string id.span k
bound_places sides.Export b id k = places_append b.names id.string id.span k

-- a kind was added, and a new name denotes it
pub kind_declared : (side : ExternKind) (old new : Parts) (b c : Lists) (id : Ident) (k : ItemKind) (rule : Numbering → Body → Body → Type 0)
    → IsBody old.types side b → Grows old new → Names new.types k → c ≡ with_bound side b id.string id.span k
    → ((numbering : Numbering) (after : Body) → after ≡ with_type side (with_count (body_in numbering old b) (declared_count new)) id.string (means numbering new k) → rule numbering (body_in numbering old b) after)
    → BodyStep side old new b c (at_ident id ∷ []) rule
kind_declared side old new b c id k rule body grows named is follows =
    let still = body_still old.types new.types side b grows.named body in
    record {
      grows = grows;
      body = subst (IsBody new.types side) (sym is) (body_with_bound new.types side b id.string id.span k still named);
      places = ap (λ (l : Lists). places_of l.names) is ∙ bound_places side b id k;
      goes = λ numbering.
          let kept : body_in numbering new b ≡ with_count (body_in numbering old b) (declared_count new) = body_kept numbering old new side b (grows.kinds numbering) body in
          follows numbering (body_in numbering new c)
          (ap (body_in numbering new) is ∙ means_with_bound numbering new side b id.string id.span k ∙ ap (λ (l : Body). with_type side l id.string (means numbering new k)) kept);
    }

-- ---- types of values

pub value_declared : (side : ExternKind) (old new : Parts) (b c : Lists) (x : ItemTypeDecl) (holds : Numbering → Meaning → Type 0) (v : ValueType)
    → IsBody old.types side b → ValueAdded old new holds v → IsDeclared side b c (item_identifier x) (kinds.Ty (types.Value v))
    → ((numbering : Numbering) (m : Meaning) (after : Body) → holds numbering m → DeclaresIn side (body_in numbering old b) (item_identifier x) m (declared_count old) after → HasItem numbering side (body_in numbering old b) x after)
    → DeclarationStep side old new b c x
value_declared side old new b c x holds v body added declared follows =
    kind_declared side old new b c (item_identifier x) (kinds.Ty (types.Value v)) (λ numbering before after. HasItem numbering side before x after) body added.grows.grows added.named declared.is
    (λ numbering after made. follows numbering (means numbering new (kinds.Ty (types.Value v))) after (added.is numbering) (
      (bound_fresh numbering old b (item_identifier x).string declared.bound, extern_fresh numbering old side b (item_identifier x).string declared.fresh),
      made ∙ ap (λ (n : ℕ). with_type side (with_count (body_in numbering old b) n) (item_identifier x).string (means numbering new (kinds.Ty (types.Value v)))) added.grows.count,
    ))

-- ---- kinds

pub alias_declared : (side : ExternKind) (old new : Parts) (b c : Lists) (x : ItemTypeDecl) (holds : Numbering → Meaning → ℕ → Type 0) (k : ItemKind)
    → IsBody old.types side b → KindAdded old new holds k → IsDeclared side b c (item_identifier x) k
    → ((numbering : Numbering) (m : Meaning) (n : ℕ) (after : Body) → holds numbering m n → DeclaresIn side (body_in numbering old b) (item_identifier x) m n after → HasItem numbering side (body_in numbering old b) x after)
    → DeclarationStep side old new b c x
alias_declared side old new b c x holds k body added declared follows =
    kind_declared side old new b c (item_identifier x) k (λ numbering before after. HasItem numbering side before x after) body added.grows added.named declared.is
    (λ numbering after made. follows numbering (means numbering new k) (declared_count new) after (added.is numbering) (
      (bound_fresh numbering old b (item_identifier x).string declared.bound, extern_fresh numbering old side b (item_identifier x).string declared.fresh),
      made,
    ))

-- ---- resources

pub resource_goes : (side : ExternKind) (old new : Parts) (b c : Lists) (id : Ident) (r : ResourceId)
    → IsFresh id.string (values_of b.names) → IsFresh id.string (kinds_of side b) → IsBody old.types side b → AddsResource old new (λ numbering. resource_entry numbering (declared_count old) id.string) r → c ≡ with_bound side b id.string id.span (kinds.Ty (types.Resource r)) → ResourceStep side old new b c id r
resource_goes side old new b c id r bound fresh body added is = record {
  bound = bound;
  fresh = fresh;
  body = kind_declared side old new b c id (kinds.Ty (types.Resource r)) (λ numbering before after. after ≡ with_resource numbering side before id.string) body added.grows added.named is
      (λ numbering after made.
      let entry : means numbering new (kinds.Ty (types.Resource r)) ≡ kind_of a_resource (resource_entry numbering (declared_count old) id.string) = ap (kind_of a_resource) (added.is numbering) in
      made
      ∙ ap (λ (n : ℕ). with_type side (with_count (body_in numbering old b) n) id.string (means numbering new (kinds.Ty (types.Resource r)))) added.count
      ∙ ap (with_type side (with_count (body_in numbering old b) (suc (declared_count old))) id.string) entry);
  there = added.named;
  is = added.is;
}

pub resource_item : (side : ExternKind) (old mid new : Parts) (b c d : Lists) (x : ResourceDecl) (r : ResourceId)
    → ResourceStep side old mid b c x.id r → MethodSteps side mid new x.id.string r c d x.methods → DeclarationStep side old new b d (ItemTypeDecl.resource x)
resource_item side old mid new b c d x r p q = record {
  grows = grows_on old mid new p.body.grows q.grows;
  body = q.body;
  places = q.places ∙ ap (λ (l : Named Span). l ++ []) p.body.places ∙ (simp append-nil);
  goes = λ numbering. (
    (bound_fresh numbering old b x.id.string p.bound, extern_fresh numbering old side b x.id.string p.fresh),
    subst (λ (before : Body). Steps (HasMethod side x.id.string (resource_entry numbering (declared_count old) x.id.string)) before x.methods (body_in numbering new d)) (p.body.goes numbering)
        (subst (λ (entry : Meaning). Steps (HasMethod side x.id.string entry) (body_in numbering mid c) x.methods (body_in numbering new d)) (p.is numbering) (q.goes numbering)),
  );
}

-- its methods are broken
pub methods_broken : (of : Owner) (side : ExternKind) (old mid : Parts) (b c : Lists) (places : Named Span) (x : ResourceDecl) (r : ResourceId) (e : Error)
    → ResourceStep side old mid b c x.id r
    → ((numbering : Numbering) → Fails (HasMethod side x.id.string (entry_means numbering mid r.0)) (MethodBroken side x.id.string (entry_means numbering mid r.0) e) (body_in numbering mid c) x.methods)
    → (numbering : Numbering) → ItemBroken numbering of side places (body_in numbering old b) (ItemTypeDecl.resource x) e
methods_broken of side old mid b c places x r e p h numbering = inr (
  bound_fresh numbering old b x.id.string p.bound,
  extern_fresh numbering old side b x.id.string p.fresh,
  subst (λ (before : Body). Fails (HasMethod side x.id.string (resource_entry numbering (declared_count old) x.id.string)) (MethodBroken side x.id.string (resource_entry numbering (declared_count old) x.id.string) e) before x.methods) (p.body.goes numbering)
      (subst (λ (entry : Meaning). Fails (HasMethod side x.id.string entry) (MethodBroken side x.id.string entry e) (body_in numbering mid c) x.methods) (p.is numbering) (h numbering)),
)
