-- Constructors and methods.
use Rattle.wac_resolution_types.proofs.Common.{◌≡◌, ◌∙◌, ◌+◌, ◌<◌, inl, inr, ℕ, List, [], ◌++◌, Option, Some, None, true, is_some, refl, sym, ap, subst, map, take, length, get_or, append-nil, Ident, Constructor, Method, ExternKind, ItemKind, ResourceId, func, Meaning, Scope, look_up, StandsFor, IsFresh, kind_of, entry_of, Fails, Names, Parts, means, entry_means, Numbering, Error, duplicate_resource_method, Body, externs, with_extern, with_count, constructor_name, method_name, static_name, name_of_method, HasMethod, ParamsBroken, FuncBroken, IsSecondMethod, MethodBroken, method_kind, values_of, places_of, Grows}
use Rattle.wac_resolution_types.specs.Funcs.{FuncAdded}
use Rattle.wac_ast_grammar.specs.Tree.{ResourceMethod}
use Rattle.wac_graph_types.specs.declared.kind.ExternKind.TheVariants as sides
use Rattle.wac_graph_types.specs.declared.kind.FuncKind.TheVariants as funcs
use Rattle.wac_graph_types.specs.declared.kind.ItemKind.TheVariants as kinds
use Rattle.wac_graph_types.specs.declared.kind.«Type».TheVariants as types
use Rattle.wac_graph_types.specs.declared.kind.FuncTypeId.{FuncTypeId}
use Rattle.wac_resolution_rules.specs.Types.{IsFuncWith, IsConstructor, first_params}
use Rattle.wac_resolution_types.specs.Lists.{Lists, kinds_of, with_kind}
use Rattle.wac_resolution_types.specs.Bodies.{body_in, IsBody, BodyStep, MethodStep, MethodSteps}
use Rattle.wac_resolution_types.proofs.Lists.{body_still, body_kept, body_with_kind, means_with_kind, extern_fresh, extern_stands}
use Rattle.wac_resolution_types.proofs.Going.{items_step, items_break}

-- ---- one of them

same_names : (side : ExternKind) (b : Lists) (name : List ℕ) (k : ItemKind) → places_of (with_kind side b name k).names ≡ places_of b.names ++ []
same_names sides.Import b name k = (let nil : places_of b.names ++ [] ≡ places_of b.names = simp append-nil in sym nil)
same_names sides.Export b name k = (let nil : places_of b.names ++ [] ≡ places_of b.names = simp append-nil in sym nil)

-- a function was added under a name
pub func_goes : (side : ExternKind) (old new : Parts) (b c : Lists) (holds : Numbering → Scope → Meaning → Type 0) (f : FuncTypeId) (name full : List ℕ) (rule : Numbering → Body → Body → Type 0)
    → IsBody old.types side b → FuncAdded old new (values_of b.names) holds f → full ≡ name → c ≡ with_kind side b full (kinds.Func f)
    → ((numbering : Numbering) (entry : Meaning) (after : Body) → holds numbering (body_in numbering old b).scope entry → after ≡ with_extern side (body_in numbering old b) name (kind_of func entry) → rule numbering (body_in numbering old b) after)
    → BodyStep side old new b c [] rule
func_goes side old new b c holds f name full rule body added named is follows =
    let made : c ≡ with_kind side b name (kinds.Func f) = is ∙ ap (λ (n : List ℕ). with_kind side b n (kinds.Func f)) named in
    let still = body_still old.types new.types side b added.grows.grows.named body in
    record {
      grows = added.grows.grows;
      body = subst (IsBody new.types side) (sym made) (body_with_kind new.types side side b name (kinds.Func f) still added.named);
      places = ap (λ (l : Lists). places_of l.names) made ∙ same_names side b name (kinds.Func f);
      goes = λ numbering.
          let kept : body_in numbering new b ≡ body_in numbering old b
          = body_kept numbering old new side b (added.grows.grows.kinds numbering) body ∙ ap (with_count (body_in numbering old b)) added.grows.count in
          let after : body_in numbering new c ≡ with_extern side (body_in numbering old b) name (means numbering new (kinds.Func f))
          = ap (body_in numbering new) made ∙ means_with_kind numbering new side b name (kinds.Func f) ∙ ap (λ (l : Body). with_extern side l name (means numbering new (kinds.Func f))) kept in
          follows numbering (entry_means numbering new f.0) (body_in numbering new c) (added.is numbering) after;
    }

pub constructor_goes : (side : ExternKind) (old new : Parts) (b c : Lists) (name full : List ℕ) (r : ResourceId) (x : Constructor) (f : FuncTypeId)
    → IsBody old.types side b → IsFresh (constructor_name name) (kinds_of side b) → full ≡ constructor_name name
    → FuncAdded old new (values_of b.names) (λ numbering scope entry. IsConstructor scope (entry_means numbering old r.0) x.params entry) f
    → c ≡ with_kind side b full (kinds.Func f) → MethodStep side old new name r b c (ResourceMethod.constructor x)
constructor_goes side old new b c name full r x f body fresh named added is =
    func_goes side old new b c (λ numbering scope entry. IsConstructor scope (entry_means numbering old r.0) x.params entry) f (constructor_name name) full
    (λ numbering before after. HasMethod side name (entry_means numbering old r.0) before (ResourceMethod.constructor x) after) body added named is
    (λ numbering entry after holds made. (extern_fresh numbering old side b (constructor_name name) fresh, (entry, holds, made)))

pub method_goes : (side : ExternKind) (old new : Parts) (b c : Lists) (name full : List ℕ) (r : ResourceId) (x : Method) (f : FuncTypeId)
    → IsBody old.types side b → IsFresh (method_name name x.id.string) (kinds_of side b) → IsFresh (static_name name x.id.string) (kinds_of side b) → full ≡ name_of_method x.is_static name x.id.string
    → FuncAdded old new (values_of b.names) (λ numbering scope entry. IsFuncWith scope (first_params x.is_static (entry_means numbering old r.0)) x.ty entry) f
    → c ≡ with_kind side b full (kinds.Func f) → MethodStep side old new name r b c (ResourceMethod.method x)
method_goes side old new b c name full r x f body fresh free named added is =
    func_goes side old new b c (λ numbering scope entry. IsFuncWith scope (first_params x.is_static (entry_means numbering old r.0)) x.ty entry) f (name_of_method x.is_static name x.id.string) full
    (λ numbering before after. HasMethod side name (entry_means numbering old r.0) before (ResourceMethod.method x) after) body added named is
    (λ numbering entry after holds made. (extern_fresh numbering old side b (method_name name x.id.string) fresh, extern_fresh numbering old side b (static_name name x.id.string) free, (entry, holds, made)))

-- ---- broken ones

pub params_break : (side : ExternKind) (g : Parts) (b : Lists) (name : List ℕ) (r : ResourceId) (x : Constructor) (e : Error) → IsFresh (constructor_name name) (kinds_of side b)
    → ((numbering : Numbering) → ParamsBroken funcs.Constructor (body_in numbering g b).scope [] x.params e)
    → (numbering : Numbering) (before : List ResourceMethod) → MethodBroken side name (entry_means numbering g r.0) e (body_in numbering g b) before (ResourceMethod.constructor x)
params_break side g b name r x e fresh h numbering before = inr (extern_fresh numbering g side b (constructor_name name) fresh, h numbering)

pub func_breaks : (side : ExternKind) (g : Parts) (b : Lists) (name : List ℕ) (r : ResourceId) (x : Method) (e : Error) → IsFresh (method_name name x.id.string) (kinds_of side b) → IsFresh (static_name name x.id.string) (kinds_of side b)
    → ((numbering : Numbering) → FuncBroken (method_kind x.is_static) (body_in numbering g b).scope (first_params x.is_static (entry_means numbering g r.0)) x.ty e)
    → (numbering : Numbering) (before : List ResourceMethod) → MethodBroken side name (entry_means numbering g r.0) e (body_in numbering g b) before (ResourceMethod.method x)
func_breaks side g b name r x e fresh free h numbering before = inr (extern_fresh numbering g side b (method_name name x.id.string) fresh, extern_fresh numbering g side b (static_name name x.id.string) free, h numbering)

-- what is found under the method's name, or that of a static one
pub method_taken : (numbering : Numbering) (g : Parts) (side : ExternKind) (b : Lists) (name full : List ℕ) (x : Ident) (e : Error) (found : Option ItemKind)
    → full ≡ method_name name x.string → found ≡ look_up full (kinds_of side b) → is_some found ≡ true → e ≡ duplicate_resource_method x.string name x.span → IsSecondMethod side name (body_in numbering g b) x e
method_taken numbering g side b name full x e None is found some error_is = absurd (cc)
method_taken numbering g side b name full x e (Some k) is found some error_is =
    let there = extern_stands numbering g side b full k (sym found) in
    (means numbering g k, inl (subst (λ (n : List ℕ). StandsFor (externs side (body_in numbering g b)) n (means numbering g k)) is there), error_is)

pub static_taken : (numbering : Numbering) (g : Parts) (side : ExternKind) (b : Lists) (name full : List ℕ) (x : Ident) (e : Error) (found : Option ItemKind)
    → full ≡ static_name name x.string → found ≡ look_up full (kinds_of side b) → is_some found ≡ true → e ≡ duplicate_resource_method x.string name x.span → IsSecondMethod side name (body_in numbering g b) x e
static_taken numbering g side b name full x e None is found some error_is = absurd (cc)
static_taken numbering g side b name full x e (Some k) is found some error_is =
    let there = extern_stands numbering g side b full k (sym found) in
    (means numbering g k, inr (subst (λ (n : List ℕ). StandsFor (externs side (body_in numbering g b)) n (means numbering g k)) is there), error_is)

-- ---- in order

-- the resource still means the same
pub resource_kept : (numbering : Numbering) (old new : Parts) (r : ResourceId) → Grows old new → Names old.types (kinds.Ty (types.Resource r)) → entry_means numbering new r.0 ≡ entry_means numbering old r.0
resource_kept numbering old new r g there = ap entry_of (g.kinds numbering (kinds.Ty (types.Resource r)) there)

pub methods_step : {Y : Type 0} (f : Y → ResourceMethod) (side : ExternKind) (old mid new : Parts) (b c d : Lists) (name : List ℕ) (r : ResourceId) (ys : List Y) (i : ℕ) (y : Y)
    → i < length ys → y ≡ get_or ys i y → Names old.types (kinds.Ty (types.Resource r)) → MethodSteps side old mid name r b c (take i (map f ys)) → MethodStep side mid new name r c d (f y) → MethodSteps side old new name r b d (take (i + 1) (map f ys))
methods_step f side old mid new b c d name r ys i y within at there p q =
    items_step (λ numbering. HasMethod side name (entry_means numbering old r.0)) f side old mid new b c d [] [] [] ys i y within at refl p (record {
      grows = q.grows;
      body = q.body;
      places = q.places;
      goes = λ numbering. subst (λ (entry : Meaning). HasMethod side name entry (body_in numbering mid c) (f y) (body_in numbering new d)) (resource_kept numbering old mid r p.grows there) (q.goes numbering);
    })

pub methods_break : {Y : Type 0} (f : Y → ResourceMethod) (side : ExternKind) (old mid : Parts) (b c : Lists) (name : List ℕ) (r : ResourceId) (ys : List Y) (i : ℕ) (y : Y) (e : Error)
    → i < length ys → y ≡ get_or ys i y → Names old.types (kinds.Ty (types.Resource r)) → MethodSteps side old mid name r b c (take i (map f ys))
    → ((numbering : Numbering) (before : List ResourceMethod) → MethodBroken side name (entry_means numbering mid r.0) e (body_in numbering mid c) before (f y))
    → (numbering : Numbering) → Fails (HasMethod side name (entry_means numbering old r.0)) (MethodBroken side name (entry_means numbering old r.0) e) (body_in numbering old b) (map f ys)
methods_break f side old mid b c name r ys i y e within at there p h =
    items_break (λ numbering. HasMethod side name (entry_means numbering old r.0)) (λ numbering. MethodBroken side name (entry_means numbering old r.0) e) f side old mid b c [] ys i y within at p
    (λ numbering before. subst (λ (entry : Meaning). MethodBroken side name entry e (body_in numbering mid c) before (f y)) (resource_kept numbering old mid r p.grows there) (h numbering before))
