-- Imports and exports of worlds.
use Rattle.wac_resolution_worlds.proofs.Common.{◌≡◌, ◌∙◌, inr, ℕ, List, [], ◌++◌, None, refl, sym, ap, subst, append-nil, Result, IfErr, OnOk, unwrap_or, IfErr-weaker, OnOk-map, Span, Ident, PackagePath, FuncType, InlineInterface, ExternType, NamedWorldItem, WorldItemPath, ExternKind, ItemKind, FuncTypeId, InterfaceId, Meaning, PackageParts, Named, IsFresh, id_of, entry_of, Names, ItemsNamed, extern_type_of, world_item_path_of, Parts, means, entry_means, declared_count, Numbering, Key, Error, error_model, Body, externs, with_extern, with_count, Owner, IsConflict, ExternTypeBroken, InstanceBroken, ExternBroken, id_or_empty, HasInstance, HasExtern, values_of, places_of, scope_of, KindIs, grows_self, Expands, AllSupplied, Found, packages_in, context_of, expands_self, grows_expands, supplied_grown, Lists, kinds_of, with_kind, body_in, IsBody, body_still, body_kept, body_with_kind, means_with_kind, extern_fresh}
use Rattle.wac_graph_types.specs.declared.kind.ExternKind.TheVariants as sides
use Rattle.wac_graph_types.specs.declared.kind.ItemKind.TheVariants as kinds
use Rattle.wac_ast_worlds.specs.declared.world.ExternType.{ExternType as CodeExternType}
use Rattle.wac_ast_worlds.specs.declared.world.WorldItemPath.{WorldItemPath as CodeWorldItemPath}
use Rattle.wac_resolution_errors.specs.declared.error.Error.{Error as CodeError}
use Rattle.wac_resolution_rules.specs.Paths as rules
use Rattle.wac_resolution_state.specs.declared.context.Context.{Context}
use Rattle.wac_resolution_worlds.specs.UseStatements.{BodyExpands}
use Rattle.wac_resolution_worlds.specs.Instances.{IsInterfaceKind}
use Rattle.wac_resolution_worlds.specs.Made.{InterfaceMade}
use Rattle.wac_resolution_worlds.specs.Referred.{NewFunc, ExternNamed}
use Rattle.wac_resolution_worlds.specs.WorldItems.{InstanceStep, ExternMade, IdentStep, ExternStep}
use Rattle.wac_resolution_worlds.proofs.Growing.{goes_expand}

same_places : (side : ExternKind) (b : Lists) (name : List ℕ) (k : ItemKind) → places_of (with_kind side b name k).names ≡ places_of b.names ++ []
same_places sides.Import b name k = (let nil : places_of b.names ++ [] ≡ places_of b.names = simp append-nil in sym nil)
same_places sides.Export b name k = (let nil : places_of b.names ++ [] ≡ places_of b.names = simp append-nil in sym nil)

-- ---- instances

pub instance_goes : (g : Parts) (side : ExternKind) (b c : Lists) (k : ItemKind) (i : InterfaceId) (id : List ℕ)
    → IsBody g.types sides.Import b → Names g.types k → IsInterfaceKind k i → ((numbering : Numbering) → id ≡ unwrap_or (id_of (entry_means numbering g i.0)) [])
    → IsFresh id (kinds_of side b) → c ≡ with_kind side b id (kinds.Instance i) → InstanceStep g side k b c
instance_goes g side b c k i id body named h ids fresh is = record {
  grows = (grows_self g).grows;
  body = subst (IsBody g.types sides.Import) (sym is) (body_with_kind g.types sides.Import side b id (kinds.Instance i) body (h.named g.types named));
  places = ap (λ (l : Lists). places_of l.names) is ∙ same_places side b id (kinds.Instance i);
  goes = λ numbering.
      let same : id ≡ id_or_empty (means numbering g k) = ids numbering ∙ sym (ap (λ (m : Meaning). unwrap_or (id_of m) []) (h.entry numbering g)) in
      let after : body_in numbering g c ≡ with_extern side (body_in numbering g b) id (means numbering g (kinds.Instance i)) = ap (body_in numbering g) is ∙ means_with_kind numbering g side b id (kinds.Instance i) in (
        h.is numbering g,
        subst (λ (n : List ℕ). IsFresh n (externs side (body_in numbering g b))) same (extern_fresh numbering g side b id fresh),
        after ∙ ap (λ (n : List ℕ). with_extern side (body_in numbering g b) n (means numbering g (kinds.Instance i))) same ∙ ap (with_extern side (body_in numbering g b) (id_or_empty (means numbering g k))) (h.instance numbering g),
      );
}

-- the id is imported, or exported, already
pub instance_conflicts : (of : Owner) (g : Parts) (side : ExternKind) (b : Lists) (k : ItemKind) (i : InterfaceId) (id name : List ℕ) (at : Span) (e : Error)
    → IsInterfaceKind k i → ((numbering : Numbering) → id ≡ unwrap_or (id_of (entry_means numbering g i.0)) []) → ((numbering : Numbering) → IsConflict of side (body_in numbering g b) id at e)
    → (numbering : Numbering) → InstanceBroken of side (body_in numbering g b) (means numbering g k) name at e
instance_conflicts of g side b k i id name at e h ids conflict numbering =
    let same : id ≡ id_or_empty (means numbering g k) = ids numbering ∙ sym (ap (λ (m : Meaning). unwrap_or (id_of m) []) (h.entry numbering g)) in
    inr (h.is numbering g, subst (λ (n : List ℕ). IsConflict of side (body_in numbering g b) n at e) same (conflict numbering))

-- ---- kinds that are given names

-- the type of what a name denotes
pub named_made : (context : Context) (g : Parts) (root names : Named ItemKind) (x : CodeExternType) (id : Ident) (k : ItemKind) → extern_type_of x ≡ ExternType.ident id → AllSupplied (packages_in context) g
    → ItemsNamed g.types names → ItemsNamed g.types root → ExternNamed names root id k → ExternMade context g g root names (extern_type_of x) k
named_made context g root names x id k is held here there h = subst (λ (y : ExternType). ExternMade context g g root names y k) (sym is) (record {
  grows = expands_self g;
  supplied = held;
  named = h.named g.types here there;
  is = λ numbering. h.is numbering g (context_of numbering context) (declared_count g);
})

pub func_made : (context : Context) (old new : Parts) (root names : Named ItemKind) (x : CodeExternType) (f : FuncType) (id : FuncTypeId) → extern_type_of x ≡ ExternType.func f → AllSupplied (packages_in context) old
    → NewFunc old new names f id → ExternMade context old new root names (extern_type_of x) (kinds.Func id)
func_made context old new root names x f id is held h = subst (λ (y : ExternType). ExternMade context old new root names y (kinds.Func id)) (sym is) (record {
  grows = grows_expands old new h.grows.grows;
  supplied = supplied_grown (packages_in context) old new h.grows.grows held;
  named = h.named;
  is = λ numbering. (entry_means numbering new id.0, h.is numbering, refl, h.grows.count);
})

-- an interface that is written in place
pub inline_made : (context : Context) (old new : Parts) (root names : Named ItemKind) (x : CodeExternType) (i : InlineInterface) (id : InterfaceId) → extern_type_of x ≡ ExternType.interface i
    → InterfaceMade context old new root None i.items id → ExternMade context old new root names (extern_type_of x) (kinds.Instance id)
inline_made context old new root names x i id is h = subst (λ (y : ExternType). ExternMade context old new root names y (kinds.Instance id)) (sym is) (record {
  grows = h.grows;
  supplied = h.supplied;
  named = h.named;
  is = λ numbering. (entry_of (means numbering new (kinds.Instance id)), h.is numbering, refl);
})

pub extern_breaks : (context : Context) (g : Parts) (root names : Named ItemKind) (x : CodeExternType) (y : ExternType) (e : Error) → extern_type_of x ≡ y
    → ((numbering : Numbering) → ExternTypeBroken (context_of numbering context) (scope_of numbering g root) (scope_of numbering g names) (declared_count g) y e)
    → (numbering : Numbering) → ExternTypeBroken (context_of numbering context) (scope_of numbering g root) (scope_of numbering g names) (declared_count g) (extern_type_of x) e
extern_breaks context g root names x y e is h numbering = subst (λ (z : ExternType). ExternTypeBroken (context_of numbering context) (scope_of numbering g root) (scope_of numbering g names) (declared_count g) z e) (sym is) (h numbering)

-- an import or export of a kind that was made
pub kind_goes : (packages : List (Key × PackageParts)) (side : ExternKind) (old new : Parts) (b c : Lists) (name : List ℕ) (k : ItemKind) (rule : Numbering → Body → Body → Type 0)
    → IsBody old.types sides.Import b → Expands old new → AllSupplied packages new → Names new.types k → c ≡ with_kind side b name k
    → ((numbering : Numbering) (after : Body) → after ≡ with_extern side (with_count (body_in numbering old b) (declared_count new)) name (means numbering new k) → rule numbering (body_in numbering old b) after)
    → BodyExpands packages sides.Import old new b c [] rule
kind_goes packages side old new b c name k rule body grows held named is follows = record {
  grows = grows;
  supplied = held;
  body = subst (IsBody new.types sides.Import) (sym is) (body_with_kind new.types sides.Import side b name k (body_still old.types new.types sides.Import b grows.named body) named);
  places = ap (λ (l : Lists). places_of l.names) is ∙ same_places side b name k;
  goes = λ numbering.
      let kept : body_in numbering new b ≡ with_count (body_in numbering old b) (declared_count new) = body_kept numbering old new sides.Import b (grows.kinds numbering) body in
      follows numbering (body_in numbering new c)
      (ap (body_in numbering new) is ∙ means_with_kind numbering new side b name k ∙ ap (λ (l : Body). with_extern side l name (means numbering new k)) kept);
}

pub named_goes : (context : Context) (side : ExternKind) (old new : Parts) (root : Named ItemKind) (b c : Lists) (x : NamedWorldItem) (k : ItemKind)
    → IsBody old.types sides.Import b → IsFresh x.id.string (kinds_of side b) → ExternMade context old new root (values_of b.names) x.ty k → c ≡ with_kind side b x.id.string k → ExternStep context side old new root b c (WorldItemPath.named x)
named_goes context side old new root b c x k body fresh made is =
    kind_goes (packages_in context) side old new b c x.id.string k (λ numbering before after. HasExtern (context_of numbering context) (scope_of numbering old root) side before (WorldItemPath.named x) after) body made.grows made.supplied made.named is
    (λ numbering after same. (extern_fresh numbering old side b x.id.string fresh, (means numbering new k, declared_count new, made.is numbering, same)))

-- ---- kinds that are found

-- the body means the same in the graph with what was found
body_found : (packages : List (Key × PackageParts)) (old new : Parts) (holds : Numbering → Meaning → Type 0) (b : Lists) (k : ItemKind) → IsBody old.types sides.Import b → Found packages old new holds k → (numbering : Numbering) → body_in numbering new b ≡ body_in numbering old b
body_found packages old new holds b k body h numbering = body_kept numbering old new sides.Import b (h.grows.kinds numbering) body ∙ ap (with_count (body_in numbering old b)) h.count

pub body_there : (packages : List (Key × PackageParts)) (old new : Parts) (holds : Numbering → Meaning → Type 0) (b : Lists) (k : ItemKind) → IsBody old.types sides.Import b → Found packages old new holds k → IsBody new.types sides.Import b
body_there packages old new holds b k body h = body_still old.types new.types sides.Import b h.grows.named body

pub path_goes : (context : Context) (side : ExternKind) (old new : Parts) (root : Named ItemKind) (b c : Lists) (p : PackagePath) (k : ItemKind)
    → IsBody old.types sides.Import b → Found (packages_in context) old new (λ numbering m. rules.LeadsTo (context_of numbering context) (scope_of numbering old root) p m) k → InstanceStep new side k b c → ExternStep context side old new root b c (WorldItemPath.path p)
path_goes context side old new root b c p k body found h = record {
  grows = found.grows;
  supplied = found.supplied;
  body = h.body;
  places = h.places;
  goes = λ numbering. (
    means numbering new k,
    found.is numbering,
    subst (λ (before : Body). HasInstance side before (means numbering new k) (body_in numbering new c)) (body_found (packages_in context) old new _ b k body found numbering) (h.goes numbering),
  );
}

pub path_breaks : (context : Context) (of : Owner) (side : ExternKind) (old new : Parts) (root : Named ItemKind) (b : Lists) (p : PackagePath) (k : ItemKind) (e : Error)
    → IsBody old.types sides.Import b → Found (packages_in context) old new (λ numbering m. rules.LeadsTo (context_of numbering context) (scope_of numbering old root) p m) k
    → ((numbering : Numbering) → InstanceBroken of side (body_in numbering new b) (means numbering new k) p.string p.span e)
    → (numbering : Numbering) → ExternBroken (context_of numbering context) (scope_of numbering old root) of side (body_in numbering old b) (WorldItemPath.path p) e
path_breaks context of side old new root b p k e body found h numbering = inr (
  means numbering new k,
  found.is numbering,
  subst (λ (before : Body). InstanceBroken of side before (means numbering new k) p.string p.span e) (body_found (packages_in context) old new _ b k body found numbering) (h numbering),
)

pub ident_goes : (side : ExternKind) (g : Parts) (root : Named ItemKind) (b c : Lists) (x : Ident) (k : ItemKind) → KindIs root x k → InstanceStep g side k b c → IdentStep side g root b c x
ident_goes side g root b c x k is h = record {
  grows = h.grows;
  body = h.body;
  places = h.places;
  goes = λ numbering context. (means numbering g k, is.is numbering g, h.goes numbering);
}

-- ---- either

pub ident_item_goes : (context : Context) (side : ExternKind) (g : Parts) (root : Named ItemKind) (b c : Lists) (x : CodeWorldItemPath) (id : Ident) (r : Result (Unit {0}) CodeError) → world_item_path_of x ≡ WorldItemPath.ident id → AllSupplied (packages_in context) g
    → OnOk r (IdentStep side g root b c id) → OnOk r (ExternStep context side g g root b c (world_item_path_of x))
ident_item_goes context side g root b c x id r is held h =
    subst (λ (y : WorldItemPath). OnOk r (ExternStep context side g g root b c y)) (sym is)
    (OnOk-map r _ (ExternStep context side g g root b c (WorldItemPath.ident id)) (goes_expand (packages_in context) sides.Import g g b c [] _ _ (λ numbering before after p. p (context_of numbering context)) held) h)

pub ident_item_breaks : (context : Context) (of : Owner) (side : ExternKind) (g : Parts) (root : Named ItemKind) (b : Lists) (x : CodeWorldItemPath) (id : Ident) (r : Result (Unit {0}) CodeError) → world_item_path_of x ≡ WorldItemPath.ident id
    → IfErr r (λ e. (numbering : Numbering) (s : rules.Context) → ExternBroken s (scope_of numbering g root) of side (body_in numbering g b) (WorldItemPath.ident id) (error_model e))
    → IfErr r (λ e. (numbering : Numbering) → ExternBroken (context_of numbering context) (scope_of numbering g root) of side (body_in numbering g b) (world_item_path_of x) (error_model e))
ident_item_breaks context of side g root b x id r is h =
    subst (λ (y : WorldItemPath). IfErr r (λ e. (numbering : Numbering) → ExternBroken (context_of numbering context) (scope_of numbering g root) of side (body_in numbering g b) y (error_model e))) (sym is)
    (IfErr-weaker r _ _ (λ e p numbering. p numbering (context_of numbering context)) h)
