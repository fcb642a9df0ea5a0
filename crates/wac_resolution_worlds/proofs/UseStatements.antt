-- The types of an interface that is named.
use Rattle.wac_resolution_worlds.proofs.Common.{◌≡◌, ◌∙◌, inl, inr, refl, ap, subst, UsePath, ExternKind, InterfaceId, ItemKind, Named, Steps, Fails, Parts, means, Numbering, Error, Body, with_count, UsesItem, UseItemBroken, UseBroken, use_path_name, scope_of, context_of, Lists, body_in, IsBody, body_still, body_kept}
use Rattle.wac_ast_grammar.specs.Tree.{Use}
use Rattle.wac_graph_types.specs.declared.kind.ItemKind.TheVariants as kinds
use Rattle.wac_graph_types.specs.declared.kind.«Type».TheVariants as types
use Rattle.wac_resolution_state.specs.declared.context.Context.{Context}
use Rattle.wac_resolution_worlds.specs.Used.{UseSteps}
use Rattle.wac_resolution_worlds.specs.UseStatements.{IsInterface, IsNoneNamed, UseStatementStep}

-- the body means the same in the graph with the interface
body_same : (context : Context) (side : ExternKind) (old new : Parts) (root : Named ItemKind) (b : Lists) (used : UsePath) (i : InterfaceId) → IsBody old.types side b → IsInterface context old new root used i
    → (numbering : Numbering) → body_in numbering new b ≡ body_in numbering old b
body_same context side old new root b used i body h numbering = body_kept numbering old new side b (h.grows.kinds numbering) body ∙ ap (with_count (body_in numbering old b)) h.count

pub body_there : (context : Context) (side : ExternKind) (old new : Parts) (root : Named ItemKind) (b : Lists) (used : UsePath) (i : InterfaceId) → IsBody old.types side b → IsInterface context old new root used i → IsBody new.types side b
body_there context side old new root b used i body h = body_still old.types new.types side b h.grows.named body

pub statement_goes : (context : Context) (side : ExternKind) (old new : Parts) (root : Named ItemKind) (b c : Lists) (u : Use) (i : InterfaceId) → IsBody old.types side b → IsInterface context old new root u.path i
    → UseSteps side new i b c u.items → UseStatementStep context side old new root b c u
statement_goes context side old new root b c u i body h go = record {
  grows = h.grows;
  supplied = h.supplied;
  body = go.body;
  places = go.places;
  goes = λ numbering. (
    means numbering new (kinds.Ty (types.Interface i)),
    h.is numbering,
    refl,
    subst (λ (before : Body). Steps (UsesItem side (means numbering new (kinds.Instance i))) before u.items (body_in numbering new c)) (body_same context side old new root b u.path i body h numbering) (go.goes numbering),
  );
}

-- no interface is named
pub none_named : (context : Context) (side : ExternKind) (g : Parts) (root : Named ItemKind) (b : Lists) (u : Use) (e : Error) → ((numbering : Numbering) → IsNoneNamed (context_of numbering context) (scope_of numbering g root) u.path e)
    → (numbering : Numbering) → UseBroken (context_of numbering context) (scope_of numbering g root) side (body_in numbering g b) u e
none_named context side g root b u e h numbering = go (h numbering)
  where
    go : IsNoneNamed (context_of numbering context) (scope_of numbering g root) u.path e → UseBroken (context_of numbering context) (scope_of numbering g root) side (body_in numbering g b) u e
    go (inl p) = inl p
    go (inr p) = inr (p.0, p.1, inl p.2)

-- a used type is broken
pub uses_broken : (context : Context) (side : ExternKind) (old new : Parts) (root : Named ItemKind) (b : Lists) (u : Use) (i : InterfaceId) (e : Error) → IsBody old.types side b → IsInterface context old new root u.path i
    → ((numbering : Numbering) → Fails (UsesItem side (means numbering new (kinds.Instance i))) (UseItemBroken side (means numbering new (kinds.Instance i)) (use_path_name u.path) e) (body_in numbering new b) u.items)
    → (numbering : Numbering) → UseBroken (context_of numbering context) (scope_of numbering old root) side (body_in numbering old b) u e
uses_broken context side old new root b u i e body h fails numbering = inr (
  means numbering new (kinds.Ty (types.Interface i)),
  h.is numbering,
  inr (
    refl,
    subst (λ (before : Body). Fails (UsesItem side (means numbering new (kinds.Instance i))) (UseItemBroken side (means numbering new (kinds.Instance i)) (use_path_name u.path) e) before u.items) (body_same context side old new root b u.path i body h numbering) (fails numbering),
  ),
)
