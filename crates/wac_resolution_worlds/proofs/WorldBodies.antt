-- Items of worlds, and worlds.
use Rattle.wac_resolution_worlds.proofs.Common.{◌≡◌, inl, inr, ℕ, List, [], ◌∷◌, ◌++◌, Option, refl, sym, subst, append-nil, Result, IfErr, OnOk, String, Global, IfErr-weaker, OnOk-map, Span, ItemTypeDecl, WorldImport, WorldExport, WorldInclude, ItemKind, WorldId, Entry, UsedType, use_children, import_children, export_children, EachKind, by_name, Named, Steps, Fails, Names, ItemsNamed, world_item_of, Parts, declared_count, Numbering, Error, error_model, Owner, of_world, ItemBroken, UseBroken, ExternBroken, WorldItemBroken, IncludeBroken, WorldBroken, HasInclude, bound_in_world_item, bound_in_world, HasWorldItem, includes_of, places_of, scope_of, AllSupplied, packages_in, context_of, expands_self, expands_on, grows_expands, supplied_grown, scope_expanded, Lists, body_in, UsesNamed, IsBody, DeclarationStep}
use Rattle.wac_ast_grammar.specs.Tree.{Use, WorldItem}
use Rattle.wac_graph_types.specs.declared.kind.ExternKind.TheVariants as sides
use Rattle.wac_ast_worlds.specs.declared.world.WorldItem.{WorldItem as CodeWorldItem}
use Rattle.wac_resolution_errors.specs.declared.error.Error.{Error as CodeError}
use Rattle.wac_resolution_state.specs.declared.context.Context.{Context}
use Rattle.wac_resolution_worlds.specs.Made.{no_lists}
use Rattle.wac_resolution_worlds.specs.WorldItems.{WorldItemStep, WorldItemSteps, AreNamed, IncludeSteps, WorldOf, WorldMade}
use Rattle.wac_resolution_worlds.proofs.Growing.{goes_expand}
use Rattle.wac_resolution_worlds.proofs.InterfaceBodies.{uses_each, exports_each, each_of_both}

-- ---- one item

abbrev pub WorldItemBreaks : Context → Parts → Named ItemKind → Owner → Lists → WorldItem → CodeError → Type 0
WorldItemBreaks context g root of b x e =
    (numbering : Numbering) (before : List WorldItem) → places_of b.names ≡ bound_in_world before → WorldItemBroken (context_of numbering context) (scope_of numbering g root) of (error_model e) (body_in numbering g b) before x

pub use_breaks : (context : Context) (g : Parts) (root : Named ItemKind) (of : Owner) (b : Lists) (x : CodeWorldItem) (u : Use) (r : Result (Unit {0}) CodeError) → world_item_of x ≡ WorldItem.use_statement u
    → IfErr r (λ e. (numbering : Numbering) → UseBroken (context_of numbering context) (scope_of numbering g root) sides.Import (body_in numbering g b) u (error_model e))
    → IfErr r (WorldItemBreaks context g root of b (world_item_of x))
use_breaks context g root of b x u r is h =
    subst (λ (y : WorldItem). IfErr r (WorldItemBreaks context g root of b y)) (sym is)
    (IfErr-weaker r _ (WorldItemBreaks context g root of b (WorldItem.use_statement u)) (λ e p numbering before places. p numbering) h)

pub import_breaks : (context : Context) (g : Parts) (root : Named ItemKind) (of : Owner) (b : Lists) (x : CodeWorldItem) (i : WorldImport) (r : Result (Unit {0}) CodeError) → world_item_of x ≡ WorldItem.world_import i
    → IfErr r (λ e. (numbering : Numbering) → ExternBroken (context_of numbering context) (scope_of numbering g root) of sides.Import (body_in numbering g b) i.path (error_model e))
    → IfErr r (WorldItemBreaks context g root of b (world_item_of x))
import_breaks context g root of b x i r is h =
    subst (λ (y : WorldItem). IfErr r (WorldItemBreaks context g root of b y)) (sym is)
    (IfErr-weaker r _ (WorldItemBreaks context g root of b (WorldItem.world_import i)) (λ e p numbering before places. p numbering) h)

pub export_breaks : (context : Context) (g : Parts) (root : Named ItemKind) (of : Owner) (b : Lists) (x : CodeWorldItem) (i : WorldExport) (r : Result (Unit {0}) CodeError) → world_item_of x ≡ WorldItem.world_export i
    → IfErr r (λ e. (numbering : Numbering) → ExternBroken (context_of numbering context) (scope_of numbering g root) of sides.Export (body_in numbering g b) i.path (error_model e))
    → IfErr r (WorldItemBreaks context g root of b (world_item_of x))
export_breaks context g root of b x i r is h =
    subst (λ (y : WorldItem). IfErr r (WorldItemBreaks context g root of b y)) (sym is)
    (IfErr-weaker r _ (WorldItemBreaks context g root of b (WorldItem.world_export i)) (λ e p numbering before places. p numbering) h)

pub declaration_breaks : (context : Context) (g : Parts) (root : Named ItemKind) (of : Owner) (b : Lists) (x : CodeWorldItem) (d : ItemTypeDecl) (r : Result (Unit {0}) CodeError) → world_item_of x ≡ WorldItem.ty d
    → IfErr r (λ e. (numbering : Numbering) → ItemBroken numbering of sides.Import (places_of b.names) (body_in numbering g b) d (error_model e))
    → IfErr r (WorldItemBreaks context g root of b (world_item_of x))
declaration_breaks context g root of b x d r is h =
    subst (λ (y : WorldItem). IfErr r (WorldItemBreaks context g root of b y)) (sym is)
    (IfErr-weaker r _ (WorldItemBreaks context g root of b (WorldItem.ty d))
    (λ e p numbering before places. subst (λ (l : Named Span). ItemBroken numbering of sides.Import l (body_in numbering g b) d (error_model e)) places (p numbering)) h)

pub declaration_item : (context : Context) (old new : Parts) (root : Named ItemKind) (b c : Lists) (x : CodeWorldItem) (d : ItemTypeDecl) (r : Result (Unit {0}) CodeError) → world_item_of x ≡ WorldItem.ty d → AllSupplied (packages_in context) old
    → OnOk r (DeclarationStep sides.Import old new b c d) → OnOk r (WorldItemStep context old new root b c (world_item_of x))
declaration_item context old new root b c x d r is held h =
    subst (λ (y : WorldItem). OnOk r (WorldItemStep context old new root b c y)) (sym is)
    (OnOk-map r _ (WorldItemStep context old new root b c (WorldItem.ty d))
    (goes_expand (packages_in context) sides.Import old new b c (bound_in_world_item (WorldItem.ty d)) _ _ (λ numbering before after p. p) held) h)

-- an include comes afterwards
pub include_item : (context : Context) (g : Parts) (root : Named ItemKind) (b : Lists) (x : CodeWorldItem) (i : WorldInclude) → world_item_of x ≡ WorldItem.world_include i → AllSupplied (packages_in context) g → IsBody g.types sides.Import b
    → WorldItemStep context g g root b b (world_item_of x)
include_item context g root b x i is held h = subst (WorldItemStep context g g root b b) (sym is) (record {
  grows = expands_self g;
  supplied = held;
  body = h;
  places = (let nil : places_of b.names ++ [] ≡ places_of b.names = simp append-nil in sym nil);
  goes = λ numbering. refl;
})

pub empty_is_body : (es : List Entry) (b : Lists) → b ≡ no_lists → IsBody es sides.Import b
empty_is_body es b is = subst (IsBody es sides.Import) (sym is) (record { names = tt; uses = tt; imports = tt; exports = tt; bound = λ name h. refl; used = λ name h. refl })

-- ---- worlds

pub body_named : (es : List Entry) (b : Lists) → IsBody es sides.Import b → AreNamed es b
body_named es b h = record { names = h.names; uses = h.uses; imports = h.imports; exports = h.exports }

-- a body's lists name entries of the table
imports_each : (es : List Entry) (all : List (String Global × ItemKind)) → ItemsNamed es (by_name all) → EachKind (Names es) (import_children all)
imports_each es [] h = tt
imports_each es (e ∷ all) h = (h.0, imports_each es all h.1)

pub world_kinds : (es : List Entry) (b : Lists) (uses : List (String Global × UsedType)) (imports exports : List (String Global × ItemKind)) → by_name uses ≡ b.uses → by_name imports ≡ b.imports → by_name exports ≡ b.exports → AreNamed es b
    → EachKind (Names es) (use_children uses ++ import_children imports ++ export_children exports)
world_kinds es b uses imports exports used imported exported h =
    each_of_both es (use_children uses ++ import_children imports) (export_children exports)
    (each_of_both es (use_children uses) (import_children imports) (uses_each es uses (subst (UsesNamed es) (sym used) h.uses)) (imports_each es imports (subst (ItemsNamed es) (sym imported) h.imports)))
    (exports_each es exports (subst (ItemsNamed es) (sym exported) h.exports))

pub world_made : (context : Context) (old mid late new : Parts) (root : Named ItemKind) (b c d : Lists) (id : Option (List ℕ)) (items : List WorldItem) (w : WorldId) → b ≡ no_lists → ItemsNamed old.types root
    → WorldItemSteps context old mid root b c items → IncludeSteps context mid late root c d (includes_of items) → WorldOf late new id d w → WorldMade context old new root id items w
world_made context old mid late new root b c d id items w empty named p q a = record {
  grows = expands_on old late new (expands_on old mid late p.grows q.grows) (grows_expands late new a.grows.grows);
  supplied = supplied_grown (packages_in context) late new a.grows.grows q.supplied;
  named = a.named;
  is = λ numbering. (
    body_in numbering mid c,
    body_in numbering late d,
    subst (λ (l : Lists). Steps (HasWorldItem (context_of numbering context) (scope_of numbering old root)) (body_in numbering old l) items (body_in numbering mid c)) empty (p.goes numbering),
    subst (λ s. Steps (HasInclude (context_of numbering context) s) (body_in numbering mid c) (includes_of items) (body_in numbering late d)) (scope_expanded old mid root numbering p.grows named) (q.goes numbering),
    a.is numbering,
    a.grows.count,
  );
}

-- an item is broken
pub items_broken : (context : Context) (g : Parts) (root : Named ItemKind) (b : Lists) (name : List ℕ) (items : List WorldItem) (e : Error) → b ≡ no_lists
    → ((numbering : Numbering) → Fails (HasWorldItem (context_of numbering context) (scope_of numbering g root)) (WorldItemBroken (context_of numbering context) (scope_of numbering g root) (of_world name) e) (body_in numbering g b) items)
    → (numbering : Numbering) → WorldBroken (context_of numbering context) (scope_of numbering g root) name (declared_count g) items e
items_broken context g root b name items e empty h numbering =
    inl (subst (λ (l : Lists). Fails (HasWorldItem (context_of numbering context) (scope_of numbering g root)) (WorldItemBroken (context_of numbering context) (scope_of numbering g root) (of_world name) e) (body_in numbering g l) items) empty (h numbering))

-- an include is broken
pub includes_broken : (context : Context) (old mid : Parts) (root : Named ItemKind) (b c : Lists) (name : List ℕ) (items : List WorldItem) (e : Error) → b ≡ no_lists → ItemsNamed old.types root
    → WorldItemSteps context old mid root b c items
    → ((numbering : Numbering) → Fails (HasInclude (context_of numbering context) (scope_of numbering mid root)) (IncludeBroken (context_of numbering context) (scope_of numbering mid root) name e) (body_in numbering mid c) (includes_of items))
    → (numbering : Numbering) → WorldBroken (context_of numbering context) (scope_of numbering old root) name (declared_count old) items e
includes_broken context old mid root b c name items e empty named p h numbering = inr (
  body_in numbering mid c,
  subst (λ (l : Lists). Steps (HasWorldItem (context_of numbering context) (scope_of numbering old root)) (body_in numbering old l) items (body_in numbering mid c)) empty (p.goes numbering),
  subst (λ s. Fails (HasInclude (context_of numbering context) s) (IncludeBroken (context_of numbering context) s name e) (body_in numbering mid c) (includes_of items)) (scope_expanded old mid root numbering p.grows named) (h numbering),
)
