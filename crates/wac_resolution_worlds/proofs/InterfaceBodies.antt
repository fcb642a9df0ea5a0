-- Items of interfaces.
use Rattle.wac_resolution_worlds.proofs.Common.{◌≡◌, inr, ℕ, List, [], ◌∷◌, ◌++◌, Option, refl, sym, subst, Result, IfErr, OnOk, String, Global, IfErr-weaker, OnOk-map, Span, ItemTypeDecl, InterfaceExport, ItemKind, FuncTypeId, InterfaceId, Entry, UsedType, Slot, use_children, export_children, EachKind, by_name, Named, Scope, IsFresh, Steps, Fails, Names, ItemsNamed, interface_item_of, Parts, entry_means, declared_count, Numbering, Error, error_model, Owner, of_interface, IsConflict, ItemBroken, UseBroken, InterfaceItemBroken, InterfaceBroken, bound_in_interface_item, bound_in_interface, IsFuncRef, HasInterfaceItem, values_of, places_of, scope_of, AllSupplied, packages_in, context_of, expands_on, grows_expands, supplied_grown, Lists, with_kind, body_in, UsesNamed, IsBody, DeclarationStep, extern_fresh}
use Rattle.wac_ast_grammar.specs.Tree.{Use, InterfaceItem}
use Rattle.wac_graph_types.specs.declared.kind.ExternKind.TheVariants as sides
use Rattle.wac_graph_types.specs.declared.kind.ItemKind.TheVariants as kinds
use Rattle.wac_ast_worlds.specs.declared.interface.InterfaceItem.{InterfaceItem as CodeInterfaceItem}
use Rattle.wac_resolution_errors.specs.declared.error.Error.{Error as CodeError}
use Rattle.wac_resolution_rules.specs.Paths as rules
use Rattle.wac_resolution_state.specs.declared.context.Context.{Context}
use Rattle.wac_resolution_types.proofs.Methods.{func_goes}
use Rattle.wac_resolution_worlds.specs.Made.{no_lists, FuncExportStep, InterfaceItemStep, InterfaceItemSteps, InterfaceOf, InterfaceMade}
use Rattle.wac_resolution_worlds.specs.Referred.{FuncRefIs}
use Rattle.wac_resolution_worlds.proofs.Growing.{goes_expand}

-- ---- exports of functions

pub export_goes : (old new : Parts) (b c : Lists) (x : InterfaceExport) (f : FuncTypeId)
    → IsBody old.types sides.Export b → FuncRefIs old new (values_of b.names) x.ty f → IsFresh x.id.string b.exports → c ≡ with_kind sides.Export b x.id.string (kinds.Func f) → FuncExportStep old new b c x
export_goes old new b c x f body added fresh is =
    func_goes sides.Export old new b c (λ numbering scope entry. IsFuncRef scope x.ty entry) f x.id.string x.id.string
    (λ numbering before after. (context : rules.Context) (root : Scope) → HasInterfaceItem context root before (InterfaceItem.interface_export x) after) body added refl is
    (λ numbering entry after holds made context root. (entry, holds, extern_fresh numbering old sides.Export b x.id.string fresh, made))

-- the name is exported already
pub export_conflicts : (of : Owner) (old new : Parts) (b : Lists) (x : InterfaceExport) (f : FuncTypeId) (e : Error)
    → FuncRefIs old new (values_of b.names) x.ty f → ((numbering : Numbering) → IsConflict of sides.Export (body_in numbering old b) x.id.string x.id.span e)
    → (numbering : Numbering) (context : rules.Context) (root : Scope) (before : List InterfaceItem) → InterfaceItemBroken context root of e (body_in numbering old b) before (InterfaceItem.interface_export x)
export_conflicts of old new b x f e added h numbering context root before = inr (entry_means numbering new f.0, added.is numbering, h numbering)

-- ---- empty bodies

pub empty_is_body : (es : List Entry) (b : Lists) → b ≡ no_lists → IsBody es sides.Export b
empty_is_body es b is = subst (IsBody es sides.Export) (sym is) (record { names = tt; uses = tt; imports = tt; exports = tt; bound = λ name h. refl; used = λ name h. refl })

-- ---- one item

abbrev pub ItemBreaks : Context → Parts → Named ItemKind → Owner → Lists → InterfaceItem → CodeError → Type 0
ItemBreaks context g root of b x e =
    (numbering : Numbering) (before : List InterfaceItem) → places_of b.names ≡ bound_in_interface before → InterfaceItemBroken (context_of numbering context) (scope_of numbering g root) of (error_model e) (body_in numbering g b) before x

pub use_breaks : (context : Context) (g : Parts) (root : Named ItemKind) (of : Owner) (b : Lists) (x : CodeInterfaceItem) (u : Use) (r : Result (Unit {0}) CodeError) → interface_item_of x ≡ InterfaceItem.use_statement u
    → IfErr r (λ e. (numbering : Numbering) → UseBroken (context_of numbering context) (scope_of numbering g root) sides.Export (body_in numbering g b) u (error_model e))
    → IfErr r (ItemBreaks context g root of b (interface_item_of x))
use_breaks context g root of b x u r is h =
    subst (λ (y : InterfaceItem). IfErr r (ItemBreaks context g root of b y)) (sym is)
    (IfErr-weaker r _ (ItemBreaks context g root of b (InterfaceItem.use_statement u)) (λ e p numbering before places. p numbering) h)

pub export_breaks : (context : Context) (g : Parts) (root : Named ItemKind) (of : Owner) (b : Lists) (x : CodeInterfaceItem) (f : InterfaceExport) (r : Result (Unit {0}) CodeError) → interface_item_of x ≡ InterfaceItem.interface_export f
    → IfErr r (λ e. (numbering : Numbering) (s : rules.Context) (top : Scope) (before : List InterfaceItem) → InterfaceItemBroken s top of (error_model e) (body_in numbering g b) before (InterfaceItem.interface_export f))
    → IfErr r (ItemBreaks context g root of b (interface_item_of x))
export_breaks context g root of b x f r is h =
    subst (λ (y : InterfaceItem). IfErr r (ItemBreaks context g root of b y)) (sym is)
    (IfErr-weaker r _ (ItemBreaks context g root of b (InterfaceItem.interface_export f)) (λ e p numbering before places. p numbering (context_of numbering context) (scope_of numbering g root) before) h)

pub declaration_breaks : (context : Context) (g : Parts) (root : Named ItemKind) (of : Owner) (b : Lists) (x : CodeInterfaceItem) (d : ItemTypeDecl) (r : Result (Unit {0}) CodeError) → interface_item_of x ≡ InterfaceItem.ty d
    → IfErr r (λ e. (numbering : Numbering) → ItemBroken numbering of sides.Export (places_of b.names) (body_in numbering g b) d (error_model e))
    → IfErr r (ItemBreaks context g root of b (interface_item_of x))
declaration_breaks context g root of b x d r is h =
    subst (λ (y : InterfaceItem). IfErr r (ItemBreaks context g root of b y)) (sym is)
    (IfErr-weaker r _ (ItemBreaks context g root of b (InterfaceItem.ty d))
    (λ e p numbering before places. subst (λ (l : Named Span). ItemBroken numbering of sides.Export l (body_in numbering g b) d (error_model e)) places (p numbering)) h)

pub export_item : (context : Context) (old new : Parts) (root : Named ItemKind) (b c : Lists) (x : CodeInterfaceItem) (f : InterfaceExport) (r : Result (Unit {0}) CodeError) → interface_item_of x ≡ InterfaceItem.interface_export f → AllSupplied (packages_in context) old
    → OnOk r (FuncExportStep old new b c f) → OnOk r (InterfaceItemStep context old new root b c (interface_item_of x))
export_item context old new root b c x f r is held h =
    subst (λ (y : InterfaceItem). OnOk r (InterfaceItemStep context old new root b c y)) (sym is)
    (OnOk-map r _ (InterfaceItemStep context old new root b c (InterfaceItem.interface_export f))
    (goes_expand (packages_in context) sides.Export old new b c [] _ _ (λ numbering before after p. p (context_of numbering context) (scope_of numbering old root)) held) h)

pub declaration_item : (context : Context) (old new : Parts) (root : Named ItemKind) (b c : Lists) (x : CodeInterfaceItem) (d : ItemTypeDecl) (r : Result (Unit {0}) CodeError) → interface_item_of x ≡ InterfaceItem.ty d → AllSupplied (packages_in context) old
    → OnOk r (DeclarationStep sides.Export old new b c d) → OnOk r (InterfaceItemStep context old new root b c (interface_item_of x))
declaration_item context old new root b c x d r is held h =
    subst (λ (y : InterfaceItem). OnOk r (InterfaceItemStep context old new root b c y)) (sym is)
    (OnOk-map r _ (InterfaceItemStep context old new root b c (InterfaceItem.ty d))
    (goes_expand (packages_in context) sides.Export old new b c (bound_in_interface_item (InterfaceItem.ty d)) _ _ (λ numbering before after p. p) held) h)

-- ---- interfaces

-- a body's lists name entries of the table
pub uses_each : (es : List Entry) (all : List (String Global × UsedType)) → UsesNamed es (by_name all) → EachKind (Names es) (use_children all)
uses_each es [] h = tt
uses_each es (u ∷ all) h = (h.0, uses_each es all h.1)

pub exports_each : (es : List Entry) (all : List (String Global × ItemKind)) → ItemsNamed es (by_name all) → EachKind (Names es) (export_children all)
exports_each es [] h = tt
exports_each es (e ∷ all) h = (h.0, exports_each es all h.1)

pub each_of_both : (es : List Entry) (cs ds : List (Slot × Option ItemKind)) → EachKind (Names es) cs → EachKind (Names es) ds → EachKind (Names es) (cs ++ ds)
each_of_both es [] ds p q = q
each_of_both es (c ∷ cs) ds p q = (p.0, each_of_both es cs ds p.1 q)

pub interface_kinds : (es : List Entry) (b : Lists) (uses : List (String Global × UsedType)) (exports : List (String Global × ItemKind)) → by_name uses ≡ b.uses → by_name exports ≡ b.exports → IsBody es sides.Export b
    → EachKind (Names es) (use_children uses ++ export_children exports)
interface_kinds es b uses exports used exported h =
    each_of_both es (use_children uses) (export_children exports) (uses_each es uses (subst (UsesNamed es) (sym used) h.uses)) (exports_each es exports (subst (ItemsNamed es) (sym exported) h.exports))

pub interface_made : (context : Context) (old mid new : Parts) (root : Named ItemKind) (b c : Lists) (id : Option (List ℕ)) (items : List InterfaceItem) (i : InterfaceId) → b ≡ no_lists
    → InterfaceItemSteps context old mid root b c items → InterfaceOf mid new id c i → InterfaceMade context old new root id items i
interface_made context old mid new root b c id items i empty p a = record {
  grows = expands_on old mid new p.grows (grows_expands mid new a.grows.grows);
  supplied = supplied_grown (packages_in context) mid new a.grows.grows p.supplied;
  named = a.named;
  is = λ numbering. (
    body_in numbering mid c,
    subst (λ (l : Lists). Steps (HasInterfaceItem (context_of numbering context) (scope_of numbering old root)) (body_in numbering old l) items (body_in numbering mid c)) empty (p.goes numbering),
    a.is numbering,
    a.grows.count,
  );
}

-- an item is broken
pub items_broken : (context : Context) (g : Parts) (root : Named ItemKind) (b : Lists) (name : Option (List ℕ)) (items : List InterfaceItem) (e : Error) → b ≡ no_lists
    → ((numbering : Numbering) → Fails (HasInterfaceItem (context_of numbering context) (scope_of numbering g root)) (InterfaceItemBroken (context_of numbering context) (scope_of numbering g root) (of_interface name) e) (body_in numbering g b) items)
    → (numbering : Numbering) → InterfaceBroken (context_of numbering context) (scope_of numbering g root) name (declared_count g) items e
items_broken context g root b name items e empty h numbering =
    subst (λ (l : Lists). Fails (HasInterfaceItem (context_of numbering context) (scope_of numbering g root)) (InterfaceItemBroken (context_of numbering context) (scope_of numbering g root) (of_interface name) e) (body_in numbering g l) items) empty (h numbering)
