-- What identifiers denote in bodies and at root.
use Rattle.wac_resolution_worlds.proofs.Common.{◌≡◌, ◌∙◌, ◌++◌, ℕ, List, [], ◌∷◌, Option, Some, None, Bool, true, false, cond, refl, sym, ap, subst, inr, option_map, Ident, FuncType, FuncTypeRef, ExternType, ItemKind, ValueType, FuncTypeId, InterfaceId, Entry, Meaning, of_kind, Named, look_up, StandsFor, IsFresh, items_mean, ItemsNamed, Parts, means, entry_means, Numbering, Error, FuncRefBroken, ExternTypeBroken, func_type_ref_of, scope_of, KindIs, grows_self, memory_model}
use Rattle.std.specs.Str.{bytes_eq}
use Rattle.wac_graph_types.specs.declared.kind.ItemKind.TheVariants as kinds
use Rattle.wac_graph_types.specs.declared.kind.«Type».TheVariants as types
use Rattle.wac_graph_types.specs.declared.kind.FuncKind.TheVariants as funcs
use Rattle.wac_graph_types.proofs.Shapes.{items_found}
use Rattle.wac_graph_types.proofs.Found.{found_named}
use Rattle.wac_resolution_rules.specs.Types.{IsFuncWith}
use Rattle.wac_resolution_rules.specs.BrokenTypes.{FuncBroken}
use Rattle.wac_resolution_rules.specs.Paths.{Context}
use Rattle.wac_ast_types.specs.declared.func_type.FuncTypeRef.{FuncTypeRef as CodeFuncTypeRef}
use Rattle.wac_resolution_types.specs.Funcs.{types_named, FuncIs}
use Rattle.wac_resolution_worlds.specs.Referred.{FuncNamed, NewFunc, FuncRefIs, IsExternKind, IsNoExternKind, ExternNamed}
use Rattle.wac_resolution_worlds.specs.Instances.{IsInterfaceKind}

-- ---- functions

-- a function type denotes itself
pub func_type_named : (ks : Named ItemKind) (x : Ident) (f : FuncTypeId) → KindIs ks x (kinds.Ty (types.Func f)) → FuncNamed ks x f
func_type_named ks x f h = record { is = λ numbering g. (means numbering g (kinds.Ty (types.Func f)), h.is numbering g, refl, refl); named = h.named }

-- a function denotes its type
pub func_named : (ks : Named ItemKind) (x : Ident) (f : FuncTypeId) → KindIs ks x (kinds.Func f) → FuncNamed ks x f
func_named ks x f h = record { is = λ numbering g. (means numbering g (kinds.Func f), h.is numbering g, refl, refl); named = h.named }

pub ruleset funcs_found = (func_type_named, func_named, memory_model)

pub new_func_is : (old new : Parts) (ks : Named ItemKind) (first : Named ValueType) (f : FuncType) (id : FuncTypeId) → first ≡ [] → FuncIs old new ks first f id → NewFunc old new ks f id
new_func_is old new ks first f id none h = record {
  grows = h.grows;
  named = h.named;
  is = λ numbering. subst (λ (l : Named ValueType). IsFuncWith (scope_of numbering old ks) (types_named numbering old l) f (entry_means numbering new id.0)) none (h.is numbering);
}

pub new_func_breaks : (g : Parts) (ks : Named ItemKind) (first : Named ValueType) (f : FuncType) (e : Error) → first ≡ [] → ((numbering : Numbering) → FuncBroken funcs.Free (scope_of numbering g ks) (types_named numbering g first) f e) → (numbering : Numbering) → FuncBroken funcs.Free (scope_of numbering g ks) [] f e
new_func_breaks g ks first f e none h numbering = subst (λ (l : Named ValueType). FuncBroken funcs.Free (scope_of numbering g ks) (types_named numbering g l) f e) none (h numbering)

-- an identifier adds nothing
pub named_ref_is : (g : Parts) (ks : Named ItemKind) (x : Ident) (f : FuncTypeId) → ItemsNamed g.types ks → FuncNamed ks x f → FuncRefIs g g ks (FuncTypeRef.ident x) f
named_ref_is g ks x f named h = record { grows = grows_self g; named = h.named g.types named; is = λ numbering. h.is numbering g }

pub new_ref_is : (old new : Parts) (ks : Named ItemKind) (f : FuncType) (id : FuncTypeId) → NewFunc old new ks f id → FuncRefIs old new ks (FuncTypeRef.func f) id
new_ref_is old new ks f id h = record { grows = h.grows; named = h.named; is = h.is }

-- the same by the code's trees
pub ref_is : (old new : Parts) (ks : Named ItemKind) (x y : CodeFuncTypeRef) (id : FuncTypeId) → x ≡ y → FuncRefIs old new ks (func_type_ref_of y) id → FuncRefIs old new ks (func_type_ref_of x) id
ref_is old new ks x y id is h = subst (λ (z : CodeFuncTypeRef). FuncRefIs old new ks (func_type_ref_of z) id) (sym is) h

pub ref_breaks : (g : Parts) (ks : Named ItemKind) (x y : CodeFuncTypeRef) (e : Error) → x ≡ y → ((numbering : Numbering) → FuncRefBroken (scope_of numbering g ks) (func_type_ref_of y) e) → (numbering : Numbering) → FuncRefBroken (scope_of numbering g ks) (func_type_ref_of x) e
ref_breaks g ks x y e is h numbering = subst (λ (z : CodeFuncTypeRef). FuncRefBroken (scope_of numbering g ks) (func_type_ref_of z) e) (sym is) (h numbering)

-- ---- in a body, else at root

-- what a name finds among names or among others
found_after : {X : Type 0} (name : List ℕ) (xs ys : Named X) → look_up name (xs ++ ys) ≡ elim (look_up name xs) [ None ↦ look_up name ys | Some x ↦ Some x ]
found_after name [] ys = refl
found_after {X} name (e ∷ xs) ys = go (found_after name xs ys) (bytes_eq name e.0)
  where
    go : look_up name (xs ++ ys) ≡ elim (look_up name xs) [ None ↦ look_up name ys | Some x ↦ Some x ] → (b : Bool)
        → cond b (Some e.1) (look_up name (xs ++ ys)) ≡ elim (cond b (Some e.1) (look_up name xs)) [ None ↦ look_up name ys | Some x ↦ Some x ]
    go later true = refl
    go later false = later

pub found_in_first : {X : Type 0} (name : List ℕ) (xs ys : Named X) (x : X) → look_up name xs ≡ Some x → Some x ≡ look_up name (xs ++ ys)
found_in_first {X} name xs ys x is = sym (found_after name xs ys ∙ ap (λ (o : Option X). elim o [ None ↦ look_up name ys | Some y ↦ Some y ]) is)

pub found_in_second : {X : Type 0} (name : List ℕ) (xs ys : Named X) (o : Option X) → look_up name xs ≡ None → o ≡ look_up name ys → o ≡ look_up name (xs ++ ys)
found_in_second {X} name xs ys o none is = is ∙ sym (found_after name xs ys ∙ ap (λ (p : Option X). elim p [ None ↦ look_up name ys | Some y ↦ Some y ]) none)

pub ruleset either_found = (found_in_first, found_in_second)

means_after : (f : ℕ → Meaning) (ks root : Named ItemKind) → items_mean f (ks ++ root) ≡ items_mean f ks ++ items_mean f root
means_after f [] root = refl
means_after f (k ∷ ks) root = ap (λ (l : Named Meaning). (k.0, of_kind f k.1) ∷ l) (means_after f ks root)

named_after : (es : List Entry) (ks root : Named ItemKind) → ItemsNamed es ks → ItemsNamed es root → ItemsNamed es (ks ++ root)
named_after es [] root h i = i
named_after es (k ∷ ks) root h i = (h.0, named_after es ks root h.1 i)

pub either_stands : (numbering : Numbering) (g : Parts) (ks root : Named ItemKind) (name : List ℕ) (k : ItemKind) → look_up name (ks ++ root) ≡ Some k → StandsFor (scope_of numbering g ks ++ scope_of numbering g root) name (means numbering g k)
either_stands numbering g ks root name k is =
    ap (look_up name) (sym (means_after (entry_means numbering g) ks root)) ∙ items_found (entry_means numbering g) (ks ++ root) name ∙ ap (option_map (means numbering g)) is

pub either_fresh : (numbering : Numbering) (g : Parts) (ks root : Named ItemKind) (name : List ℕ) → look_up name (ks ++ root) ≡ None → IsFresh name (scope_of numbering g ks ++ scope_of numbering g root)
either_fresh numbering g ks root name is =
    ap (look_up name) (sym (means_after (entry_means numbering g) ks root)) ∙ items_found (entry_means numbering g) (ks ++ root) name ∙ ap (option_map (means numbering g)) is

pub func_item : (f : FuncTypeId) → IsExternKind (kinds.Ty (types.Func f)) (kinds.Func f)
func_item f = record { is = λ numbering g. refl; promotes = λ numbering g. refl; named = λ es h. h }

pub interface_item : (i : InterfaceId) → IsExternKind (kinds.Ty (types.Interface i)) (kinds.Instance i)
interface_item i = record { is = λ numbering g. refl; promotes = λ numbering g. refl; named = λ es h. h }

pub ruleset items_told = (func_item, interface_item, memory_model)

pub extern_named : (ks root : Named ItemKind) (x : Ident) (k item : ItemKind) → look_up x.string (ks ++ root) ≡ Some k → IsExternKind k item → ExternNamed ks root x item
extern_named ks root x k item is h = record {
  is = λ numbering g context n. (means numbering g k, either_stands numbering g ks root x.string k is, h.is numbering g, h.promotes numbering g, refl);
  named = λ es p q. h.named es (found_named es x.string (ks ++ root) k (named_after es ks root p q) is);
}

pub extern_breaks : (ks root : Named ItemKind) (x : Ident) (k : ItemKind) (e : Error) → look_up x.string (ks ++ root) ≡ Some k → IsNoExternKind k x e
    → (numbering : Numbering) (g : Parts) (context : Context) (n : ℕ) → ExternTypeBroken context (scope_of numbering g root) (scope_of numbering g ks) n (ExternType.ident x) e
extern_breaks ks root x k e is h numbering g context n =
    let p = h numbering g in
    inr (means numbering g k, either_stands numbering g ks root x.string k is, p.0, p.1)

pub ruleset either_told = (either_fresh, memory_model)

-- ---- interfaces

pub interface_is : (i : InterfaceId) → IsInterfaceKind (kinds.Ty (types.Interface i)) i
interface_is i = record { is = λ numbering g. refl; entry = λ numbering g. refl; instance = λ numbering g. refl; named = λ es h. h }

pub interface_kind : (k : ItemKind) (i : InterfaceId) → k ≡ kinds.Ty (types.Interface i) → IsInterfaceKind k i
interface_kind k i is = subst (λ (j : ItemKind). IsInterfaceKind j i) (sym is) (interface_is i)
