-- A body, a world and a type statement each have one result.
use Rattle.wac_resolution_rules.proofs.Common.{◌≡◌, ℕ, List, [], ◌++◌, None, Option, sym, ◌∙◌, ap, subst, ExternKind, func, instance, an_interface, a_world, Meaning, Scope, Steps, kind_of, entry_of, promoted, interface_entry, world_entry, FuncTypeRef, InterfaceItem, ExternType, WorldItemPath, WorldItem, TypeStatement}
use Rattle.wac_graph_types.specs.declared.kind.ExternKind.TheVariants as sides
use Rattle.wac_resolution_rules.specs.Paths.{Context}
use Rattle.wac_resolution_rules.specs.Bodies.{Body, empty_body, with_extern, with_count}
use Rattle.wac_resolution_rules.specs.Includes.{HasInclude}
use Rattle.wac_resolution_rules.specs.Worlds.{IsFuncRef, HasInterfaceItem, IsInterface, HasExternType, id_or_empty, HasInstance, HasExtern, HasWorldItem, includes_of, IsWorld}
use Rattle.wac_resolution_rules.specs.Composition.{Composition, root_scope}
use Rattle.wac_resolution_rules.specs.TypeStatements.{declared_id, identifier_of, DeclaresKind, defining, Defines, Declares}
use Rattle.wac_resolution_rules.proofs.StepLaws.{IsOnce, steps_once}
use Rattle.wac_resolution_rules.proofs.TypesOnce.{stands_once, func_once}
use Rattle.wac_resolution_rules.proofs.DeclarationsOnce.{Same, decl_once}
use Rattle.wac_resolution_rules.proofs.BodiesOnce.{item_once, use_once, leads_once, include_once}

pub func_ref_once : (scope : Scope) (x : FuncTypeRef) (a b : Meaning) → IsFuncRef scope x a → IsFuncRef scope x b → a ≡ b
func_ref_once scope (FuncTypeRef.func f) a b p q = func_once scope [] f a b p q
func_ref_once scope (FuncTypeRef.ident x) a b p q = p.3 ∙ ap entry_of (stands_once scope x.string p.0 q.0 p.1 q.1) ∙ sym q.3

pub interface_item_once : (context : Context) (root : Scope) → IsOnce (HasInterfaceItem context root)
interface_item_once context root old (InterfaceItem.use_statement u) a b p q = use_once context root sides.Export old u a b p q
interface_item_once context root old (InterfaceItem.ty d) a b p q = item_once context.numbering sides.Export old d a b p q
interface_item_once context root old (InterfaceItem.interface_export x) a b p q =
    p.3 ∙ ap (λ f. with_extern sides.Export old x.id.string (kind_of func f)) (func_ref_once old.scope x.ty p.0 q.0 p.1 q.1) ∙ sym q.3

pub interface_once : (context : Context) (root : Scope) (n : ℕ) (id : Option (List ℕ)) (items : List InterfaceItem) (a b : Meaning) (i j : ℕ)
    → IsInterface context root n id items a i → IsInterface context root n id items b j → Same a i b j
interface_once context root n id items a b i j p q =
    let e : p.0 ≡ q.0 = steps_once (HasInterfaceItem context root) (interface_item_once context root) (empty_body n) items p.0 q.0 p.1 q.1 in
    (p.2 ∙ ap (λ (c : Body). interface_entry id c.uses c.exports) e ∙ sym q.2, p.3 ∙ ap (λ (c : Body). c.resources) e ∙ sym q.3)

extern_type_once : (context : Context) (root scope : Scope) (n : ℕ) (x : ExternType) (a b : Meaning) (i j : ℕ)
    → HasExternType context root scope n x a i → HasExternType context root scope n x b j → Same a i b j
extern_type_once context root scope n (ExternType.ident x) a b i j p q = (p.3 ∙ ap promoted (stands_once (scope ++ root) x.string p.0 q.0 p.1 q.1) ∙ sym q.3, p.4 ∙ sym q.4)
extern_type_once context root scope n (ExternType.func f) a b i j p q = (p.2 ∙ ap (kind_of func) (func_once scope [] f p.0 q.0 p.1 q.1) ∙ sym q.2, p.3 ∙ sym q.3)
extern_type_once context root scope n (ExternType.interface x) a b i j p q =
    let e = interface_once context root n None x.items p.0 q.0 i j p.1 q.1 in
    (p.2 ∙ ap (kind_of instance) e.0 ∙ sym q.2, e.1)

instance_once : (side : ExternKind) (old : Body) (k l : Meaning) (a b : Body) → k ≡ l → HasInstance side old k a → HasInstance side old l b → a ≡ b
instance_once side old k l a b e p q = p.2 ∙ ap (λ m. with_extern side old (id_or_empty m) (promoted m)) e ∙ sym q.2

pub extern_once : (context : Context) (root : Scope) (side : ExternKind) → IsOnce (HasExtern context root side)
extern_once context root side old (WorldItemPath.named x) a b p q =
    let e = extern_type_once context root old.scope old.resources x.ty p.1.0 q.1.0 p.1.1 q.1.1 p.1.2 q.1.2 in
    p.1.3 ∙ ap (λ k. with_extern side (with_count old k) x.id.string p.1.0) e.1 ∙ ap (with_extern side (with_count old q.1.1) x.id.string) e.0 ∙ sym q.1.3
extern_once context root side old (WorldItemPath.path x) a b p q = instance_once side old p.0 q.0 a b (leads_once context root x p.0 q.0 p.1 q.1) p.2 q.2
extern_once context root side old (WorldItemPath.ident x) a b p q = instance_once side old p.0 q.0 a b (stands_once root x.string p.0 q.0 p.1 q.1) p.2 q.2

pub world_item_once : (context : Context) (root : Scope) → IsOnce (HasWorldItem context root)
world_item_once context root old (WorldItem.use_statement u) a b p q = use_once context root sides.Import old u a b p q
world_item_once context root old (WorldItem.world_import x) a b p q = extern_once context root sides.Import old x.path a b p q
world_item_once context root old (WorldItem.world_export x) a b p q = extern_once context root sides.Export old x.path a b p q
world_item_once context root old (WorldItem.world_include x) a b p q = p ∙ sym q
world_item_once context root old (WorldItem.ty d) a b p q = item_once context.numbering sides.Import old d a b p q

pub world_once : (context : Context) (root : Scope) (n : ℕ) (id : Option (List ℕ)) (items : List WorldItem) (a b : Meaning) (i j : ℕ)
    → IsWorld context root n id items a i → IsWorld context root n id items b j → Same a i b j
world_once context root n id items a b i j p q =
    let d : p.0 ≡ q.0 = steps_once (HasWorldItem context root) (world_item_once context root) (empty_body n) items p.0 q.0 p.2 q.2 in
    let e : p.1 ≡ q.1 = steps_once (HasInclude context root) (include_once context root) q.0 (includes_of items) p.1 q.1 (subst (λ (c : Body). Steps (HasInclude context root) c (includes_of items) p.1) d p.3) q.3 in
    (p.4 ∙ ap (λ (c : Body). world_entry id c.uses c.imports c.exports) e ∙ sym q.4, p.5 ∙ ap (λ (c : Body). c.resources) e ∙ sym q.5)

defines_once : (old : Composition) (name : List ℕ) (m k : Meaning) (i j : ℕ) (a b : Composition) → Same m i k j → Defines old name m i a → Defines old name k j b → a ≡ b
defines_once old name m k i j a b e p q = p.2 ∙ ap (λ l. defining old name l i) e.0 ∙ ap (defining old name k) e.1 ∙ sym q.2

declared_once : (context : Context) (old : Composition) (s : TypeStatement) (a b : Meaning) (i j : ℕ) → DeclaresKind context old s a i → DeclaresKind context old s b j → Same a i b j
declared_once context old (TypeStatement.interface d) a b i j p q =
    let e = interface_once context (root_scope old) old.resources (declared_id context d.id.string) d.items p.0 q.0 i j p.1 q.1 in
    (p.2 ∙ ap (kind_of an_interface) e.0 ∙ sym q.2, e.1)
declared_once context old (TypeStatement.world d) a b i j p q =
    let e = world_once context (root_scope old) old.resources (declared_id context d.id.string) d.items p.0 q.0 i j p.1 q.1 in
    (p.2 ∙ ap (kind_of a_world) e.0 ∙ sym q.2, e.1)
declared_once context old (TypeStatement.ty d) a b i j p q = decl_once (root_scope old) old.resources d a b i j p q

-- a type statement yields one composition
pub declares_once : (context : Context) → IsOnce (Declares context)
declares_once context old s a b p q =
    defines_once old (identifier_of s).string p.0 q.0 p.1 q.1 a b (declared_once context old s p.0 q.0 p.1 q.1 p.2 q.2) p.3 q.3
