-- A type statement that breaks a rule resolves to nothing.
use Rattle.wac_resolution_rules.proofs.Common.{◌≡◌, ◌⊎◌, inl, inr, ℕ, List, [], ◌∷◌, ◌++◌, Some, None, Option, Bool, true, false, sym, ◌∙◌, subst, Span, ExternKind, Meaning, Scope, StandsFor, Steps, IsA, is_world_form, entry_of, imports_of, exports_of, Ident, FuncTypeRef, InterfaceItem, ExternType, WorldItemPath, WorldItem, WorldRef, WorldIncludeItem, WorldInclude, TypeStatement, Error}
use Rattle.wac_graph_types.specs.declared.kind.ExternKind.TheVariants as sides
use Rattle.wac_graph_types.specs.declared.kind.FuncKind.TheVariants as funcs
use Rattle.wac_resolution_rules.specs.Paths.{Context, WorldNames}
use Rattle.wac_resolution_rules.specs.Bodies.{Body, empty_body}
use Rattle.wac_resolution_rules.specs.Includes.{Entries, HasEntry, has_colon, Taking, name_taken, TakesNamed, Takes, Included, HasInclude}
use Rattle.wac_resolution_rules.specs.Worlds.{IsFuncRef, HasInterfaceItem, IsInterface, HasExternType, id_or_empty, HasInstance, HasExtern, HasWorldItem, includes_of, IsWorld}
use Rattle.wac_resolution_rules.specs.Composition.{Composition, root_scope}
use Rattle.wac_resolution_rules.specs.TypeStatements.{declared_id, identifier_of, DeclaresKind, Defines, Declares}
use Rattle.wac_resolution_rules.specs.BrokenBodies.{Owner, of_interface, of_world}
use Rattle.wac_resolution_rules.specs.BrokenWorlds.{FuncRefBroken, InterfaceItemBroken, InterfaceBroken, ExternTypeBroken, InstanceBroken, ExternBroken, WorldItemBroken, IsSecondEntry, WorldRefBroken, IsNoWorld, IsIncludeConflict, IsLeftOver, TakingBroken, IncludeBroken, WorldBroken, KindBroken, DefinitionBroken, DeclarationBroken}
use Rattle.wac_resolution_rules.specs.Places.{Places, bound_in_interface, bound_in_world}
use Rattle.wac_resolution_rules.proofs.StepLaws.{fails_stop, steps_once}
use Rattle.wac_resolution_rules.proofs.TypesOnce.{stands_once}
use Rattle.wac_resolution_rules.proofs.BodiesOnce.{leads_once, world_names_once, entry_once, takes_once, include_once}
use Rattle.wac_resolution_rules.proofs.WorldsOnce.{interface_item_once, world_item_once}
use Rattle.wac_resolution_rules.proofs.TypesStop.{fresh_stops, none_stops, undefined_stops, func_stops, decl_stops}
use Rattle.wac_resolution_rules.proofs.BodiesStop.{path_stops, conflict_stops, item_stops, interface_stops, use_stops}

-- ---- interfaces

func_ref_stops : (scope : Scope) (x : FuncTypeRef) (e : Error) (m : Meaning) → FuncRefBroken scope x e → IsFuncRef scope x m → ⊥
func_ref_stops scope (FuncTypeRef.func f) e m b q = func_stops funcs.Free scope [] f e m b q
func_ref_stops scope (FuncTypeRef.ident x) e m (inl b) q = undefined_stops scope x e q.0 b q.1
func_ref_stops scope (FuncTypeRef.ident x) e m (inr b) q = none_stops _ scope x.string b.0 q.0 b.1 b.2 q.1 q.2

interface_item_stops : (context : Context) (root : Scope) (of : Owner) (e : Error) (old : Body) (before : List InterfaceItem) (x : InterfaceItem) (new : Body) → InterfaceItemBroken context root of e old before x → HasInterfaceItem context root old x new → ⊥
interface_item_stops context root of e old before (InterfaceItem.use_statement u) new b q = use_stops context root sides.Export old u e new b q
interface_item_stops context root of e old before (InterfaceItem.ty d) new b q = item_stops context.numbering of sides.Export (bound_in_interface before) old d e new b q
interface_item_stops context root of e old before (InterfaceItem.interface_export x) new (inl b) q = func_ref_stops old.scope x.ty e q.0 b q.1
interface_item_stops context root of e old before (InterfaceItem.interface_export x) new (inr b) q = conflict_stops of sides.Export old x.id.string x.id.span e b.2 q.2

pub interface_body_stops : (context : Context) (root : Scope) (name : Option (List ℕ)) (id : Option (List ℕ)) (n : ℕ) (items : List InterfaceItem) (e : Error) (m : Meaning) (after : ℕ) → InterfaceBroken context root name n items e → IsInterface context root n id items m after → ⊥
interface_body_stops context root name id n items e m after b q =
    fails_stop (HasInterfaceItem context root) (InterfaceItemBroken context root (of_interface name) e) (interface_item_once context root) (interface_item_stops context root (of_interface name) e) (empty_body n) items q.0 b q.1

-- ---- items of worlds

extern_type_stops : (context : Context) (root scope : Scope) (n : ℕ) (x : ExternType) (e : Error) (m : Meaning) (after : ℕ) → ExternTypeBroken context root scope n x e → HasExternType context root scope n x m after → ⊥
extern_type_stops context root scope n (ExternType.ident x) e m after (inl b) q = undefined_stops (scope ++ root) x e q.0 b q.1
extern_type_stops context root scope n (ExternType.ident x) e m after (inr b) q = none_stops _ (scope ++ root) x.string b.0 q.0 b.1 b.2 q.1 q.2
extern_type_stops context root scope n (ExternType.func f) e m after b q = func_stops funcs.Free scope [] f e q.0 b q.1
extern_type_stops context root scope n (ExternType.interface x) e m after b q = interface_body_stops context root None None n x.items e q.0 after b q.1

instance_stops : (of : Owner) (side : ExternKind) (old : Body) (k : Meaning) (name : List ℕ) (at : Span) (e : Error) (new : Body) → InstanceBroken of side old k name at e → HasInstance side old k new → ⊥
instance_stops of side old k name at e new (inl b) q = interface_stops k name at e b q.0
instance_stops of side old k name at e new (inr b) q = conflict_stops of side old (id_or_empty k) at e b.1 q.1

extern_stops : (context : Context) (root : Scope) (of : Owner) (side : ExternKind) (old : Body) (x : WorldItemPath) (e : Error) (new : Body) → ExternBroken context root of side old x e → HasExtern context root side old x new → ⊥
extern_stops context root of side old (WorldItemPath.named x) e new (inl b) q = conflict_stops of side old x.id.string x.id.span e b q.0
extern_stops context root of side old (WorldItemPath.named x) e new (inr b) q = extern_type_stops context root old.scope old.resources x.ty e q.1.0 q.1.1 b.1 q.1.2
extern_stops context root of side old (WorldItemPath.path p) e new (inl b) q = path_stops context root p e q.0 b q.1
extern_stops context root of side old (WorldItemPath.path p) e new (inr b) q =
    instance_stops of side old b.0 p.string p.span e new b.2 (subst (λ k. HasInstance side old k new) (leads_once context root p q.0 b.0 q.1 b.1) q.2)
extern_stops context root of side old (WorldItemPath.ident x) e new (inl b) q = undefined_stops root x e q.0 b q.1
extern_stops context root of side old (WorldItemPath.ident x) e new (inr b) q =
    instance_stops of side old b.0 x.string x.span e new b.2 (subst (λ k. HasInstance side old k new) (stands_once root x.string q.0 b.0 q.1 b.1) q.2)

world_item_stops : (context : Context) (root : Scope) (of : Owner) (e : Error) (old : Body) (before : List WorldItem) (x : WorldItem) (new : Body) → WorldItemBroken context root of e old before x → HasWorldItem context root old x new → ⊥
world_item_stops context root of e old before (WorldItem.use_statement u) new b q = use_stops context root sides.Import old u e new b q
world_item_stops context root of e old before (WorldItem.world_import x) new b q = extern_stops context root of sides.Import old x.path e new b q
world_item_stops context root of e old before (WorldItem.world_export x) new b q = extern_stops context root of sides.Export old x.path e new b q
world_item_stops context root of e old before (WorldItem.world_include x) new b q = b
world_item_stops context root of e old before (WorldItem.ty d) new b q = item_stops context.numbering of sides.Import (bound_in_world before) old d e new b q

-- ---- include

entry_stops : (e : Error) (old : Entries) (before : List WorldIncludeItem) (x : WorldIncludeItem) (new : Entries) → IsSecondEntry e old before x → HasEntry old x new → ⊥
entry_stops e old before x new b q = fresh_stops x.from.string old b.0 q.0 b.1

taken_stops : (colon : Bool) (old : Taking) (x : List ℕ × Meaning) (m : Meaning) (new : Taking) → colon ≡ false → StandsFor old.there (name_taken old.entries x.0) m → TakesNamed colon old x new → ⊥
taken_stops true old x m new e stands q = absurd (cc)
taken_stops false old x m new e stands q = fresh_stops (name_taken old.entries x.0) old.there m q.0 stands

take_stops : (w : WorldInclude) (world : List ℕ) (side : ExternKind) (e : Error) (old : Taking) (before : List (List ℕ × Meaning)) (x : List ℕ × Meaning) (new : Taking) → IsIncludeConflict w world side e old before x → Takes old x new → ⊥
take_stops w world side e old before x new b q = taken_stops (has_colon x.0) old x b.0 new b.1 b.2 q

left_over_stops : (w : WorldInclude) (entries : Entries) (e : Error) → IsLeftOver w entries e → entries ≡ [] → ⊥
left_over_stops w [] e b q = b
left_over_stops w (x ∷ xs) e b q = absurd (cc)

taking_stops : (w : WorldInclude) (world : List ℕ) (entries : Entries) (entry : Meaning) (old : Body) (e : Error) (new : Body) → TakingBroken w world entries entry old e → Included entries entry old new → ⊥
taking_stops w world entries entry old e new (inl b) q =
    fails_stop Takes (IsIncludeConflict w world sides.Import e) takes_once (take_stops w world sides.Import e) (record { entries = entries; there = old.imports }) (imports_of entry) q.imports b q.takes_imports
taking_stops w world entries entry old e new (inr (a, takes, inl b)) q =
    let same : q.imports ≡ a = steps_once Takes takes_once (record { entries = entries; there = old.imports }) (imports_of entry) q.imports a q.takes_imports takes in
    fails_stop Takes (IsIncludeConflict w world sides.Export e) takes_once (take_stops w world sides.Export e) (record { entries = a.entries; there = old.exports }) (exports_of entry) q.exports b
    (subst (λ (t : Taking). Steps Takes (record { entries = t.entries; there = old.exports }) (exports_of entry) q.exports) same q.takes_exports)
taking_stops w world entries entry old e new (inr (a, takes, inr b)) q =
    let same : q.imports ≡ a = steps_once Takes takes_once (record { entries = entries; there = old.imports }) (imports_of entry) q.imports a q.takes_imports takes in
    let there : q.exports ≡ b.0 = steps_once Takes takes_once (record { entries = a.entries; there = old.exports }) (exports_of entry) q.exports b.0
    (subst (λ (t : Taking). Steps Takes (record { entries = t.entries; there = old.exports }) (exports_of entry) q.exports) same q.takes_exports) b.1 in
    left_over_stops w b.0.entries e b.2 (subst (λ (t : Taking). t.entries ≡ []) there q.none_left)

world_ref_stops : (context : Context) (root : Scope) (p : WorldRef) (e : Error) (m : Meaning) → WorldRefBroken context root p e → WorldNames context root p m → ⊥
world_ref_stops context root (WorldRef.path p) e m b q = path_stops context root p e m b q
world_ref_stops context root (WorldRef.ident x) e m b q = undefined_stops root x e m b q

named_include_stops : (w : WorldInclude) (world : List ℕ) (entries : Entries) (old : Body) (e : Error) (new : Body) → (k : Meaning)
    → IsNoWorld k w.world e ⊎ (IsA is_world_form k × TakingBroken w world entries (entry_of k) old e) → IsA is_world_form k → Included entries (entry_of k) old new → ⊥
named_include_stops w world entries old e new k (inl b) is q = let f : false ≡ true = sym b.0 ∙ is in cc
named_include_stops w world entries old e new k (inr b) is q = taking_stops w world entries (entry_of k) old e new b.1 q

include_stops : (context : Context) (root : Scope) (world : List ℕ) (e : Error) (old : Body) (before : List WorldInclude) (x : WorldInclude) (new : Body) → IncludeBroken context root world e old before x → HasInclude context root old x new → ⊥
include_stops context root world e old before x new (inl b) q = fails_stop HasEntry (IsSecondEntry e) entry_once (entry_stops e) [] x.items q.0 b q.2
include_stops context root world e old before x new (inr (entries, has, inl b)) q = world_ref_stops context root x.world e q.1 b q.3
include_stops context root world e old before x new (inr (entries, has, inr b)) q =
    let d : q.0 ≡ entries = steps_once HasEntry entry_once [] x.items q.0 entries q.2 has in
    let c : q.1 ≡ b.0 = world_names_once context root x.world q.1 b.0 q.3 b.1 in
    named_include_stops x world entries old e new b.0 b.2 (subst (λ k. IsA is_world_form k) c q.4)
    (subst (λ (k : Meaning). Included entries (entry_of k) old new) c (subst (λ (n : Entries). Included n (entry_of q.1) old new) d q.5))

-- ---- worlds

pub world_stops : (context : Context) (root : Scope) (name : List ℕ) (id : Option (List ℕ)) (n : ℕ) (items : List WorldItem) (e : Error) (m : Meaning) (after : ℕ) → WorldBroken context root name n items e → IsWorld context root n id items m after → ⊥
world_stops context root name id n items e m after (inl b) q =
    fails_stop (HasWorldItem context root) (WorldItemBroken context root (of_world name) e) (world_item_once context root) (world_item_stops context root (of_world name) e) (empty_body n) items q.0 b q.2
world_stops context root name id n items e m after (inr b) q =
    let same : q.0 ≡ b.0 = steps_once (HasWorldItem context root) (world_item_once context root) (empty_body n) items q.0 b.0 q.2 b.1 in
    fails_stop (HasInclude context root) (IncludeBroken context root name e) (include_once context root) (include_stops context root name e) b.0 (includes_of items) q.1 b.2
    (subst (λ (c : Body). Steps (HasInclude context root) c (includes_of items) q.1) same q.3)

-- ---- type statements

defines_stops : (old : Composition) (places : Places) (x : Ident) (e : Error) (m : Meaning) (n : ℕ) (new : Composition) → DefinitionBroken old places x e → Defines old x.string m n new → ⊥
defines_stops old places x e m n new (inl b) q = fresh_stops x.string old.exports b.0 q.0 b.2
defines_stops old places x e m n new (inr (new_export, b)) q = fresh_stops x.string old.declared b.0 q.1 b.2

declared_stops : (context : Context) (old : Composition) (s : TypeStatement) (e : Error) (m : Meaning) (n : ℕ) → KindBroken context old s e → DeclaresKind context old s m n → ⊥
declared_stops context old (TypeStatement.interface d) e m n b q = interface_body_stops context (root_scope old) (Some d.id.string) (declared_id context d.id.string) old.resources d.items e q.0 n b q.1
declared_stops context old (TypeStatement.world d) e m n b q = world_stops context (root_scope old) d.id.string (declared_id context d.id.string) old.resources d.items e q.0 n b q.1
declared_stops context old (TypeStatement.ty d) e m n b q = decl_stops (root_scope old) old.resources d e m n b q

-- a type statement that breaks a rule yields no composition
pub broken_stops : (context : Context) (old : Composition) (places : Places) (s : TypeStatement) (e : Error) (new : Composition) → DeclarationBroken context old places s e → Declares context old s new → ⊥
broken_stops context old places s e new (inl b) q = declared_stops context old s e q.0 q.1 b q.2
broken_stops context old places s e new (inr b) q = defines_stops old places (identifier_of s) e q.0 q.1 new b.3 q.3
