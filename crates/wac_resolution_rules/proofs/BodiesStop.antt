-- A path or an item of a body that breaks a rule resolves to nothing.
use Rattle.wac_resolution_rules.proofs.Common.{◌≡◌, ◌⊎◌, inl, inr, ℕ, List, [], ◌∷◌, Some, None, Bool, true, false, sym, ◌∙◌, ap, subst, option_map, Span, ExternKind, Meaning, Named, Scope, IsFresh, Steps, Fails, IsA, is_interface_form, is_resource_or_value_form, promoted, Numbering, resource_entry, Contents, Ident, PackagePath, UsePath, ResourceMethod, ItemTypeDecl, UseItem, Use, Error}
use Rattle.wac_graph_types.specs.declared.kind.FuncKind.TheVariants as funcs
use Rattle.wac_resolution_rules.specs.Types.{first_params}
use Rattle.wac_resolution_rules.specs.Declarations.{in_body}
use Rattle.wac_resolution_rules.specs.Paths.{Context, is_own, key_of_path, segments_of, beginning_of, IsMember, LeadsFrom, LeadsTo, UseNames}
use Rattle.wac_resolution_rules.specs.Bodies.{Body, externs, IsNew, constructor_name, method_name, static_name, HasMethod, with_resource, HasItem, used_as, UsesItem, HasUse}
use Rattle.wac_resolution_rules.specs.BrokenBodies.{IsNoExport, IsNoPackageExport, OwnPathBroken, ForeignPathBroken, path_broken, PathBroken, Owner, IsConflict, NameBroken, method_kind, MethodBroken, ItemBroken, UsePathBroken, IsNoInterface, UseItemBroken, UseBroken}
use Rattle.wac_resolution_rules.specs.Spans.{use_path_name, use_path_span}
use Rattle.wac_resolution_rules.proofs.StepLaws.{fails_stop}
use Rattle.wac_resolution_rules.proofs.TypesOnce.{stands_once}
use Rattle.wac_resolution_rules.proofs.BodiesOnce.{member_once, use_names_once, method_once, use_item_once}
use Rattle.wac_resolution_rules.proofs.TypesStop.{fresh_stops, undefined_stops, params_stop, func_stops, variant_stops, record_stops, flags_stop, enum_stops, alias_stops}
use Rattle.wac_resolution_rules.proofs.Options.{some_back}

-- ---- paths

no_export_stops : (p : PackagePath) (first : List ℕ) (e : Error) (k : Meaning) (before : List (List ℕ)) (segment : List ℕ) (m : Meaning) → IsNoExport p first e k before segment → IsMember k segment m → ⊥
no_export_stops p first e k before segment m b q = let f : None ≡ Some m = sym b.1 ∙ q in cc

no_package_export_stops : (p : PackagePath) (first : List ℕ) (e : Error) (k : Meaning) (before : List (List ℕ)) (segment : List ℕ) (m : Meaning) → IsNoPackageExport p first e k before segment → IsMember k segment m → ⊥
no_package_export_stops p first e k before segment m b q = let f : None ≡ Some m = sym b.1 ∙ q in cc

own_path_stops : (root : Scope) (p : PackagePath) (segments : List (List ℕ)) (e : Error) (m : Meaning) → OwnPathBroken root p segments e → LeadsFrom root segments m → ⊥
own_path_stops root p [] e m b q = b
own_path_stops root p (first ∷ rest) e m (inl b) q = fresh_stops first root q.0 b.1 q.1
own_path_stops root p (first ∷ rest) e m (inr b) q =
    fails_stop IsMember (IsNoExport p first e) member_once (no_export_stops p first e) b.0 rest m b.2
    (subst (λ (k : Meaning). Steps IsMember k rest m) (stands_once root first q.0 b.0 q.1 b.1) q.2)

foreign_path_stops : (definitions : Named Meaning) (p : PackagePath) (segments : List (List ℕ)) (e : Error) (m : Meaning) → ForeignPathBroken definitions p segments e → LeadsFrom definitions segments m → ⊥
foreign_path_stops definitions p [] e m b q = b
foreign_path_stops definitions p (first ∷ rest) e m (inl b) q = fresh_stops first definitions q.0 b.1 q.1
foreign_path_stops definitions p (first ∷ rest) e m (inr b) q =
    fails_stop IsMember (IsNoPackageExport p first e) member_once (no_package_export_stops p first e) b.0 rest m b.2
    (subst (λ (k : Meaning). Steps IsMember k rest m) (stands_once definitions first q.0 b.0 q.1 b.1) q.2)

begun_stops : (own : Bool) (context : Context) (root : Scope) (p : PackagePath) (e : Error) (from : Scope) (m : Meaning) → path_broken own context root p e
    → beginning_of own root context.packages (key_of_path p) ≡ Some from → LeadsFrom from (segments_of p) m → ⊥
begun_stops true context root p e from m b begins q =
    own_path_stops root p (segments_of p) e m b (subst (λ (s : Scope). LeadsFrom s (segments_of p) m) (sym (some_back begins)) q)
begun_stops false context root p e from m (inl b) begins q =
    let f : None ≡ Some from = sym (ap (option_map (λ (c : Contents). c.definitions)) b.0) ∙ begins in absurd (cc)
begun_stops false context root p e from m (inr b) begins q =
    let f : Some b.0.definitions ≡ Some from = sym (ap (option_map (λ (c : Contents). c.definitions)) b.1) ∙ begins in
    foreign_path_stops b.0.definitions p (segments_of p) e m b.2 (subst (λ (s : Scope). LeadsFrom s (segments_of p) m) (sym (some_back f)) q)

pub path_stops : (context : Context) (root : Scope) (p : PackagePath) (e : Error) (m : Meaning) → PathBroken context root p e → LeadsTo context root p m → ⊥
path_stops context root p e m b q = begun_stops (is_own context p) context root p e q.0 m b q.1 q.2

-- ---- names

pub conflict_stops : (of : Owner) (side : ExternKind) (old : Body) (x : List ℕ) (at : Span) (e : Error) → IsConflict of side old x at e → IsFresh x (externs side old) → ⊥
conflict_stops of side old x at e b q = fresh_stops x (externs side old) b.0 q b.1

pub name_stops : (of : Owner) (side : ExternKind) (places : Named Span) (old : Body) (x : Ident) (e : Error) → NameBroken of side places old x e → IsNew side old x.string → ⊥
name_stops of side places old x e (inl b) q = fresh_stops x.string old.scope b.0 q.0 b.2
name_stops of side places old x e (inr b) q = conflict_stops of side old x.string x.span e b.1 q.1

-- ---- resources

method_stops : (side : ExternKind) (resource : List ℕ) (entry : Meaning) (e : Error) (old : Body) (before : List ResourceMethod) (x : ResourceMethod) (new : Body) → MethodBroken side resource entry e old before x → HasMethod side resource entry old x new → ⊥
method_stops side resource entry e old before (ResourceMethod.constructor c) new (inl b) q = fresh_stops (constructor_name resource) (externs side old) b.0 q.0 b.1
method_stops side resource entry e old before (ResourceMethod.constructor c) new (inr b) q = params_stop funcs.Constructor old.scope [] c.params e q.1.1.0 b.1 q.1.1.1
method_stops side resource entry e old before (ResourceMethod.method x) new (inl (m, inl b, is)) q = fresh_stops (method_name resource x.id.string) (externs side old) m q.0 b
method_stops side resource entry e old before (ResourceMethod.method x) new (inl (m, inr b, is)) q = fresh_stops (static_name resource x.id.string) (externs side old) m q.1 b
method_stops side resource entry e old before (ResourceMethod.method x) new (inr b) q = func_stops (method_kind x.is_static) old.scope (first_params x.is_static entry) x.ty e q.2.0 b.2 q.2.1

-- ---- declarations of types in a body

pub item_stops : (numbering : Numbering) (of : Owner) (side : ExternKind) (places : Named Span) (old : Body) (d : ItemTypeDecl) (e : Error) (new : Body) → ItemBroken numbering of side places old d e → HasItem numbering side old d new → ⊥
item_stops numbering of side places old (ItemTypeDecl.resource d) e new (inl b) q = name_stops of side places old d.id e b q.0
item_stops numbering of side places old (ItemTypeDecl.resource d) e new (inr b) q =
    fails_stop (HasMethod side d.id.string (resource_entry numbering old.resources d.id.string)) (MethodBroken side d.id.string (resource_entry numbering old.resources d.id.string) e)
    (method_once side d.id.string (resource_entry numbering old.resources d.id.string)) (method_stops side d.id.string (resource_entry numbering old.resources d.id.string) e)
    (with_resource numbering side old d.id.string) d.methods new b.2 q.1
item_stops numbering of side places old (ItemTypeDecl.variant d) e new (inl b) q = variant_stops old.scope d e q.0 b q.1
item_stops numbering of side places old (ItemTypeDecl.variant d) e new (inr b) q = name_stops of side places old d.id e b.2 q.2.0
item_stops numbering of side places old (ItemTypeDecl.record_decl d) e new (inl b) q = record_stops old.scope d e q.0 b q.1
item_stops numbering of side places old (ItemTypeDecl.record_decl d) e new (inr b) q = name_stops of side places old d.id e b.2 q.2.0
item_stops numbering of side places old (ItemTypeDecl.flags d) e new (inl b) q = flags_stop d e q.0 b q.1
item_stops numbering of side places old (ItemTypeDecl.flags d) e new (inr b) q = name_stops of side places old d.id e b.2 q.2.0
item_stops numbering of side places old (ItemTypeDecl.enum d) e new (inl b) q = enum_stops d e q.0 b q.1
item_stops numbering of side places old (ItemTypeDecl.enum d) e new (inr b) q = name_stops of side places old d.id e b.2 q.2.0
item_stops numbering of side places old (ItemTypeDecl.alias d) e new (inl b) q = alias_stops (in_body numbering) old.scope old.resources d.id.string d.kind e q.0 q.1 b q.2
item_stops numbering of side places old (ItemTypeDecl.alias d) e new (inr b) q = name_stops of side places old d.id e b.3 q.3.0

-- ---- use

use_path_stops : (context : Context) (root : Scope) (p : UsePath) (e : Error) (m : Meaning) → UsePathBroken context root p e → UseNames context root p m → ⊥
use_path_stops context root (UsePath.path p) e m b q = path_stops context root p e m b q
use_path_stops context root (UsePath.ident x) e m b q = undefined_stops root x e m b q

pub interface_stops : (k : Meaning) (name : List ℕ) (at : Span) (e : Error) → IsNoInterface k name at e → IsA is_interface_form k → ⊥
interface_stops k name at e b q = let f : false ≡ true = sym b.0 ∙ q in cc

use_item_stops : (side : ExternKind) (interface : Meaning) (path : List ℕ) (e : Error) (old : Body) (before : List UseItem) (x : UseItem) (new : Body) → UseItemBroken side interface path e old before x → UsesItem side interface old x new → ⊥
use_item_stops side interface path e old before x new (inl b) q = let f : None ≡ Some q.0 = sym b.0 ∙ q.1 in cc
use_item_stops side interface path e old before x new (inr (inl b)) q =
    let same : q.0 ≡ b.0 = some_back (sym q.1 ∙ b.1) in
    let f : IsA is_resource_or_value_form b.0 = subst (λ m. IsA is_resource_or_value_form m) same q.2 in
    let d : false ≡ true = sym b.2 ∙ f in cc
use_item_stops side interface path e old before x new (inr (inr (usable, b))) q = fresh_stops (used_as x).string (externs side old) b.0 q.3 b.1

named_use_stops : (side : ExternKind) (old : Body) (u : Use) (e : Error) (new : Body) → (k : Meaning)
    → IsNoInterface k (use_path_name u.path) (use_path_span u.path) e ⊎ (IsA is_interface_form k × Fails (UsesItem side (promoted k)) (UseItemBroken side (promoted k) (use_path_name u.path) e) old u.items)
    → IsA is_interface_form k → Steps (UsesItem side (promoted k)) old u.items new → ⊥
named_use_stops side old u e new k (inl b) is q = interface_stops k (use_path_name u.path) (use_path_span u.path) e b is
named_use_stops side old u e new k (inr b) is q = fails_stop (UsesItem side (promoted k)) (UseItemBroken side (promoted k) (use_path_name u.path) e) (use_item_once side (promoted k)) (use_item_stops side (promoted k) (use_path_name u.path) e) old u.items new b.1 q

pub use_stops : (context : Context) (root : Scope) (side : ExternKind) (old : Body) (u : Use) (e : Error) (new : Body) → UseBroken context root side old u e → HasUse context root side old u new → ⊥
use_stops context root side old u e new (inl b) q = use_path_stops context root u.path e q.0 b q.1
use_stops context root side old u e new (inr b) q =
    let same : q.0 ≡ b.0 = use_names_once context root u.path q.0 b.0 q.1 b.1 in
    named_use_stops side old u e new b.0 b.2 (subst (λ m. IsA is_interface_form m) same q.2) (subst (λ m. Steps (UsesItem side (promoted m)) old u.items new) same q.3)
