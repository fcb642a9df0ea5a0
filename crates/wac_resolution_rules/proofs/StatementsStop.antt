-- A statement that breaks a rule resolves to nothing, and a target that breaks one isn't met.
use Rattle.wac_resolution_rules.proofs.Common.{◌≡◌, ◌≢◌, ℕ, List, [], ◌∷◌, ◌++◌, subst, Option, Some, None, map, inl, inr, flat_map, AllByRecursion, Span, ExternKind, Meaning, Named, look_up, IsFresh, exports_of, promoted, Steps, Ident, PackagePath, ImportType, ImportStatement, LetStatement, Expr, ExportOptions, ExportStatement, TypeStatement, Statement, Error, Operation}
use Rattle.wac_graph_types.specs.declared.kind.FuncKind.TheVariants as funcs
use Rattle.wac_resolution_rules.specs.Paths.{Context}
use Rattle.wac_resolution_rules.specs.TypeStatements.{identifier_of, Declares, Defines}
use Rattle.wac_resolution_rules.specs.Kinds.{world_of}
use Rattle.wac_resolution_rules.specs.Given.{Given}
use Rattle.wac_resolution_rules.specs.Composition.{Composition, Node, kind_at, root_scope}
use Rattle.wac_resolution_rules.specs.Nodes.{node_at, instance_at, imports}
use Rattle.wac_resolution_rules.specs.Expressions.{At}
use Rattle.wac_resolution_rules.specs.Statements.{ImportsKind, name_imported, Imports, Lets, definition_bound, ExportsAs, unnamed_export, unexported, ExportsOne, ExportsBy, Exports, StatementStep}
use Rattle.wac_resolution_rules.specs.Target.{allowed, open_imports, all_imports, ImportAllowed, ExportMet, IsAllowed, MeetsPath}
use Rattle.wac_resolution_rules.specs.BrokenStatements.{IsImportedAlready, IsExportedAlready, IsInvalidName, IsExportConflict, IsUnnamed, IsNoEffect, IsNotWorld, placed_imports, IsNotInTarget, IsImportMismatch, IsMissingExport, IsExportMismatch, ImportKindBroken, ImportBroken, LetBroken, ExportAsBroken, ExportOneBroken, ExportOptionsBroken, ExportBroken, StatementBroken, TargetWorldBroken, TargetBroken}
use Rattle.wac_resolution_rules.specs.Places.{Places, names_at}
use Rattle.wac_resolution_rules.specs.BrokenWorlds.{IsBound}
use Rattle.wac_resolution_rules.proofs.StepLaws.{fails_stop}
use Rattle.wac_resolution_rules.proofs.Reached.{reached_holds}
use Rattle.wac_resolution_rules.proofs.ExpressionsOnce.{expr_once}
use Rattle.wac_resolution_rules.proofs.BodiesOnce.{leads_once}
use Rattle.wac_resolution_rules.proofs.TypesStop.{undefined_stops, func_stops}
use Rattle.wac_resolution_rules.proofs.BodiesStop.{path_stops}
use Rattle.wac_resolution_rules.proofs.WorldsStop.{interface_body_stops, broken_stops}
use Rattle.wac_resolution_rules.proofs.StatementsOnce.{kind_once, exports_one_once}
use Rattle.wac_resolution_rules.proofs.ExpressionsStop.{not_instance_stops, expr_stops}
use Rattle.wac_resolution_rules.proofs.Options.{some_once, neither}

-- ---- names

bound_stops : (c : Composition) (p : Places) (id : Ident) (e : Error) → IsBound c p id e → IsFresh id.string c.declared → ⊥
bound_stops c p id e u fresh = neither (look_up id.string c.declared) u.0 fresh u.2

imported_stops : (c : Composition) (p : Places) (name : List ℕ) (span : Span) (help : Option (List ℕ)) (e : Error) → IsImportedAlready c p name span help e → IsFresh name (imports c) → ⊥
imported_stops c p name span help e u fresh = neither (look_up name (imports c)) u.0 fresh u.2

exported_stops : (c : Composition) (p : Places) (name : List ℕ) (span : Span) (help : Option (List ℕ)) (e : Error) → IsExportedAlready c p name span help e → IsFresh name c.exports → ⊥
exported_stops c p name span help e u fresh = neither (look_up name c.exports) u.0 fresh u.2

invalid_stops : (s : Given) (name : List ℕ) (kind : ExternKind) (span : Span) (e : Error) → IsInvalidName s name kind span e → s.rules.named name ≡ None → ⊥
invalid_stops s name kind span e u h = neither (s.rules.named name) u.0 h u.1

conflict_stops : (c : Composition) (p : Places) (name : List ℕ) (span : Span) (help : Option (List ℕ)) (e : Error) → IsExportConflict c p name span help e → definition_bound c name ≡ None → ⊥
conflict_stops c p name span help e u h = neither (definition_bound c name) u.kind h u.bound

-- ---- statements

kind_stops : (s : Given) (old : Composition) (e : Error) (x : ImportType) (k : Meaning) (n : ℕ) → ImportKindBroken s old e x → ImportsKind s old x k n → ⊥
kind_stops s old e (ImportType.func x) k n f g = func_stops funcs.Free (root_scope old) [] x e g.0 f g.1
kind_stops s old e (ImportType.interface x) k n f g = interface_body_stops s.context (root_scope old) None None old.resources x.items e g.0 n f g.1
kind_stops s old e (ImportType.path x) k n f g = path_stops s.context (root_scope old) x e k f g.0
kind_stops s old e (ImportType.ident x) k n f g = undefined_stops (root_scope old) x e k f g.0

import_stops : (s : Given) (old : Composition) (p : Places) (e : Error) (x : ImportStatement) (new : Composition) → ImportBroken s old p e x → Imports s old x new → ⊥
import_stops s old p e x new (inl f) g = kind_stops s old e x.ty g.0 g.1 f g.2
import_stops s old p e x new (inr (k, after, means, f)) g =
    let same = kind_once s old x.ty g.0 k g.1 after g.2 means in
    elim f [
      | inl a ↦ imported_stops old p (name_imported x k) _ _ e a (subst (λ (m : Meaning). IsFresh (name_imported x m) (imports old)) same.0 g.3)
      | inr r ↦ elim r.1 [ inl a ↦ invalid_stops s (name_imported x k) _ _ e a (subst (λ (m : Meaning). s.rules.named (name_imported x m) ≡ None) same.0 g.4) | inr a ↦ bound_stops old p x.id e a.1 g.5 ]
    ]

let_stops : (s : Given) (old : Composition) (p : Places) (e : Error) (x : LetStatement) (new : Composition) → LetBroken s old p e x → Lets s old x new → ⊥
let_stops s old p e x new (inl f) g = expr_stops s old e x.expr g.0 f g.1
let_stops s old p e x new (inr (a, stands, f)) g =
    let same : g.0 ≡ a = expr_once s old x.expr g.0 a g.1 stands in
    bound_stops a.composition p x.id e f (subst (λ (m : At). IsFresh x.id.string m.composition.declared) same g.2)

export_as_stops : (s : Given) (c : Composition) (p : Places) (name : List ℕ) (span : Span) (help : Option (List ℕ)) (e : Error) (node : ℕ) (new : Composition) → ExportAsBroken s c p name span help e → ExportsAs s c name node new → ⊥
export_as_stops s c p name span help e node new (inl f) g = conflict_stops c p name span help e f g.0
export_as_stops s c p name span help e node new (inr (conflict, inl f)) g = exported_stops c p name span help e f g.1
export_as_stops s c p name span help e node new (inr (conflict, inr f)) g = invalid_stops s name _ span e f.1 g.2

unnamed_stops : (a : At) (span : Span) (e : Error) (n : Node) (name : List ℕ) → IsUnnamed a span e → node_at a.composition a.node ≡ Some n → unnamed_export n ≡ Some name → ⊥
unnamed_stops a span e n name u is h =
    let same : n ≡ u.node = some_once (node_at a.composition a.node) n u.node is u.there in
    neither (unnamed_export u.node) name u.unnamed (subst (λ (m : Node). unnamed_export m ≡ Some name) same h)

no_effect_stops : (a : At) (span : Span) (e : Error) (i : Meaning) → IsNoEffect a span e → instance_at a.composition a.node ≡ Some i → unexported a.composition.exports (exports_of i) ≢ [] → ⊥
no_effect_stops a span e i u is some =
    let same : u.instance ≡ i = some_once (instance_at a.composition a.node) u.instance i u.there is in
    some (subst (λ (m : Meaning). unexported a.composition.exports (exports_of m) ≡ []) same u.none)

one_stops : (s : Given) (p : Places) (span : Span) (e : Error) (node : ℕ) → (c : Composition) (before : Named Meaning) (x : List ℕ × Meaning) (next : Composition) → ExportOneBroken s p span e node c before x → ExportsOne s node c x next → ⊥
one_stops s p span e node c before x next f g = export_as_stops s _ (record p { exported = p.exported ++ names_at span before }) x.0 span None e _ next f g

options_stop : (s : Given) (a : At) (p : Places) (e : Error) (x : Expr) (o : ExportOptions) (new : Composition) → ExportOptionsBroken s a p e x o → ExportsBy s a o new → ⊥
options_stop s a p e x (ExportOptions.spread span) new (inl f) g = not_instance_stops a.composition a.node Operation.spread _ e g.0 f g.1
options_stop s a p e x (ExportOptions.spread span) new (inr (inl f)) g = no_effect_stops a _ e g.0 f g.1 g.2
options_stop s a p e x (ExportOptions.spread span) new (inr (inr (i, is, f))) g =
    let same : g.0 ≡ i = some_once (instance_at a.composition a.node) g.0 i g.1 is in
    fails_stop (ExportsOne s a.node) _ (exports_one_once s a.node) (one_stops s p span e a.node) a.composition (unexported a.composition.exports (exports_of i)) new f
    (subst (λ (m : Meaning). Steps (ExportsOne s a.node) a.composition (unexported a.composition.exports (exports_of m)) new) same g.3)
options_stop s a p e x (ExportOptions.rename name) new f g = export_as_stops s a.composition p _ _ None e a.node new f g
options_stop s a p e x ExportOptions.none new (inl f) g = unnamed_stops a _ e g.0 g.1 f g.2 g.3
options_stop s a p e x ExportOptions.none new (inr (n, name, is, named, f)) g =
    let same : g.0 ≡ n = some_once (node_at a.composition a.node) g.0 n g.2 is in
    let also : unnamed_export n ≡ Some g.1 = subst (λ (m : Node). unnamed_export m ≡ Some g.1) same g.3 in
    let it : g.1 ≡ name = some_once (unnamed_export n) g.1 name also named in
    export_as_stops s a.composition p name _ _ e a.node new f (subst (λ (m : List ℕ). ExportsAs s a.composition m a.node new) it g.4)

export_stops : (s : Given) (old : Composition) (p : Places) (e : Error) (x : ExportStatement) (new : Composition) → ExportBroken s old p e x → Exports s old x new → ⊥
export_stops s old p e x new (inl f) g = expr_stops s old e x.expr g.0 f g.1
export_stops s old p e x new (inr (a, stands, f)) g =
    let same : g.0 ≡ a = expr_once s old x.expr g.0 a g.1 stands in
    options_stop s a p e x.expr x.options new f (subst (λ (m : At). ExportsBy s m x.options new) same g.2)

-- a type statement defines its name
pub declares_what : (s : Context) (old : Composition) (x : TypeStatement) (new : Composition) → Declares s old x new → (m : Meaning) × (n : ℕ) × Defines old (identifier_of x).string m n new
declares_what s old x new g = (g.0, g.1, g.3)

-- a statement that breaks a rule resolves to nothing
pub statement_stops : (s : Given) (old : Composition) (p : Places) (e : Error) (x : Statement) (new : Composition) → StatementBroken s old p e x → StatementStep s old x new → ⊥
statement_stops s old p e (Statement.import_statement x) new f g = import_stops s old p e x new f g
statement_stops s old p e (Statement.let_statement x) new f g = let_stops s old p e x new f g
statement_stops s old p e (Statement.export_statement x) new f g = export_stops s old p e x new f g
statement_stops s old p e (Statement.type_statement x) new f g = broken_stops s.context old p x e new f g

-- ---- the target

all_of_map : {X Y : Type 0} (P : Y → Type 0) (f : X → Y) (xs : List X) → AllByRecursion (λ x. P (f x)) xs → AllByRecursion P (map f xs)
all_of_map P f [] h = tt
all_of_map P f (x ∷ xs) h = (h.0, all_of_map P f xs h.1)

pub all_append : {X : Type 0} (P : X → Type 0) (xs ys : List X) → AllByRecursion P xs → AllByRecursion P ys → AllByRecursion P (xs ++ ys)
all_append P [] ys h k = k
all_append P (x ∷ xs) ys h k = (h.0, all_append P xs ys h.1 k)

pub all_prefix : {X : Type 0} (P : X → Type 0) (xs ys : List X) → AllByRecursion P (xs ++ ys) → AllByRecursion P xs × AllByRecursion P ys
all_prefix P [] ys h = (tt, h)
all_prefix P (x ∷ xs) ys h = let r = all_prefix P xs ys h.1 in ((h.0, r.0), r.1)

-- an import with its place
abbrev PlacedImport : Type 0
PlacedImport = (List ℕ × Meaning) × Option Span

placed_allowed : (s : Given) (c : Composition) (p : Places) (w : Meaning) → AllByRecursion (ImportAllowed s w) (all_imports s c) → AllByRecursion (λ (y : PlacedImport). ImportAllowed s w y.0) (placed_imports s c p)
placed_allowed s c p w h =
    let r = all_prefix (ImportAllowed s w) (imports c) (flat_map (open_imports s) c.nodes) h in
    all_append (λ (y : PlacedImport). ImportAllowed s w y.0) (map (λ x. (x, look_up x.0 p.imported)) (imports c)) (map (λ x. (x, None)) (flat_map (open_imports s) c.nodes))
    (all_of_map (λ (y : PlacedImport). ImportAllowed s w y.0) (λ (x : List ℕ × Meaning). (x, look_up x.0 p.imported)) (imports c) r.0)
    (all_of_map (λ (y : PlacedImport). ImportAllowed s w y.0) (λ (x : List ℕ × Meaning). (x, None)) (flat_map (open_imports s) c.nodes) r.1)

not_world_stops : (path : PackagePath) (k w : Meaning) (e : Error) → IsNotWorld path k e → world_of k ≡ Some w → ⊥
not_world_stops path k w e u h = neither (world_of k) w u.0 h

not_in_target_stops : (s : Given) (c : Composition) (p : Places) (path : PackagePath) (w : Meaning) (e : Error) → IsNotInTarget s c p path w e → IsAllowed s c w → ⊥
not_in_target_stops s c p path w e u h =
    let f = reached_holds (λ (y : PlacedImport). ImportAllowed s w y.0) (λ (y : PlacedImport). ImportAllowed s w y.0) (placed_imports s c p) u.imported u.reached (placed_allowed s c p w h.0) in
    neither (allowed w u.imported.0.0) f.0 u.absent f.1

import_mismatch_stops : (s : Given) (c : Composition) (p : Places) (path : PackagePath) (w : Meaning) (e : Error) → IsImportMismatch s c p path w e → IsAllowed s c w → ⊥
import_mismatch_stops s c p path w e u h =
    let f = reached_holds (λ (y : PlacedImport). ImportAllowed s w y.0) (λ (y : PlacedImport). ImportAllowed s w y.0) (placed_imports s c p) u.imported u.reached (placed_allowed s c p w h.0) in
    let same : f.0 ≡ u.kind = some_once (allowed w u.imported.0.0) f.0 u.kind f.1 u.there in
    neither (s.rules.passes (promoted u.kind) u.imported.0.1) u.reason (subst (λ (m : Meaning). s.rules.passes (promoted m) u.imported.0.1 ≡ None) same f.2) u.fails

missing_stops : (s : Given) (c : Composition) (path : PackagePath) (w : Meaning) (e : Error) → IsMissingExport s c path w e → IsAllowed s c w → ⊥
missing_stops s c path w e u h =
    let f = reached_holds (ExportMet s c) (ExportMet s c) (exports_of w) u.wanted u.reached h.1 in
    neither (look_up u.wanted.0 c.exports) f.0 u.fresh f.1

export_mismatch_stops : (s : Given) (c : Composition) (p : Places) (path : PackagePath) (w : Meaning) (e : Error) → IsExportMismatch s c p path w e → IsAllowed s c w → ⊥
export_mismatch_stops s c p path w e u h =
    let f = reached_holds (ExportMet s c) (ExportMet s c) (exports_of w) u.wanted u.reached h.1 in
    let same : f.0 ≡ u.node = some_once (look_up u.wanted.0 c.exports) f.0 u.node f.1 u.exported in
    neither (s.rules.passes (kind_at c.nodes u.node) (promoted u.wanted.1)) u.reason (subst (λ (m : ℕ). s.rules.passes (kind_at c.nodes m) (promoted u.wanted.1) ≡ None) same f.2) u.fails

world_stops : (s : Given) (c : Composition) (p : Places) (e : Error) (path : PackagePath) (w : Meaning) → TargetWorldBroken s c p e path w → IsAllowed s c w → ⊥
world_stops s c p e path w (inl f) h = not_in_target_stops s c p path w e f h
world_stops s c p e path w (inr (inl f)) h = import_mismatch_stops s c p path w e f h
world_stops s c p e path w (inr (inr (inl f))) h = missing_stops s c path w e f h
world_stops s c p e path w (inr (inr (inr f))) h = export_mismatch_stops s c p path w e f h

-- a target that breaks a rule isn't met
pub target_stops : (s : Given) (c : Composition) (p : Places) (e : Error) (path : PackagePath) → TargetBroken s c p e path → MeetsPath s c path → ⊥
target_stops s c p e path (inl f) g = path_stops s.context (root_scope c) path e g.0 f g.2
target_stops s c p e path (inr (k, means, f)) g =
    let same : g.0 ≡ k = leads_once s.context (root_scope c) path g.0 k g.2 means in
    let is : world_of k ≡ Some g.1 = subst (λ (m : Meaning). world_of m ≡ Some g.1) same g.3 in
    elim f [
      | inl a ↦ not_world_stops path k g.1 e a is
      | inr r ↦ let it : g.1 ≡ r.0 = some_once (world_of k) g.1 r.0 is r.1 in world_stops s c p e path r.0 r.2 (subst (λ (m : Meaning). IsAllowed s c m) it g.4)
    ]
