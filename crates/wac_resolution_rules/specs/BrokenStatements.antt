-- Which rule of statements and the target an error says is broken, as in BrokenTypes: first each rule, then where
-- they are tested.
use Rattle.std.specs.Prelude.{◌≡◌, ℕ, List, [], ◌++◌, Option, Some, None, flat_map, map, ◌⊎◌}
use Rattle.std.specs.List.{AllByRecursion}
use Rattle.wac_lexer.specs.Span.{Span}
use Rattle.wac_graph_types.specs.declared.kind.ExternKind.{ExternKind}
use Rattle.wac_graph_types.specs.declared.kind.ExternKind.TheVariants as externs
use Rattle.wac_graph_types.specs.declared.rules.Reason.{Reason}
use Rattle.wac_graph_types.specs.Meaning.{Meaning}
use Rattle.wac_graph_types.specs.Scope.{Named, look_up, StandsFor, IsFresh}
use Rattle.wac_graph_types.specs.Steps.{Fails}
use Rattle.wac_graph_types.specs.Shape.{exports_of, promoted, described}
use Rattle.wac_graph_types.specs.declared.kind.FuncKind.TheVariants as funcs
use Rattle.wac_ast_grammar.specs.Tree.{PackagePath, ImportType, ImportStatement, LetStatement, Expr, ExportOptions, ExportStatement, Statement}
use Rattle.wac_ast_grammar.specs.Spans.{extern_name_text, extern_name_span}
use Rattle.wac_resolution_rules.specs.Kinds.{world_of}
use Rattle.wac_resolution_rules.specs.Given.{Given}
use Rattle.wac_resolution_rules.specs.Paths.{LeadsTo}
use Rattle.wac_resolution_rules.specs.Composition.{Composition, Node, kind_at, root_scope}
use Rattle.wac_resolution_rules.specs.Nodes.{node_at, instance_at, imports}
use Rattle.wac_resolution_rules.specs.Expressions.{At, at, alias_at, Stands}
use Rattle.wac_resolution_rules.specs.Statements.{ImportsKind, name_imported, definition_bound, unnamed_export, unexported, ExportsOne}
use Rattle.wac_resolution_rules.specs.Target.{allowed, open_imports, all_imports, ImportAllowed, ExportMet}
use Rattle.wac_resolution_errors.specs.Error.{Error, Operation, duplicate_extern_name, export_conflict, export_requires_as, import_not_in_target, invalid_extern_name, missing_target_export, not_world, spread_export_no_effect, target_mismatch}
use Rattle.wac_resolution_rules.specs.BrokenTypes.{IsUndefined, IsTaken, FuncBroken}
use Rattle.wac_resolution_rules.specs.BrokenBodies.{PathBroken, as_clause, help_unless}
use Rattle.wac_resolution_rules.specs.BrokenWorlds.{InterfaceBroken, IsBound, DeclarationBroken}
use Rattle.wac_resolution_rules.specs.BrokenExpressions.{ReachedAt, IsNotInstance, ExprBroken}
use Rattle.wac_resolution_rules.specs.Spans.{expr_span, import_span}
use Rattle.wac_resolution_rules.specs.Places.{Places, names_at}

-- ---- one rule each

-- the name is imported already
abbrev pub IsImportedAlready : Composition → Places → List ℕ → Span → Option (List ℕ) → Error → Type 0
IsImportedAlready c p name span help e =
    IsTaken (imports c) p.imported name (λ previous. duplicate_extern_name externs.Import name span previous help) e

-- the name is exported already
abbrev pub IsExportedAlready : Composition → Places → List ℕ → Span → Option (List ℕ) → Error → Type 0
IsExportedAlready c p name span help e =
    IsTaken c.exports p.exported name (λ previous. duplicate_extern_name externs.Export name span previous help) e

-- no import or export may have the name
abbrev pub IsInvalidName : Given → List ℕ → ExternKind → Span → Error → Type 0
IsInvalidName s name kind span e = (r : Reason) × (s.rules.named name ≡ Some r)
    × (e ≡ invalid_extern_name name kind r span)

-- the name is bound at root to a definition
pub record IsExportConflict (c : Composition) (p : Places) (name : List ℕ) (span : Span) (help : Option (List ℕ))
    (e : Error) : Type 0 where
  pub kind : Meaning
  pub definition : Span
  pub bound : definition_bound c name ≡ Some kind
  pub place : StandsFor p.bound name definition
  pub error : e ≡ export_conflict name (described kind) span definition help

-- the node has no name of its own
pub record IsUnnamed (a : At) (span : Span) (e : Error) : Type 0 where
  pub node : Node
  pub there : node_at a.composition a.node ≡ Some node
  pub unnamed : unnamed_export node ≡ None
  pub error : e ≡ export_requires_as span

-- all exports of the instance are exported already
pub record IsNoEffect (a : At) (span : Span) (e : Error) : Type 0 where
  pub instance : Meaning
  pub there : instance_at a.composition a.node ≡ Some instance
  pub none : unexported a.composition.exports (exports_of instance) ≡ []
  pub error : e ≡ spread_export_no_effect span

-- the target isn't a world type
abbrev pub IsNotWorld : PackagePath → Meaning → Error → Type 0
IsNotWorld p k e = (world_of k ≡ None) × (e ≡ not_world p.string (described k) p.span)

-- what a composition imports, with places: an import node has that of its name, what an instance leaves open has none
abbrev pub placed_imports : Given → Composition → Places → List ((List ℕ × Meaning) × Option Span)
placed_imports s c p =
    map (λ x. (x, look_up x.0 p.imported)) (imports c) ++ map (λ x. (x, None)) (flat_map (open_imports s) c.nodes)

-- the target allows no import of that name
pub record IsNotInTarget (s : Given) (c : Composition) (p : Places) (path : PackagePath) (w : Meaning) (e : Error)
    : Type 0 where
  pub imported : (List ℕ × Meaning) × Option Span
  pub reached : ReachedAt (λ y. ImportAllowed s w y.0) (placed_imports s c p) imported
  pub absent : allowed w imported.0.0 ≡ None
  pub error : e ≡ import_not_in_target imported.0.0 path.string imported.1

-- what the target allows does not fit the import
pub record IsImportMismatch (s : Given) (c : Composition) (p : Places) (path : PackagePath) (w : Meaning) (e : Error)
    : Type 0 where
  pub imported : (List ℕ × Meaning) × Option Span
  pub kind : Meaning
  pub reason : Reason
  pub reached : ReachedAt (λ y. ImportAllowed s w y.0) (placed_imports s c p) imported
  pub there : allowed w imported.0.0 ≡ Some kind
  pub fails : s.rules.passes (promoted kind) imported.0.1 ≡ Some reason
  pub error : e ≡ target_mismatch externs.Import imported.0.0 path.string reason imported.1

-- nothing is exported under the name of an export of the target
pub record IsMissingExport (s : Given) (c : Composition) (path : PackagePath) (w : Meaning) (e : Error) : Type 0 where
  pub wanted : List ℕ × Meaning
  pub fit : AllByRecursion (ImportAllowed s w) (all_imports s c)
  pub reached : ReachedAt (ExportMet s c) (exports_of w) wanted
  pub fresh : IsFresh wanted.0 c.exports
  pub error : e ≡ missing_target_export wanted.0 path.string (described wanted.1) path.span

-- what is exported does not fit the export of the target
pub record IsExportMismatch (s : Given) (c : Composition) (p : Places) (path : PackagePath) (w : Meaning) (e : Error)
    : Type 0 where
  pub wanted : List ℕ × Meaning
  pub node : ℕ
  pub reason : Reason
  pub span : Span
  pub fit : AllByRecursion (ImportAllowed s w) (all_imports s c)
  pub reached : ReachedAt (ExportMet s c) (exports_of w) wanted
  pub exported : StandsFor c.exports wanted.0 node
  pub fails : s.rules.passes (kind_at c.nodes node) (promoted wanted.1) ≡ Some reason
  pub place : StandsFor p.exported wanted.0 span
  pub error : e ≡ target_mismatch externs.Export wanted.0 path.string reason (Some span)

-- ---- where they are tested

abbrev pub ImportKindBroken : Given → Composition → Error → ImportType → Type 0
ImportKindBroken s old e (ImportType.func x) = FuncBroken funcs.Free (root_scope old) [] x e
ImportKindBroken s old e (ImportType.interface x) =
    InterfaceBroken s.context (root_scope old) None old.resources x.items e
ImportKindBroken s old e (ImportType.path x) = PathBroken s.context (root_scope old) x e
ImportKindBroken s old e (ImportType.ident x) = IsUndefined (root_scope old) x e

-- one of the tests of an import's name and identifier, in order
abbrev pub ImportNameBroken : Given → Composition → Places → Error → ImportStatement → List ℕ → Type 0
ImportNameBroken s old p e x name = IsImportedAlready old p name (import_span x) (help_unless x.name) e
    ⊎ (IsFresh name (imports old) × (IsInvalidName s name externs.Import (import_span x) e
    ⊎ ((s.rules.named name ≡ None) × IsBound old p x.id e)))

abbrev pub ImportBroken : Given → Composition → Places → Error → ImportStatement → Type 0
ImportBroken s old p e x = ImportKindBroken s old e x.ty
    ⊎ ((k : Meaning) × (after : ℕ) × ImportsKind s old x.ty k after × ImportNameBroken s old p e x (name_imported x k))

abbrev pub LetBroken : Given → Composition → Places → Error → LetStatement → Type 0
LetBroken s old p e x = ExprBroken s old e x.expr ⊎ ((a : At) × Stands s old x.expr a × IsBound a.composition p x.id e)

-- one of the tests of an export's name, in order
abbrev pub ExportAsBroken : Given → Composition → Places → List ℕ → Span → Option (List ℕ) → Error → Type 0
ExportAsBroken s c p name span help e = IsExportConflict c p name span help e
    ⊎ ((definition_bound c name ≡ None) × (IsExportedAlready c p name span help e
    ⊎ (IsFresh name c.exports × IsInvalidName s name externs.Export span e)))

-- the exports before this one were exported at the same place
abbrev pub ExportOneBroken : Given → Places → Span → Error → ℕ → Composition → Named Meaning → List ℕ × Meaning → Type 0
ExportOneBroken s p span e node c before x = ExportAsBroken s (alias_at (at c node) x.0 x.1).composition
    (record p { exported = p.exported ++ names_at span before }) x.0 span None e

abbrev pub ExportOptionsBroken : Given → At → Places → Error → Expr → ExportOptions → Type 0
ExportOptionsBroken s a p e x (ExportOptions.spread span) =
    IsNotInstance a.composition a.node Operation.spread (expr_span x) e ⊎ IsNoEffect a (expr_span x) e
    ⊎ ((i : Meaning) × (instance_at a.composition a.node ≡ Some i)
    × Fails (ExportsOne s a.node) (ExportOneBroken s p span e a.node) a.composition
    (unexported a.composition.exports (exports_of i)))
ExportOptionsBroken s a p e x (ExportOptions.rename name) =
    ExportAsBroken s a.composition p (extern_name_text name) (extern_name_span name) None e
ExportOptionsBroken s a p e x ExportOptions.none = IsUnnamed a (expr_span x) e
    ⊎ ((n : Node) × (name : List ℕ) × (node_at a.composition a.node ≡ Some n) × (unnamed_export n ≡ Some name)
    × ExportAsBroken s a.composition p name (expr_span x) (Some as_clause) e)

abbrev pub ExportBroken : Given → Composition → Places → Error → ExportStatement → Type 0
ExportBroken s old p e x = ExprBroken s old e x.expr
    ⊎ ((a : At) × Stands s old x.expr a × ExportOptionsBroken s a p e x.expr x.options)

-- the statement breaks the rule that the error names
abbrev pub StatementBroken : Given → Composition → Places → Error → Statement → Type 0
StatementBroken s old p e (Statement.import_statement x) = ImportBroken s old p e x
StatementBroken s old p e (Statement.let_statement x) = LetBroken s old p e x
StatementBroken s old p e (Statement.export_statement x) = ExportBroken s old p e x
StatementBroken s old p e (Statement.type_statement x) = DeclarationBroken s.context old p x e

abbrev pub TargetWorldBroken : Given → Composition → Places → Error → PackagePath → Meaning → Type 0
TargetWorldBroken s c p e path w = IsNotInTarget s c p path w e ⊎ IsImportMismatch s c p path w e
    ⊎ IsMissingExport s c path w e ⊎ IsExportMismatch s c p path w e

-- the target breaks the rule that the error names
abbrev pub TargetBroken : Given → Composition → Places → Error → PackagePath → Type 0
TargetBroken s c p e path = PathBroken s.context (root_scope c) path e
    ⊎ ((k : Meaning) × LeadsTo s.context (root_scope c) path k
    × (IsNotWorld path k e ⊎ ((w : Meaning) × (world_of k ≡ Some w) × TargetWorldBroken s c p e path w)))
