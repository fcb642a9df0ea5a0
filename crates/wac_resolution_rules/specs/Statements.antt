-- What a statement does to a composition.
use Rattle.std.specs.Prelude.{◌≡◌, ◌≢◌, ℕ, List, [], Option, Some, None, is_none, unwrap_or, option_and_then, filter, if◌then◌else◌}
use Rattle.std.specs.Option.{option_or}
use Rattle.wac_graph_types.specs.Kind.{func, instance}
use Rattle.wac_graph_types.specs.Meaning.{Meaning}
use Rattle.wac_graph_types.specs.Scope.{Named, look_up, StandsFor, IsFresh}
use Rattle.wac_graph_types.specs.Steps.{Steps}
use Rattle.wac_graph_types.specs.Shape.{kind_of, exports_of, id_of, promoted}
use Rattle.wac_ast_grammar.specs.Tree.{Ident, ImportType, ImportStatement, LetStatement, ExportOptions, ExportStatement, Statement}
use Rattle.wac_ast_grammar.specs.Spans.{extern_name_text}
use Rattle.wac_resolution_rules.specs.Types.{IsFunc}
use Rattle.wac_resolution_rules.specs.Paths.{LeadsTo}
use Rattle.wac_resolution_rules.specs.Worlds.{IsInterface}
use Rattle.wac_resolution_rules.specs.TypeStatements.{Declares}
use Rattle.wac_resolution_rules.specs.Kinds.{instance_of, component_of}
use Rattle.wac_resolution_rules.specs.Given.{Given}
use Rattle.wac_resolution_rules.specs.Composition.{Composition, Node, imported, root_scope, with_node, with_export, with_resources, binding}
use Rattle.wac_resolution_rules.specs.Nodes.{node_at, instance_at, imports, is_definition, next_of}
use Rattle.wac_resolution_rules.specs.Expressions.{At, at, alias_at, instance_id, own_name, Stands}

-- ---- import

-- the kind that an import's type means before it is promoted, and how many resources are declared then
abbrev pub ImportsKind : Given → Composition → ImportType → Meaning → ℕ → Type 0
ImportsKind s old (ImportType.func x) k after = (entry : Meaning) × IsFunc (root_scope old) x entry
    × (k ≡ kind_of func entry) × (after ≡ old.resources)
ImportsKind s old (ImportType.interface x) k after = (entry : Meaning)
    × IsInterface s.context (root_scope old) old.resources None x.items entry after × (k ≡ kind_of instance entry)
ImportsKind s old (ImportType.path x) k after = LeadsTo s.context (root_scope old) x k × (after ≡ old.resources)
ImportsKind s old (ImportType.ident x) k after = StandsFor (root_scope old) x.string k × (after ≡ old.resources)

-- the id of an instance or a component
abbrev pub item_id : Meaning → Option (List ℕ)
item_id k = option_and_then id_of (option_or (instance_of k) (component_of k))

-- a path by its text; an identifier that denotes an instance or component with an id by that id; else the import's own
-- identifier
abbrev pub unnamed_import : Ident → ImportType → Meaning → List ℕ
unnamed_import id (ImportType.path x) k = x.string
unnamed_import id (ImportType.ident x) k = unwrap_or (item_id k) id.string
unnamed_import id _ k = id.string

-- the name under which a statement imports
abbrev pub name_imported : ImportStatement → Meaning → List ℕ
name_imported x k = elim x.name [ None ↦ unnamed_import x.id x.ty k | Some name ↦ extern_name_text name ]

-- an import has a kind, and a name that is new and that the rules allow; its identifier is new
abbrev pub Imports : Given → Composition → ImportStatement → Composition → Type 0
Imports s old x new = (k : Meaning) × (n : ℕ) × ImportsKind s old x.ty k n
    × IsFresh (name_imported x k) (imports old) × (s.rules.named (name_imported x k) ≡ None)
    × IsFresh x.id.string old.declared
    × (new ≡ binding (with_node (with_resources old n) (imported (name_imported x k)) (promoted k)) x.id.string
    (next_of old))

-- ---- let

-- the identifier is bound to the node of the expression
abbrev pub Lets : Given → Composition → LetStatement → Composition → Type 0
Lets s old x new = (a : At) × Stands s old x.expr a × IsFresh x.id.string a.composition.declared
    × (new ≡ binding a.composition x.id.string a.node)

-- ---- export

abbrev pub if_definition : Node → Option Meaning
if_definition n = if is_definition n.form then Some n.kind else None

-- the kind of the definition to which a name is bound at root
abbrev pub definition_bound : Composition → List ℕ → Option Meaning
definition_bound c name = option_and_then if_definition (option_and_then (node_at c) (look_up name c.declared))

-- the node is exported under a name that is not bound to a definition, is new, and that the rules allow
abbrev pub ExportsAs : Given → Composition → List ℕ → ℕ → Composition → Type 0
ExportsAs s old name node new = (definition_bound old name ≡ None) × IsFresh name old.exports
    × (s.rules.named name ≡ None) × (new ≡ with_export old name node)

-- the name under which a node is exported without `as`: its instance's id, else its import name, else its alias name
abbrev pub unnamed_export : Node → Option (List ℕ)
unnamed_export n = option_or (instance_id n) (own_name n)

-- the exports that aren't among the composition's exports yet
abbrev pub unexported : Named ℕ → Named Meaning → Named Meaning
unexported done exports = filter (λ x. is_none (look_up x.0 done)) exports

-- one export of a node: its alias is exported under its name
abbrev pub ExportsOne : Given → ℕ → Composition → List ℕ × Meaning → Composition → Type 0
ExportsOne s node old x new =
    ExportsAs s (alias_at (at old node) x.0 x.1).composition x.0 (alias_at (at old node) x.0 x.1).node new

-- each export of an instance that isn't exported yet; or the node, under the name that is written or under its own
abbrev pub ExportsBy : Given → At → ExportOptions → Composition → Type 0
ExportsBy s a (ExportOptions.spread span) new = (i : Meaning) × (instance_at a.composition a.node ≡ Some i)
    × (unexported a.composition.exports (exports_of i) ≢ [])
    × Steps (ExportsOne s a.node) a.composition (unexported a.composition.exports (exports_of i)) new
ExportsBy s a (ExportOptions.rename name) new = ExportsAs s a.composition (extern_name_text name) a.node new
ExportsBy s a ExportOptions.none new = (n : Node) × (name : List ℕ) × (node_at a.composition a.node ≡ Some n)
    × (unnamed_export n ≡ Some name) × ExportsAs s a.composition name a.node new

abbrev pub Exports : Given → Composition → ExportStatement → Composition → Type 0
Exports s old x new = (a : At) × Stands s old x.expr a × ExportsBy s a x.options new

-- ---- statements

-- a statement turns the old composition into the new one
abbrev pub StatementStep : Given → Composition → Statement → Composition → Type 0
StatementStep s old (Statement.import_statement x) new = Imports s old x new
StatementStep s old (Statement.let_statement x) new = Lets s old x new
StatementStep s old (Statement.export_statement x) new = Exports s old x new
StatementStep s old (Statement.type_statement x) new = Declares s.context old x new

-- statements, in order, turn one composition into another
abbrev pub Composes : Given → Composition → List Statement → Composition → Type 0
Composes s old statements new = Steps (StatementStep s) old statements new
