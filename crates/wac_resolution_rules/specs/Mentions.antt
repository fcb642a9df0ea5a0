-- Which foreign packages a document mentions, and where: in order of mention, with repetitions.
use Rattle.std.specs.Prelude.{◌≡◌, List, [], ◌∷◌, ◌++◌, Option, Some, None, flat_map, ℕ, filter, Bool, true, if◌then◌else◌}
use Rattle.std.specs.List.{AllByRecursion, list_any}
use Rattle.std.specs.Str.{bytes_eq}
use Rattle.wac_lexer.specs.Span.{Span}
use Rattle.wac_graph.specs.Package.{Key, same_key}
use Rattle.wac_graph.specs.Packages.{Packages, package_of}
use Rattle.wac_ast_grammar.specs.Tree.{PackageName, PackagePath, UsePath, InterfaceItem, ExternType, WorldItemPath, WorldRef, WorldItem, TypeStatement, Expr, PrimaryExpr, Arguments, InstantiationArgument, ImportType, Statement, Document}
use Rattle.wac_ast_grammar.specs.Segments.{package_name_span}
use Rattle.wac_resolution_rules.specs.Paths.{Context, key_of_path}
use Rattle.wac_resolution_rules.specs.Given.{Given, key_named}
use Rattle.wac_resolution_rules.specs.Composition.{Node}
use Rattle.wac_resolution_rules.specs.Nodes.{key_of_node}

-- a key, and where it is mentioned
abbrev pub Mention : Type 0
Mention = Key × Span

-- a path mentions its package, unless that is the document's own
abbrev pub path_mentions : List ℕ → PackagePath → List Mention
path_mentions own p = if bytes_eq p.name own then [] else (key_of_path p, package_name_span p) ∷ []

abbrev pub name_mentions : List ℕ → PackageName → List Mention
name_mentions own x = if bytes_eq x.name own then [] else (key_named x, x.span) ∷ []

-- ---- bodies

abbrev pub use_path_mentions : List ℕ → UsePath → List Mention
use_path_mentions own (UsePath.path p) = path_mentions own p
use_path_mentions own (UsePath.ident x) = []

abbrev pub interface_item_mentions : List ℕ → InterfaceItem → List Mention
interface_item_mentions own (InterfaceItem.use_statement u) = use_path_mentions own u.path
interface_item_mentions own _ = []

abbrev pub interface_mentions : List ℕ → List InterfaceItem → List Mention
interface_mentions own items = flat_map (interface_item_mentions own) items

abbrev pub extern_type_mentions : List ℕ → ExternType → List Mention
extern_type_mentions own (ExternType.interface x) = interface_mentions own x.items
extern_type_mentions own _ = []

abbrev pub extern_mentions : List ℕ → WorldItemPath → List Mention
extern_mentions own (WorldItemPath.path p) = path_mentions own p
extern_mentions own (WorldItemPath.named x) = extern_type_mentions own x.ty
extern_mentions own (WorldItemPath.ident x) = []

abbrev pub world_ref_mentions : List ℕ → WorldRef → List Mention
world_ref_mentions own (WorldRef.path p) = path_mentions own p
world_ref_mentions own (WorldRef.ident x) = []

abbrev pub world_item_mentions : List ℕ → WorldItem → List Mention
world_item_mentions own (WorldItem.use_statement u) = use_path_mentions own u.path
world_item_mentions own (WorldItem.world_import x) = extern_mentions own x.path
world_item_mentions own (WorldItem.world_export x) = extern_mentions own x.path
world_item_mentions own (WorldItem.world_include x) = world_ref_mentions own x.world
world_item_mentions own (WorldItem.ty d) = []

abbrev pub type_mentions : List ℕ → TypeStatement → List Mention
type_mentions own (TypeStatement.interface d) = interface_mentions own d.items
type_mentions own (TypeStatement.world d) = flat_map (world_item_mentions own) d.items
type_mentions own (TypeStatement.ty d) = []

-- ---- expressions

abbrev mutual
  pub expr_mentions : List ℕ → Expr → List Mention
  expr_mentions own (Expr.expr span first others) = primary_mentions own first

  pub primary_mentions : List ℕ → PrimaryExpr → List Mention
  primary_mentions own (PrimaryExpr.new span name args) = name_mentions own name ++ arguments_mentions own args
  primary_mentions own (PrimaryExpr.nested span x) = expr_mentions own x
  primary_mentions own (PrimaryExpr.ident id) = []

  pub arguments_mentions : List ℕ → Arguments → List Mention
  arguments_mentions own Arguments.none = []
  arguments_mentions own (Arguments.more a rest) = argument_mentions own a ++ arguments_mentions own rest

  pub argument_mentions : List ℕ → InstantiationArgument → List Mention
  argument_mentions own (InstantiationArgument.named name x) = expr_mentions own x
  argument_mentions own _ = []

-- ---- documents

abbrev pub import_type_mentions : List ℕ → ImportType → List Mention
import_type_mentions own (ImportType.interface x) = interface_mentions own x.items
import_type_mentions own (ImportType.path x) = path_mentions own x
import_type_mentions own _ = []

abbrev pub statement_mentions : List ℕ → Statement → List Mention
statement_mentions own (Statement.import_statement x) = import_type_mentions own x.ty
statement_mentions own (Statement.let_statement x) = expr_mentions own x.expr
statement_mentions own (Statement.export_statement x) = expr_mentions own x.expr
statement_mentions own (Statement.type_statement x) = type_mentions own x

abbrev pub target_mentions : List ℕ → Option PackagePath → List Mention
target_mentions own None = []
target_mentions own (Some p) = path_mentions own p

-- the target's, then those of the statements in order
abbrev pub mentions : Document → List Mention
mentions doc = target_mentions doc.directive.package_name.name doc.directive.targets ++ flat_map
    (statement_mentions doc.directive.package_name.name) doc.statements

-- a key is among the mentioned ones
abbrev pub is_mentioned : List Mention → Key → Bool
is_mentioned ms key = list_any (λ (m : Mention). same_key m.0 key) ms

abbrev pub IsMentioned : List Mention → Key → Type 0
IsMentioned ms key = is_mentioned ms key ≡ true

-- what holds of the package that a node is an instance of, if it is one
abbrev pub KeyHolds : (Key → Type 0) → Option Key → Type 0
KeyHolds P None = Unit {0}
KeyHolds P (Some key) = P key

abbrev pub KeysHold : (Key → Type 0) → List Node → Type 0
KeysHold P ns = AllByRecursion (λ (n : Node). KeyHolds P (key_of_node n.form)) ns

-- ---- what isn't mentioned doesn't matter

-- two lists of packages have the same package under each key that is mentioned
abbrev pub Agree : Packages → Packages → List Mention → Type 0
Agree ps qs ms = AllByRecursion (λ (m : Mention). package_of m.0 ps ≡ package_of m.0 qs) ms

-- the context with these packages
abbrev pub over : Context → Packages → Context
over s ps = record { numbering = s.numbering; own = s.own; version = s.version; packages = ps }

abbrev pub given_over : Given → Packages → Given
given_over g ps = record { context = over g.context ps; rules = g.rules }

-- the entries whose keys are mentioned
abbrev pub kept : {X : Type 0} → List Mention → List (Key × X) → List (Key × X)
kept ms ps = filter (λ p. is_mentioned ms p.0) ps
