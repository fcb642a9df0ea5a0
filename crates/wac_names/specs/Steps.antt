-- What a document does with names, step by step, in the order of its text.
use Rattle.std.specs.Prelude.{◌≡◌, ℕ, List, [], ◌∷◌, ◌++◌, Option, Some, None, unwrap_or, codes, refl}
use Rattle.std.specs.List.{flat_map}
use Rattle.wac_lexer.specs.Span.{Span, span}
use Rattle.wac_ast_grammar.specs.Segments.{segment_spans}
use Rattle.wac_ast_grammar.specs.Tree.{Ident, PackagePath, Ty, OptionalTy, Types, NamedType, ResultList, FuncType, FuncTypeRef, ResourceMethod, ResourceDecl, VariantCase, VariantDecl, Field, RecordDecl, TypeAliasKind, TypeAlias, TypeDecl, ItemTypeDecl, UsePath, UseItem, Use, InterfaceItem, ExternType, WorldItemPath, WorldRef, WorldItem, Expr, PrimaryExpr, Arguments, InstantiationArgument, ImportType, Statement, TypeStatement, PackageDirective, Document}
use Rattle.wac_names.specs.declared.steps.Level.{Level}
use Rattle.wac_names.specs.declared.steps.Level.TheVariants as levels

-- A step is taken in the root scope, in that of the body of an interface or a world, or in that of an interface within a
-- world's body.
pub data Step : Type 0 where
  -- a body begins
  begins : Level → Step
  -- a name is bound
  binds : Level → Ident → Step
  -- an identifier is looked up in the scope
  looks_up : Level → Ident → Step
  -- an identifier is looked up in the scope, else at root
  looks_outwards : Level → Ident → Step
  -- the first segment of a path into the package of a name is looked up at root, if that is the document's own
  enters : List ℕ → Ident → Step

-- ---- types

abbrev mutual
  pub type_steps : Level → Ty → List Step
  type_steps l (Ty.tuple ts s) = types_steps l ts
  type_steps l (Ty.list t s) = type_steps l t
  type_steps l (Ty.option t s) = type_steps l t
  type_steps l (Ty.result ok err s) = optional_steps l ok ++ optional_steps l err
  type_steps l (Ty.borrow x s) = Step.looks_up l x ∷ []
  type_steps l (Ty.stream t s) = optional_steps l t
  type_steps l (Ty.future t s) = optional_steps l t
  type_steps l (Ty.ident x) = Step.looks_up l x ∷ []
  type_steps l _ = []

  pub optional_steps : Level → OptionalTy → List Step
  optional_steps l OptionalTy.absent = []
  optional_steps l (OptionalTy.present t) = type_steps l t

  pub types_steps : Level → Types → List Step
  types_steps l Types.none = []
  types_steps l (Types.more t ts) = type_steps l t ++ types_steps l ts

abbrev pub named_type_steps : Level → NamedType → List Step
named_type_steps l x = type_steps l x.ty

abbrev pub results_steps : Level → ResultList → List Step
results_steps l ResultList.empty = []
results_steps l (ResultList.scalar t) = type_steps l t
results_steps l (ResultList.named xs) = flat_map (named_type_steps l) xs

-- the parameters come before the results
abbrev pub func_steps : Level → FuncType → List Step
func_steps l f = flat_map (named_type_steps l) f.params ++ results_steps l f.results

abbrev pub func_ref_steps : Level → FuncTypeRef → List Step
func_ref_steps l (FuncTypeRef.func f) = func_steps l f
func_ref_steps l (FuncTypeRef.ident x) = Step.looks_up l x ∷ []

-- ---- declarations: a type is bound after its parts, and a resource before its methods

abbrev pub payload_steps : Level → Option Ty → List Step
payload_steps l None = []
payload_steps l (Some t) = type_steps l t

abbrev pub case_steps : Level → VariantCase → List Step
case_steps l c = payload_steps l c.ty

abbrev pub variant_steps : Level → VariantDecl → List Step
variant_steps l d = flat_map (case_steps l) d.cases ++ Step.binds l d.id ∷ []

abbrev pub field_steps : Level → Field → List Step
field_steps l f = type_steps l f.ty

abbrev pub record_steps : Level → RecordDecl → List Step
record_steps l d = flat_map (field_steps l) d.fields ++ Step.binds l d.id ∷ []

abbrev pub alias_kind_steps : Level → TypeAliasKind → List Step
alias_kind_steps l (TypeAliasKind.func f) = func_steps l f
alias_kind_steps l (TypeAliasKind.ty t) = type_steps l t

abbrev pub alias_steps : Level → TypeAlias → List Step
alias_steps l d = alias_kind_steps l d.kind ++ Step.binds l d.id ∷ []

abbrev pub method_steps : Level → ResourceMethod → List Step
method_steps l (ResourceMethod.constructor c) = flat_map (named_type_steps l) c.params
method_steps l (ResourceMethod.method m) = func_steps l m.ty

abbrev pub resource_steps : Level → ResourceDecl → List Step
resource_steps l d = Step.binds l d.id ∷ flat_map (method_steps l) d.methods

abbrev pub type_decl_steps : TypeDecl → List Step
type_decl_steps (TypeDecl.variant d) = variant_steps levels.Root d
type_decl_steps (TypeDecl.record_decl d) = record_steps levels.Root d
type_decl_steps (TypeDecl.flags d) = Step.binds levels.Root d.id ∷ []
type_decl_steps (TypeDecl.enum d) = Step.binds levels.Root d.id ∷ []
type_decl_steps (TypeDecl.alias d) = alias_steps levels.Root d

abbrev pub item_type_steps : Level → ItemTypeDecl → List Step
item_type_steps l (ItemTypeDecl.resource d) = resource_steps l d
item_type_steps l (ItemTypeDecl.variant d) = variant_steps l d
item_type_steps l (ItemTypeDecl.record_decl d) = record_steps l d
item_type_steps l (ItemTypeDecl.flags d) = Step.binds l d.id ∷ []
item_type_steps l (ItemTypeDecl.enum d) = Step.binds l d.id ∷ []
item_type_steps l (ItemTypeDecl.alias d) = alias_steps l d

-- ---- paths, and what stands for a path: later segments and items are looked up among exports

abbrev pub first_segment : List ℕ → List (List ℕ × Span) → List Step
first_segment name [] = []
first_segment name (s ∷ rest) = Step.enters name (record { string = s.0; span = s.1 }) ∷ []

abbrev pub path_steps : PackagePath → List Step
path_steps p = first_segment p.name (segment_spans p)

abbrev pub use_path_steps : UsePath → List Step
use_path_steps (UsePath.path p) = path_steps p
use_path_steps (UsePath.ident x) = Step.looks_up levels.Root x ∷ []

abbrev pub world_ref_steps : WorldRef → List Step
world_ref_steps (WorldRef.path p) = path_steps p
world_ref_steps (WorldRef.ident x) = Step.looks_up levels.Root x ∷ []

-- ---- bodies

-- a used type is bound under the identifier after `as`, else under its own
abbrev pub use_item_steps : Level → UseItem → List Step
use_item_steps l x = Step.binds l (unwrap_or x.as_id x.id) ∷ []

abbrev pub use_steps : Level → Use → List Step
use_steps l u = use_path_steps u.path ++ flat_map (use_item_steps l) u.items

abbrev pub interface_item_steps : Level → InterfaceItem → List Step
interface_item_steps l (InterfaceItem.use_statement u) = use_steps l u
interface_item_steps l (InterfaceItem.interface_export x) = func_ref_steps l x.ty
interface_item_steps l (InterfaceItem.ty d) = item_type_steps l d

abbrev pub interface_steps : Level → List InterfaceItem → List Step
interface_steps l items = Step.begins l ∷ flat_map (interface_item_steps l) items

-- the interface of a world's item has a scope within that of the world, whose names it doesn't see
abbrev pub extern_type_steps : Level → ExternType → List Step
extern_type_steps l (ExternType.ident x) = Step.looks_outwards l x ∷ []
extern_type_steps l (ExternType.func f) = func_steps l f
extern_type_steps l (ExternType.interface i) = interface_steps levels.Inner i.items

abbrev pub extern_steps : Level → WorldItemPath → List Step
extern_steps l (WorldItemPath.path p) = path_steps p
extern_steps l (WorldItemPath.named x) = extern_type_steps l x.ty
extern_steps l (WorldItemPath.ident x) = Step.looks_up levels.Root x ∷ []

abbrev pub world_item_steps : Level → WorldItem → List Step
world_item_steps l (WorldItem.use_statement u) = use_steps l u
world_item_steps l (WorldItem.world_import x) = extern_steps l x.path
world_item_steps l (WorldItem.world_export x) = extern_steps l x.path
world_item_steps l (WorldItem.world_include x) = world_ref_steps x.world
world_item_steps l (WorldItem.ty d) = item_type_steps l d

abbrev pub world_steps : List WorldItem → List Step
world_steps items = Step.begins levels.Body ∷ flat_map (world_item_steps levels.Body) items

-- ---- expressions

abbrev mutual
  pub expr_steps : Expr → List Step
  expr_steps (Expr.expr span first others) = primary_steps first

  pub primary_steps : PrimaryExpr → List Step
  primary_steps (PrimaryExpr.new span name args) = arguments_steps args
  primary_steps (PrimaryExpr.nested span x) = expr_steps x
  primary_steps (PrimaryExpr.ident x) = Step.looks_up levels.Root x ∷ []

  pub arguments_steps : Arguments → List Step
  arguments_steps Arguments.none = []
  arguments_steps (Arguments.more a rest) = argument_steps a ++ arguments_steps rest

  pub argument_steps : InstantiationArgument → List Step
  argument_steps (InstantiationArgument.fill span) = []
  argument_steps (InstantiationArgument.spread x) = Step.looks_up levels.Root x ∷ []
  argument_steps (InstantiationArgument.named name x) = expr_steps x
  argument_steps (InstantiationArgument.inferred x) = Step.looks_up levels.Root x ∷ []

-- ---- statements: a name is bound after what it stands for

abbrev pub import_type_steps : ImportType → List Step
import_type_steps (ImportType.func f) = func_steps levels.Root f
import_type_steps (ImportType.interface i) = interface_steps levels.Body i.items
import_type_steps (ImportType.path p) = path_steps p
import_type_steps (ImportType.ident x) = Step.looks_up levels.Root x ∷ []

abbrev pub type_statement_steps : TypeStatement → List Step
type_statement_steps (TypeStatement.interface d) =
    interface_steps levels.Body d.items ++ Step.binds levels.Root d.id ∷ []
type_statement_steps (TypeStatement.world d) = world_steps d.items ++ Step.binds levels.Root d.id ∷ []
type_statement_steps (TypeStatement.ty d) = type_decl_steps d

abbrev pub statement_steps : Statement → List Step
statement_steps (Statement.import_statement x) = import_type_steps x.ty ++ Step.binds levels.Root x.id ∷ []
statement_steps (Statement.let_statement x) = expr_steps x.expr ++ Step.binds levels.Root x.id ∷ []
statement_steps (Statement.export_statement x) = expr_steps x.expr
statement_steps (Statement.type_statement x) = type_statement_steps x

-- ---- documents

abbrev pub target_steps : Option PackagePath → List Step
target_steps None = []
target_steps (Some p) = path_steps p

-- the target is looked up after all statements
abbrev pub steps_of : PackageDirective → List Statement → List Step
steps_of directive statements = flat_map statement_steps statements ++ target_steps directive.targets

abbrev pub document_steps : Document → List Step
document_steps doc = steps_of doc.directive doc.statements

-- ---- example

abbrev word : List ℕ → Ident
word text = record { string = text; span = span 0 1 }

-- `let x = y;`: a name is bound after what it stands for
let_last : statement_steps (Statement.let_statement (record { docs = []; id = word (codes "x"); expr = Expr.expr (span 0 1) (PrimaryExpr.ident (word (codes "y"))) [] }))
    ≡ Step.looks_up levels.Root (word (codes "y")) ∷ Step.binds levels.Root (word (codes "x")) ∷ []
let_last = refl
