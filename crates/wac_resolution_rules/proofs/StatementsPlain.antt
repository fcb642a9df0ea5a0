-- Of a document only the names and texts matter: layout carries no meaning.
use Rattle.wac_resolution_rules.proofs.Common.{◌≡◌, ℕ, List, [], ◌∷◌, ◌++◌, refl, sym, ◌∙◌, ap, Option, Some, None, ◌||◌, map, option_map, func, instance, Meaning, Named, IsFresh, Steps, kind_of, promoted, Contents, Ident, PackagePath, ExternName, PostfixExpr, Expr, PrimaryExpr, Arguments, InstantiationArgument, InstantiationArgumentName, ImportType, ImportStatement, LetStatement, ExportOptions, ExportStatement, Statement, Document, walk_arguments, walk_export_options, walk_export_statement, walk_expr, walk_extern_name, walk_import_statement, walk_import_type, walk_instantiation_argument, walk_instantiation_argument_name, walk_let_statement, walk_postfix_expr, walk_primary_expr, walk_statement, changed, extern_name_text, no_docs, plain, plain_document}
use Rattle.wac_resolution_rules.specs.Given.{Given, instantiable, key_named, imports_in}
use Rattle.wac_resolution_rules.specs.Composition.{Composition, imported, root_scope, with_node, with_resources, binding, start}
use Rattle.wac_resolution_rules.specs.Nodes.{imports, next_of}
use Rattle.wac_resolution_rules.specs.Expressions.{At, Accesses, Giving, nothing_given, given_too, name_meant, Spreads, spread_of, spreads_of, is_fill, has_fill, IsEmpty, Instantiates, Stands, PrimaryStands, Gives, GivesOne}
use Rattle.wac_resolution_rules.specs.Statements.{ImportsKind, unnamed_import, name_imported, Imports, Lets, ExportsBy, Exports, StatementStep, Composes}
use Rattle.wac_resolution_rules.specs.Target.{MeetsTarget}
use Rattle.wac_resolution_rules.specs.ResolvedDocument.{Describes}
use Rattle.wac_resolution_rules.proofs.StepLaws.{steps_map}
use Rattle.wac_resolution_rules.proofs.TypesPlain.{func_with_plain}
use Rattle.wac_resolution_rules.proofs.WorldsPlain.{interface_plain, declares_plain}

access_plain : (old : At) (p : PostfixExpr) → Accesses old (walk_postfix_expr (changed plain) p) ≡ Accesses old p
access_plain old (PostfixExpr.access x) = refl
access_plain old (PostfixExpr.named_access x) = refl

name_plain : (x : InstantiationArgumentName) (imports : Named Meaning) → name_meant (walk_instantiation_argument_name (changed plain) x) imports ≡ name_meant x imports
name_plain (InstantiationArgumentName.ident x) imports = refl
name_plain (InstantiationArgumentName.string x) imports = refl

spread_plain : (imports : Named Meaning) (old : Giving) (id : Ident) → Spreads imports old (plain.ident id) ≡ Spreads imports old id
spread_plain imports old id = refl

spread_of_plain : (a : InstantiationArgument) → spread_of (walk_instantiation_argument (changed plain) a) ≡ map plain.ident (spread_of a)
spread_of_plain (InstantiationArgument.fill s) = refl
spread_of_plain (InstantiationArgument.spread x) = refl
spread_of_plain (InstantiationArgument.named name x) = refl
spread_of_plain (InstantiationArgument.inferred x) = refl

map_append : {X Y : Type 0} (f : X → Y) (xs ys : List X) → map f (xs ++ ys) ≡ map f xs ++ map f ys
map_append f [] ys = refl
map_append f (x ∷ xs) ys = ap (λ l. f x ∷ l) (map_append f xs ys)

spreads_of_plain : (args : Arguments) → spreads_of (walk_arguments (changed plain) args) ≡ map plain.ident (spreads_of args)
spreads_of_plain Arguments.none = refl
spreads_of_plain (Arguments.more a rest) =
    ap (λ l. l ++ spreads_of (walk_arguments (changed plain) rest)) (spread_of_plain a) ∙ ap (λ l. map plain.ident (spread_of a) ++ l) (spreads_of_plain rest) ∙ sym (map_append plain.ident (spread_of a) (spreads_of rest))

is_fill_plain : (a : InstantiationArgument) → is_fill (walk_instantiation_argument (changed plain) a) ≡ is_fill a
is_fill_plain (InstantiationArgument.fill s) = refl
is_fill_plain (InstantiationArgument.spread x) = refl
is_fill_plain (InstantiationArgument.named name x) = refl
is_fill_plain (InstantiationArgument.inferred x) = refl

has_fill_plain : (args : Arguments) → has_fill (walk_arguments (changed plain) args) ≡ has_fill args
has_fill_plain Arguments.none = refl
has_fill_plain (Arguments.more a rest) = λ i. is_fill_plain a i || has_fill_plain rest i

empty_plain : (args : Arguments) → IsEmpty (walk_arguments (changed plain) args) ≡ IsEmpty args
empty_plain Arguments.none = refl
empty_plain (Arguments.more a rest) = refl

spreads_plain : (imports : Named Meaning) (given : Giving) (args : Arguments) → Steps (Spreads imports) given (spreads_of (walk_arguments (changed plain) args)) ≡ Steps (Spreads imports) given (spreads_of args)
spreads_plain imports given args = ap (λ (l : List Ident). Steps (Spreads imports) given l) (spreads_of_plain args) ∙ steps_map (Spreads imports) plain.ident (spread_plain imports) given (spreads_of args)

mutual
  -- an expression denotes what its plain tree denotes
  pub stands_plain : (s : Given) (old : Composition) (x : Expr) → Stands s old (walk_expr (changed plain) x) ≡ Stands s old x
  stands_plain s old (Expr.expr span first others) = λ i new. (mid : At) × first_plain s old first i mid × steps_map Accesses (walk_postfix_expr (changed plain)) access_plain mid others i new

  pub first_plain : (s : Given) (old : Composition) (x : PrimaryExpr) → PrimaryStands s old (walk_primary_expr (changed plain) x) ≡ PrimaryStands s old x
  first_plain s old (PrimaryExpr.new span name args) = λ i new. (p : Contents) × (given : Giving) × (all : Giving) × (instantiable s name ≡ Some p)
      × gives_plain s (imports_in p) (nothing_given old) args i given × spreads_plain (imports_in p) given args i all × Instantiates s.rules p (key_named name) (has_fill_plain args i) all new
  first_plain s old (PrimaryExpr.nested span x) = stands_plain s old x
  first_plain s old (PrimaryExpr.ident id) = refl

  pub gives_plain : (s : Given) (imports : Named Meaning) (old : Giving) (x : Arguments) → Gives s imports old (walk_arguments (changed plain) x) ≡ Gives s imports old x
  gives_plain s imports old Arguments.none = refl
  gives_plain s imports old (Arguments.more a rest) = λ i new. (mid : Giving) × give_plain s imports rest old a i mid × gives_plain s imports mid rest i new

  pub give_plain : (s : Given) (imports : Named Meaning) (rest : Arguments) (old : Giving) (x : InstantiationArgument) → GivesOne s imports (walk_arguments (changed plain) rest) old (walk_instantiation_argument (changed plain) x) ≡ GivesOne s imports rest old x
  give_plain s imports rest old (InstantiationArgument.fill span) = λ i new. empty_plain rest i × (new ≡ old)
  give_plain s imports rest old (InstantiationArgument.spread id) = refl
  give_plain s imports rest old (InstantiationArgument.named name x) = λ i new. (a : At) × stands_plain s old.composition x i a
      × IsFresh (name_plain name imports i) old.arguments × (new ≡ given_too old (name_plain name imports i) a)
  give_plain s imports rest old (InstantiationArgument.inferred id) = refl

-- ---- statements

extern_plain : (x : ExternName) → extern_name_text (walk_extern_name (changed plain) x) ≡ extern_name_text x
extern_plain (ExternName.ident x) = refl
extern_plain (ExternName.string x) = refl

unnamed_plain : (id : Ident) (x : ImportType) (k : Meaning) → unnamed_import (plain.ident id) (walk_import_type (changed plain) no_docs x) k ≡ unnamed_import id x k
unnamed_plain id (ImportType.func x) k = refl
unnamed_plain id (ImportType.interface x) k = refl
unnamed_plain id (ImportType.path x) k = refl
unnamed_plain id (ImportType.ident x) k = refl

imported_plain : (x : ImportStatement) (k : Meaning) → name_imported (walk_import_statement (changed plain) no_docs x) k ≡ name_imported x k
imported_plain x k = go x.name
  where
    go : (o : Option ExternName) → (elim (option_map (walk_extern_name (changed plain)) o) as (λ _. List ℕ) [ None ↦ unnamed_import (plain.ident x.id) (walk_import_type (changed plain) no_docs x.ty) k | Some name ↦ extern_name_text name ]) ≡ (elim o as (λ _. List ℕ) [ None ↦ unnamed_import x.id x.ty k | Some name ↦ extern_name_text name ])
    go None = unnamed_plain x.id x.ty k
    go (Some name) = extern_plain name

kind_plain : (s : Given) (old : Composition) (x : ImportType) → ImportsKind s old (walk_import_type (changed plain) no_docs x) ≡ ImportsKind s old x
kind_plain s old (ImportType.func x) = λ i k after. (entry : Meaning) × func_with_plain (root_scope old) [] x i entry × (k ≡ kind_of func entry) × (after ≡ old.resources)
kind_plain s old (ImportType.interface x) = λ i k after. (entry : Meaning) × interface_plain s.context (root_scope old) old.resources None x.items i entry after × (k ≡ kind_of instance entry)
kind_plain s old (ImportType.path x) = refl
kind_plain s old (ImportType.ident x) = refl

imports_plain : (s : Given) (old : Composition) (x : ImportStatement) → Imports s old (walk_import_statement (changed plain) no_docs x) ≡ Imports s old x
imports_plain s old x = λ i new. (k : Meaning) × (n : ℕ) × kind_plain s old x.ty i k n
    × IsFresh (imported_plain x k i) (imports old) × (s.rules.named (imported_plain x k i) ≡ None) × IsFresh x.id.string old.declared
    × (new ≡ binding (with_node (with_resources old n) (imported (imported_plain x k i)) (promoted k)) x.id.string (next_of old))

lets_plain : (s : Given) (old : Composition) (x : LetStatement) → Lets s old (walk_let_statement (changed plain) no_docs x) ≡ Lets s old x
lets_plain s old x = λ i new. (a : At) × stands_plain s old x.expr i a × IsFresh x.id.string a.composition.declared × (new ≡ binding a.composition x.id.string a.node)

options_plain : (s : Given) (a : At) (x : ExportOptions) → ExportsBy s a (walk_export_options (changed plain) x) ≡ ExportsBy s a x
options_plain s a (ExportOptions.spread span) = refl
options_plain s a (ExportOptions.rename (ExternName.ident x)) = refl
options_plain s a (ExportOptions.rename (ExternName.string x)) = refl
options_plain s a ExportOptions.none = refl

exports_plain : (s : Given) (old : Composition) (x : ExportStatement) → Exports s old (walk_export_statement (changed plain) no_docs x) ≡ Exports s old x
exports_plain s old x = λ i new. (a : At) × stands_plain s old x.expr i a × options_plain s a x.options i new

-- a statement yields what its plain tree yields
pub goes_plain : (s : Given) (old : Composition) (x : Statement) → StatementStep s old (walk_statement (changed plain) no_docs x) ≡ StatementStep s old x
goes_plain s old (Statement.import_statement x) = imports_plain s old x
goes_plain s old (Statement.let_statement x) = lets_plain s old x
goes_plain s old (Statement.export_statement x) = exports_plain s old x
goes_plain s old (Statement.type_statement x) = declares_plain s.context old x

pub composes_plain : (s : Given) (old : Composition) (xs : List Statement) → Composes s old (map (walk_statement (changed plain) no_docs) xs) ≡ Composes s old xs
composes_plain s old xs = steps_map (StatementStep s) (walk_statement (changed plain) no_docs) (goes_plain s) old xs

target_plain : (s : Given) (c : Composition) (p : Option PackagePath) → MeetsTarget s c (option_map plain.path p) ≡ MeetsTarget s c p
target_plain s c None = refl
target_plain s c (Some p) = refl

-- a document describes what its plain tree describes
pub describes_plain : (s : Given) (doc : Document) (c : Composition) → Describes s (plain_document doc) c ≡ Describes s doc c
describes_plain s doc c = λ i. composes_plain s start doc.statements i c × target_plain s c doc.directive.targets i
