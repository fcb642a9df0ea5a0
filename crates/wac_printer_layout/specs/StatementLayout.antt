-- How documents and their statements are printed.
use Rattle.std.specs.Prelude.{◌≡◌, ℕ, true, List, [], ◌∷◌, ◌++◌, Option, Some, None, codes, refl}
use Rattle.wac_ast_grammar.specs.Tree as tree
use Rattle.wac_ast_grammar.specs.Tree.{Ident, ExternName, PackagePath, ImportType, ImportStatement, LetStatement, ExportOptions, ExportStatement, TypeStatement, Statement, PackageDirective, Document}
use Rattle.wac_printer_layout.specs.Printed.{Piece, token, line, text}
use Rattle.wac_printer_layout.specs.Parts.{space, newline, spaced, docs_layout}
use Rattle.wac_printer_layout.specs.TypeLayout.{extern_name_layout, func_type_layout}
use Rattle.wac_printer_layout.specs.DeclarationLayout.{head_layout, type_decl_layout}
use Rattle.wac_printer_layout.specs.InterfaceLayout.{inline_interface_layout, interface_decl_layout}
use Rattle.wac_printer_layout.specs.WorldLayout.{world_decl_layout}
use Rattle.wac_printer_layout.specs.ExpressionLayout.{expr_layout}
use Rattle.wac_printer_layout.specs.Bare.{nowhere}

unfoldable pub import_type_layout : ℕ → ImportType → List Piece
import_type_layout depth (tree.ImportType.func x) = func_type_layout x
import_type_layout depth (tree.ImportType.interface x) = inline_interface_layout depth x
import_type_layout depth (tree.ImportType.path x) = token x.string ∷ []
import_type_layout depth (tree.ImportType.ident x) = token x.string ∷ []

-- ` as S`
abbrev pub renamed_layout : ExternName → List Piece
renamed_layout x = space ∷ token (codes "as") ∷ space ∷ extern_name_layout x

abbrev pub import_name_layout : Option ExternName → List Piece
import_name_layout None = []
import_name_layout (Some x) = renamed_layout x

abbrev pub import_statement_layout : ℕ → ImportStatement → List Piece
import_statement_layout depth x =
    docs_layout depth x.docs ++ (head_layout depth (codes "import") x.id ++ (import_name_layout x.name
    ++ token (codes ":") ∷ space ∷ (import_type_layout depth x.ty ++ token (codes ";") ∷ [])))

abbrev pub let_statement_layout : ℕ → LetStatement → List Piece
let_statement_layout depth x =
    docs_layout depth x.docs ++ (head_layout depth (codes "let") x.id ++ space ∷ token (codes "=") ∷ space ∷ (expr_layout depth x.expr ++ token (codes ";") ∷ []))

abbrev pub export_options_layout : ExportOptions → List Piece
export_options_layout (tree.ExportOptions.spread s) = token (codes "...") ∷ []
export_options_layout (tree.ExportOptions.rename x) = renamed_layout x
export_options_layout tree.ExportOptions.none = []

abbrev pub export_statement_layout : ℕ → ExportStatement → List Piece
export_statement_layout depth x =
    docs_layout depth x.docs ++ (line depth ∷ token (codes "export") ∷ space ∷ (expr_layout depth x.expr ++ (export_options_layout x.options ++ token (codes ";") ∷ [])))

unfoldable pub type_statement_layout : ℕ → TypeStatement → List Piece
type_statement_layout depth (tree.TypeStatement.interface x) = interface_decl_layout depth x
type_statement_layout depth (tree.TypeStatement.world x) = world_decl_layout depth x
type_statement_layout depth (tree.TypeStatement.ty x) = type_decl_layout depth x

unfoldable pub statement_layout : ℕ → Statement → List Piece
statement_layout depth (tree.Statement.import_statement x) = import_statement_layout depth x
statement_layout depth (tree.Statement.let_statement x) = let_statement_layout depth x
statement_layout depth (tree.Statement.export_statement x) = export_statement_layout depth x
statement_layout depth (tree.Statement.type_statement x) = type_statement_layout depth x

-- nothing, or ` targets S`
abbrev pub targets_layout : Option PackagePath → List Piece
targets_layout None = []
targets_layout (Some x) = space ∷ token (codes "targets") ∷ space ∷ token x.string ∷ []

abbrev pub directive_layout : ℕ → PackageDirective → List Piece
directive_layout depth x =
    line depth ∷ token (codes "package") ∷ space ∷ token x.package_name.string ∷ (targets_layout x.targets ++ token (codes ";") ∷ newline ∷ newline ∷ [])

abbrev pub document_layout : ℕ → Document → List Piece
document_layout depth x = docs_layout depth x.docs ++ (directive_layout depth x.directive ++ spaced (statement_layout depth) x.statements)

abbrev package_name : List ℕ → tree.PackageName
package_name text = record { string = text; name = text; version = None; span = nowhere }

abbrev path : List ℕ → PackagePath
path text = record { span = nowhere; string = text; name = text; segments = []; version = None }

document_1 : text [] true (document_layout 0 (record { docs = []; directive = record { package_name = package_name (codes "a:b"); targets = Some (path (codes "c:d/e")) }; statements = [] })) ≡ codes "package a:b targets c:d/e;\n\n"
unfolding spaced docs_layout
document_1 = refl
