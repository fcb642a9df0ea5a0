-- The trees of the package directive, of bindings and of exports.
use Rattle.std.specs.Prelude.{map}
use Rattle.std.specs.Option.{option_map}
use Rattle.wac_ast_grammar.specs.Tree as tree
use Rattle.wac_ast_grammar.specs.Tree.{ExportOptions}
use Rattle.wac_ast_statements.specs.declared.export.ExportOptions.{ExportOptions as CodeExportOptions}
use Rattle.wac_ast_statements.specs.declared.export.ExportOptions.TheVariants as options
use Rattle.wac_ast_statements.specs.declared.export.ExportStatement.{ExportStatement as CodeExportStatement}
use Rattle.wac_ast_statements.specs.declared.let_statement.LetStatement.{LetStatement as CodeLetStatement}
use Rattle.wac_ast_statements.specs.declared.directive.PackageDirective.{PackageDirective as CodePackageDirective}
use Rattle.wac_ast_base.specs.Names.{doc_comment_of, ident_of, package_path_of, extern_name_of, package_name_of}
use Rattle.wac_ast_statements.specs.Expressions.{expr_of}

abbrev pub export_options_of : CodeExportOptions → tree.ExportOptions
export_options_of options.None = ExportOptions.none
export_options_of (options.Spread s) = ExportOptions.spread s
export_options_of (options.Rename x) = ExportOptions.rename (extern_name_of x)

abbrev pub export_statement_of : CodeExportStatement → tree.ExportStatement
export_statement_of x = record { docs = map doc_comment_of x.docs.items; expr = expr_of x.expr; options = export_options_of x.options }

abbrev pub let_statement_of : CodeLetStatement → tree.LetStatement
let_statement_of x = record { docs = map doc_comment_of x.docs.items; id = ident_of x.id; expr = expr_of x.expr }

abbrev pub directive_of : CodePackageDirective → tree.PackageDirective
directive_of x = record { package_name = package_name_of x.«package»; targets = option_map package_path_of x.targets }
