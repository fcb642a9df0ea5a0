-- The trees of statements and documents.
use Rattle.std.specs.Prelude.{map}
use Rattle.wac_ast_grammar.specs.Tree as tree
use Rattle.wac_ast_grammar.specs.Tree.{Statement}
use Rattle.wac_ast_base.specs.Names.{doc_comment_of}
use Rattle.wac_ast_statements.specs.Statements.{directive_of, let_statement_of, export_statement_of}
use Rattle.wac_ast.specs.declared.type_statement.TypeStatement.{TypeStatement}
use Rattle.wac_ast.specs.declared.type_statement.TypeStatement.TheVariants as type_statements
use Rattle.wac_ast_worlds.specs.Worlds.{import_statement_of, interface_decl_of, world_decl_of}
use Rattle.wac_ast.specs.declared.statement.Statement.{Statement as CodeStatement}
use Rattle.wac_ast.specs.declared.statement.Statement.TheVariants as statements
use Rattle.wac_ast.specs.declared.document.Document.{Document as CodeDocument}
use Rattle.wac_ast_types.specs.Declarations.{type_decl_of}

abbrev pub type_statement_of : TypeStatement → tree.TypeStatement
type_statement_of (type_statements.Interface x) = tree.TypeStatement.interface (interface_decl_of x)
type_statement_of (type_statements.World x) = tree.TypeStatement.world (world_decl_of x)
type_statement_of (type_statements.Ty x) = tree.TypeStatement.ty (type_decl_of x)

abbrev pub statement_of : CodeStatement → tree.Statement
statement_of (statements.Import x) = Statement.import_statement (import_statement_of x)
statement_of (statements.Ty x) = Statement.type_statement (type_statement_of x)
statement_of (statements.Let x) = Statement.let_statement (let_statement_of x)
statement_of (statements.Export x) = Statement.export_statement (export_statement_of x)

abbrev pub document_of : CodeDocument → tree.Document
document_of x = record { docs = map doc_comment_of x.docs.items; directive = directive_of x.directive; statements = map statement_of x.statements.items }
