-- Where the parts of a tree are, and the identifiers and texts that name them.
use Rattle.std.specs.Prelude.{ℕ, List, Some, None}
use Rattle.wac_lexer.specs.Span.{Span}
use Rattle.wac_ast_grammar.specs.Tree.{Ident, UsePath, ItemTypeDecl, ImportType, ImportStatement, Expr, ExportOptions, ExportStatement}
use Rattle.wac_ast_grammar.specs.Spans.{extern_name_span}

-- ---- types and declarations

abbrev pub item_identifier : ItemTypeDecl → Ident
item_identifier (ItemTypeDecl.resource d) = d.id
item_identifier (ItemTypeDecl.variant d) = d.id
item_identifier (ItemTypeDecl.record_decl d) = d.id
item_identifier (ItemTypeDecl.flags d) = d.id
item_identifier (ItemTypeDecl.enum d) = d.id
item_identifier (ItemTypeDecl.alias d) = d.id

-- the text by which an interface is named
abbrev pub use_path_name : UsePath → List ℕ
use_path_name (UsePath.path p) = p.string
use_path_name (UsePath.ident x) = x.string

abbrev pub use_path_span : UsePath → Span
use_path_span (UsePath.path p) = p.span
use_path_span (UsePath.ident x) = x.span

-- ---- statements and expressions

abbrev pub expr_span : Expr → Span
expr_span (Expr.expr span first others) = span

abbrev pub unnamed_import_span : Ident → ImportType → Span
unnamed_import_span id (ImportType.path x) = x.span
unnamed_import_span id _ = id.span

-- where an import's name is: after `as`, else the path, else the identifier
abbrev pub import_span : ImportStatement → Span
import_span x = elim x.name [ None ↦ unnamed_import_span x.id x.ty | Some name ↦ extern_name_span name ]

-- where an export's name is: after `as`, else the `...` or the expression
abbrev pub options_span : Expr → ExportOptions → Span
options_span e (ExportOptions.spread span) = span
options_span e (ExportOptions.rename name) = extern_name_span name
options_span e ExportOptions.none = expr_span e

abbrev pub export_span : ExportStatement → Span
export_span x = options_span x.expr x.options
