-- The trees of names, paths and docs, as values have them.
use Rattle.std.specs.Prelude.{ℕ, List, [], Result, Ok, Err, length, ◌≡◌, ◌<◌, ◌≤◌, ◌^◌}
use Rattle.std.specs.List.{AllByRecursion}
use Rattle.std.specs.Option.{option_map}
use Rattle.semver.specs.Identifiers.{parts_of}
use Rattle.wac_lexer.specs.Item.{Doc}
use Rattle.wac_lexer.specs.Reading.{Reading, left, slice}
use Rattle.wac_lexer.specs.Span.{end_of}
use Rattle.wac_lexer.specs.declared.token.Token.{Token}
use Rattle.wac_ast_base.specs.declared.error.Error.{Error}
use Rattle.wac_ast_base.specs.declared.version.Versioned.{Versioned}
use Rattle.wac_ast_grammar.specs.Version.{unversioned, version_of}
use Rattle.wac_ast_grammar.specs.Reading.{read_token}
use Rattle.wac_ast_base.specs.Answer.{first_item, end_of_input, FailsToTake}
use Rattle.wac_ast_grammar.specs.Spelled.{spelled}
use Rattle.wac_ast_grammar.specs.Segments.{package_name_span, segment_spans}
use Rattle.wac_ast_grammar.specs.Tree as tree
use Rattle.wac_ast_grammar.specs.Tree.{ExternName}
use Rattle.wac_ast_base.specs.declared.names.Ident.{Ident as CodeIdent}
use Rattle.wac_ast_base.specs.declared.names.String.{String as CodeString}
use Rattle.wac_ast_base.specs.declared.package.PackagePath.{PackagePath as CodePackagePath}
use Rattle.wac_ast_base.specs.declared.names.ExternName.{ExternName as CodeExternName}
use Rattle.wac_ast_base.specs.declared.names.ExternName.TheVariants as externs
use Rattle.wac_ast_base.specs.declared.names.DocComment.{DocComment as CodeDocComment}
use Rattle.wac_ast_base.specs.declared.package.PackageName.{PackageName as CodePackageName}

abbrev pub doc_comment_of : CodeDocComment → Doc
doc_comment_of x = record { comment = x.comment.now; span = x.span }

abbrev pub ident_of : CodeIdent → tree.Ident
ident_of x = record { string = x.string.now; span = x.span }

abbrev pub string_of : CodeString → tree.String
string_of x = record { value = x.value.now; span = x.span }

abbrev pub package_path_of : CodePackagePath → tree.PackagePath
package_path_of x = record { span = x.span; string = x.string.now; name = x.name.now; segments = x.segments.now; version = option_map parts_of x.version }

abbrev pub extern_name_of : CodeExternName → tree.ExternName
extern_name_of (externs.Ident x) = ExternName.ident (ident_of x)
extern_name_of (externs.String x) = ExternName.string (string_of x)

abbrev pub package_name_of : CodePackageName → tree.PackageName
package_name_of x = record { string = x.string.now; name = x.name.now; version = option_map parts_of x.version; span = x.span }

-- A package token was taken, and its version read.
abbrev pub TakesPackage : Token → Result Versioned Error → Reading → Reading → Type 0
TakesPackage token (Ok x) old new =
    (read_token [] token (left old) ≡ Ok (first_item (left old), left new))
    × (x.span ≡ (first_item (left old)).span)
    × (x.text.now ≡ (first_item (left old)).text)
    × (x.name.now ≡ unversioned (first_item (left old)).text)
    × (option_map parts_of x.version ≡ version_of (first_item (left old)).text)
    × (end_of_input new ≡ end_of_input old)
TakesPackage token (Err error) old new = FailsToTake token old error

-- Of a path of the source, the package's name and each segment is what the source has at its span.
abbrev pub SegmentsStand : List ℕ → tree.PackagePath → Type 0
SegmentsStand source path = (spelled source).path path → end_of path.span ≤ length source → length source < 2 ^ 64
    → (path.name ≡ slice source (package_name_span path))
    × AllByRecursion (λ s. s.0 ≡ slice source s.1) (segment_spans path)
