-- The value that is the JSON form of each node of a tree.
-- Each object's keys stand sorted by their bytes; docs/JSON.md has the forms as text.
use Rattle.std.specs.Prelude.{◌≡◌, refl, ℕ, List, [], ◌∷◌, Option, Some, None, codes}
use Rattle.std.specs.Fmt.{digits}
use Rattle.json.specs.Print.{escape_byte}
use Rattle.serde_json.specs.Data.{unsigned, Data, null, boolean, number, string, array, object, Items, no_items, item, Members, no_members, member}
use Rattle.serde_json.specs.Written.{compact_text}
use Rattle.semver.specs.Parse.{Parts}
use Rattle.semver.specs.Identifiers.{parts_text}
use Rattle.wac_lexer.specs.Span.{Span, span}
use Rattle.wac_lexer.specs.Item.{Doc}
use Rattle.wac_ast_grammar.specs.Tree as tree

-- ---- what forms are made of

abbrev pub members : List (List ℕ × Data) → Members
members [] = no_members
members (entry ∷ entries) = member entry.0 entry.1 (members entries)

-- an object with these members
abbrev pub object_of : List (List ℕ × Data) → Data
object_of entries = object (members entries)

-- a variant with content: an object of one member, under the variant's name
abbrev pub variant : List ℕ → Data → Data
variant name content = object (member name content no_members)

-- a variant without content: its name
abbrev pub word : List ℕ → Data
word name = string name

-- what stands under a variant's name: the form of a part whose tree is the whole variant
abbrev pub content : Data → Data
content (object (member name inner no_members)) = inner
content other = other

-- two contents without names
abbrev pub pair : Data → Data → Data
pair first second = array (item first (item second no_items))

abbrev pub items_of : {X : Type 0} → (X → Data) → List X → Items
items_of form [] = no_items
items_of form (x ∷ xs) = item (form x) (items_of form xs)

-- a list, in order
unfoldable pub list_json : {X : Type 0} → (X → Data) → List X → Data
list_json form xs = array (items_of form xs)

-- a part that may be absent
unfoldable pub optional : {X : Type 0} → (X → Data) → Option X → Data
optional form None = null
optional form (Some x) = form x

-- ---- names and places

unfoldable pub span_json : Span → Data
span_json s =
    object_of ((codes "length", number (unsigned s.len)) ∷ (codes "offset", number (unsigned s.offset)) ∷ [])

unfoldable pub version_json : Parts → Data
version_json version = string (parts_text version)

unfoldable pub doc_json : Doc → Data
doc_json x = object_of ((codes "comment", string x.comment) ∷ (codes "span", span_json x.span) ∷ [])

unfoldable pub ident_json : tree.Ident → Data
ident_json x = object_of ((codes "span", span_json x.span) ∷ (codes "string", string x.string) ∷ [])

unfoldable pub string_json : tree.String → Data
string_json x = object_of ((codes "span", span_json x.span) ∷ (codes "value", string x.value) ∷ [])

unfoldable pub package_name_json : tree.PackageName → Data
package_name_json x =
    object_of
    ((codes "name", string x.name)
    ∷ (codes "span", span_json x.span)
    ∷ (codes "string", string x.string)
    ∷ (codes "version", optional version_json x.version)
    ∷ [])

unfoldable pub package_path_json : tree.PackagePath → Data
package_path_json x =
    object_of
    ((codes "name", string x.name)
    ∷ (codes "segments", string x.segments)
    ∷ (codes "span", span_json x.span)
    ∷ (codes "string", string x.string)
    ∷ (codes "version", optional version_json x.version)
    ∷ [])

unfoldable pub extern_name_json : tree.ExternName → Data
extern_name_json (tree.ExternName.ident x) = variant (codes "ident") (ident_json x)
extern_name_json (tree.ExternName.string x) = variant (codes "string") (string_json x)

-- ---- types

-- a result's contents, by the forms of its parts
abbrev pub result_json : Data → Data → Data → Data
result_json ok err s = object_of ((codes "err", err) ∷ (codes "ok", ok) ∷ (codes "span", s) ∷ [])

unfoldable mutual
  pub ty_json : tree.Ty → Data
  ty_json (tree.Ty.u8 s) = variant (codes "u8") (span_json s)
  ty_json (tree.Ty.s8 s) = variant (codes "s8") (span_json s)
  ty_json (tree.Ty.u16 s) = variant (codes "u16") (span_json s)
  ty_json (tree.Ty.s16 s) = variant (codes "s16") (span_json s)
  ty_json (tree.Ty.u32 s) = variant (codes "u32") (span_json s)
  ty_json (tree.Ty.s32 s) = variant (codes "s32") (span_json s)
  ty_json (tree.Ty.u64 s) = variant (codes "u64") (span_json s)
  ty_json (tree.Ty.s64 s) = variant (codes "s64") (span_json s)
  ty_json (tree.Ty.f32 s) = variant (codes "f32") (span_json s)
  ty_json (tree.Ty.f64 s) = variant (codes "f64") (span_json s)
  ty_json (tree.Ty.char s) = variant (codes "char") (span_json s)
  ty_json (tree.Ty.bool s) = variant (codes "bool") (span_json s)
  ty_json (tree.Ty.string s) = variant (codes "string") (span_json s)
  ty_json (tree.Ty.tuple types s) = variant (codes "tuple") (pair (array (types_json types)) (span_json s))
  ty_json (tree.Ty.list t s) = variant (codes "list") (pair (ty_json t) (span_json s))
  ty_json (tree.Ty.option t s) = variant (codes "option") (pair (ty_json t) (span_json s))
  ty_json (tree.Ty.result ok err s) =
      variant (codes "result") (result_json (optional_ty_json ok) (optional_ty_json err) (span_json s))
  ty_json (tree.Ty.borrow id s) = variant (codes "borrow") (pair (ident_json id) (span_json s))
  ty_json (tree.Ty.stream held s) = variant (codes "stream") (pair (optional_ty_json held) (span_json s))
  ty_json (tree.Ty.future held s) = variant (codes "future") (pair (optional_ty_json held) (span_json s))
  ty_json (tree.Ty.error_context s) = variant (codes "errorContext") (span_json s)
  ty_json (tree.Ty.ident id) = variant (codes "ident") (ident_json id)

  pub optional_ty_json : tree.OptionalTy → Data
  optional_ty_json tree.OptionalTy.absent = null
  optional_ty_json (tree.OptionalTy.present t) = ty_json t

  pub types_json : tree.Types → Items
  types_json tree.Types.none = no_items
  types_json (tree.Types.more t types) = item (ty_json t) (types_json types)

unfoldable pub named_type_json : tree.NamedType → Data
named_type_json x = object_of ((codes "id", ident_json x.id) ∷ (codes "ty", ty_json x.ty) ∷ [])

unfoldable pub result_list_json : tree.ResultList → Data
result_list_json tree.ResultList.empty = word (codes "empty")
result_list_json (tree.ResultList.scalar x) = variant (codes "scalar") (ty_json x)
result_list_json (tree.ResultList.named x) = variant (codes "named") (list_json named_type_json x)

unfoldable pub func_type_json : tree.FuncType → Data
func_type_json x =
    object_of
    ((codes "isAsync", boolean x.is_async)
    ∷ (codes "params", list_json named_type_json x.params)
    ∷ (codes "results", result_list_json x.results)
    ∷ [])

unfoldable pub func_type_ref_json : tree.FuncTypeRef → Data
func_type_ref_json (tree.FuncTypeRef.func x) = variant (codes "func") (func_type_json x)
func_type_ref_json (tree.FuncTypeRef.ident x) = variant (codes "ident") (ident_json x)

-- ---- declarations of types

unfoldable pub constructor_json : tree.Constructor → Data
constructor_json x =
    object_of
    ((codes "docs", list_json doc_json x.docs)
    ∷ (codes "params", list_json named_type_json x.params)
    ∷ (codes "span", span_json x.span)
    ∷ [])

unfoldable pub method_json : tree.Method → Data
method_json x =
    object_of
    ((codes "docs", list_json doc_json x.docs)
    ∷ (codes "id", ident_json x.id)
    ∷ (codes "isStatic", boolean x.is_static)
    ∷ (codes "ty", func_type_json x.ty)
    ∷ [])

unfoldable pub resource_method_json : tree.ResourceMethod → Data
resource_method_json (tree.ResourceMethod.constructor x) = variant (codes "constructor") (constructor_json x)
resource_method_json (tree.ResourceMethod.method x) = variant (codes "method") (method_json x)

unfoldable pub resource_decl_json : tree.ResourceDecl → Data
resource_decl_json x =
    object_of
    ((codes "docs", list_json doc_json x.docs)
    ∷ (codes "id", ident_json x.id)
    ∷ (codes "methods", list_json resource_method_json x.methods)
    ∷ [])

unfoldable pub variant_case_json : tree.VariantCase → Data
variant_case_json x =
    object_of
    ((codes "docs", list_json doc_json x.docs)
    ∷ (codes "id", ident_json x.id)
    ∷ (codes "ty", optional ty_json x.ty)
    ∷ [])

unfoldable pub variant_decl_json : tree.VariantDecl → Data
variant_decl_json x =
    object_of
    ((codes "cases", list_json variant_case_json x.cases)
    ∷ (codes "docs", list_json doc_json x.docs)
    ∷ (codes "id", ident_json x.id)
    ∷ [])

unfoldable pub field_json : tree.Field → Data
field_json x =
    object_of
    ((codes "docs", list_json doc_json x.docs)
    ∷ (codes "id", ident_json x.id)
    ∷ (codes "ty", ty_json x.ty)
    ∷ [])

unfoldable pub record_decl_json : tree.RecordDecl → Data
record_decl_json x =
    object_of
    ((codes "docs", list_json doc_json x.docs)
    ∷ (codes "fields", list_json field_json x.fields)
    ∷ (codes "id", ident_json x.id)
    ∷ [])

unfoldable pub flag_json : tree.Flag → Data
flag_json x = object_of ((codes "docs", list_json doc_json x.docs) ∷ (codes "id", ident_json x.id) ∷ [])

unfoldable pub flags_decl_json : tree.FlagsDecl → Data
flags_decl_json x =
    object_of
    ((codes "docs", list_json doc_json x.docs)
    ∷ (codes "flags", list_json flag_json x.flags)
    ∷ (codes "id", ident_json x.id)
    ∷ [])

unfoldable pub enum_case_json : tree.EnumCase → Data
enum_case_json x = object_of ((codes "docs", list_json doc_json x.docs) ∷ (codes "id", ident_json x.id) ∷ [])

unfoldable pub enum_decl_json : tree.EnumDecl → Data
enum_decl_json x =
    object_of
    ((codes "cases", list_json enum_case_json x.cases)
    ∷ (codes "docs", list_json doc_json x.docs)
    ∷ (codes "id", ident_json x.id)
    ∷ [])

unfoldable pub type_alias_kind_json : tree.TypeAliasKind → Data
type_alias_kind_json (tree.TypeAliasKind.func x) = variant (codes "func") (func_type_json x)
type_alias_kind_json (tree.TypeAliasKind.ty x) = variant (codes "type") (ty_json x)

unfoldable pub type_alias_json : tree.TypeAlias → Data
type_alias_json x =
    object_of
    ((codes "docs", list_json doc_json x.docs)
    ∷ (codes "id", ident_json x.id)
    ∷ (codes "kind", type_alias_kind_json x.kind)
    ∷ [])

unfoldable pub type_decl_json : tree.TypeDecl → Data
type_decl_json (tree.TypeDecl.variant x) = variant (codes "variant") (variant_decl_json x)
type_decl_json (tree.TypeDecl.record_decl x) = variant (codes "record") (record_decl_json x)
type_decl_json (tree.TypeDecl.flags x) = variant (codes "flags") (flags_decl_json x)
type_decl_json (tree.TypeDecl.enum x) = variant (codes "enum") (enum_decl_json x)
type_decl_json (tree.TypeDecl.alias x) = variant (codes "alias") (type_alias_json x)

unfoldable pub item_type_decl_json : tree.ItemTypeDecl → Data
item_type_decl_json (tree.ItemTypeDecl.resource x) = variant (codes "resource") (resource_decl_json x)
item_type_decl_json (tree.ItemTypeDecl.variant x) = variant (codes "variant") (variant_decl_json x)
item_type_decl_json (tree.ItemTypeDecl.record_decl x) = variant (codes "record") (record_decl_json x)
item_type_decl_json (tree.ItemTypeDecl.flags x) = variant (codes "flags") (flags_decl_json x)
item_type_decl_json (tree.ItemTypeDecl.enum x) = variant (codes "enum") (enum_decl_json x)
item_type_decl_json (tree.ItemTypeDecl.alias x) = variant (codes "alias") (type_alias_json x)

-- ---- interfaces

unfoldable pub use_path_json : tree.UsePath → Data
use_path_json (tree.UsePath.path x) = variant (codes "package") (package_path_json x)
use_path_json (tree.UsePath.ident x) = variant (codes "ident") (ident_json x)

unfoldable pub use_item_json : tree.UseItem → Data
use_item_json x = object_of ((codes "asId", optional ident_json x.as_id) ∷ (codes "id", ident_json x.id) ∷ [])

unfoldable pub use_json : tree.Use → Data
use_json x =
    object_of
    ((codes "docs", list_json doc_json x.docs)
    ∷ (codes "items", list_json use_item_json x.items)
    ∷ (codes "path", use_path_json x.path)
    ∷ [])

unfoldable pub interface_export_json : tree.InterfaceExport → Data
interface_export_json x =
    object_of
    ((codes "docs", list_json doc_json x.docs)
    ∷ (codes "id", ident_json x.id)
    ∷ (codes "ty", func_type_ref_json x.ty)
    ∷ [])

unfoldable pub interface_item_json : tree.InterfaceItem → Data
interface_item_json (tree.InterfaceItem.use_statement x) = variant (codes "use") (use_json x)
interface_item_json (tree.InterfaceItem.ty x) = variant (codes "type") (item_type_decl_json x)
interface_item_json (tree.InterfaceItem.interface_export x) = variant (codes "export") (interface_export_json x)

unfoldable pub interface_decl_json : tree.InterfaceDecl → Data
interface_decl_json x =
    object_of
    ((codes "docs", list_json doc_json x.docs)
    ∷ (codes "id", ident_json x.id)
    ∷ (codes "items", list_json interface_item_json x.items)
    ∷ [])

unfoldable pub inline_interface_json : tree.InlineInterface → Data
inline_interface_json x = object_of ((codes "items", list_json interface_item_json x.items) ∷ [])

-- ---- worlds

unfoldable pub extern_type_json : tree.ExternType → Data
extern_type_json (tree.ExternType.ident x) = variant (codes "ident") (ident_json x)
extern_type_json (tree.ExternType.func x) = variant (codes "func") (func_type_json x)
extern_type_json (tree.ExternType.interface x) = variant (codes "interface") (inline_interface_json x)

unfoldable pub named_world_item_json : tree.NamedWorldItem → Data
named_world_item_json x = object_of ((codes "id", ident_json x.id) ∷ (codes "ty", extern_type_json x.ty) ∷ [])

unfoldable pub world_item_path_json : tree.WorldItemPath → Data
world_item_path_json (tree.WorldItemPath.named x) = variant (codes "named") (named_world_item_json x)
world_item_path_json (tree.WorldItemPath.path x) = variant (codes "package") (package_path_json x)
world_item_path_json (tree.WorldItemPath.ident x) = variant (codes "ident") (ident_json x)

unfoldable pub world_import_json : tree.WorldImport → Data
world_import_json x =
    object_of
    ((codes "docs", list_json doc_json x.docs)
    ∷ (codes "path", world_item_path_json x.path)
    ∷ [])

unfoldable pub world_export_json : tree.WorldExport → Data
world_export_json x =
    object_of
    ((codes "docs", list_json doc_json x.docs)
    ∷ (codes "path", world_item_path_json x.path)
    ∷ [])

unfoldable pub world_ref_json : tree.WorldRef → Data
world_ref_json (tree.WorldRef.ident x) = variant (codes "ident") (ident_json x)
world_ref_json (tree.WorldRef.path x) = variant (codes "package") (package_path_json x)

unfoldable pub world_include_item_json : tree.WorldIncludeItem → Data
world_include_item_json x = object_of ((codes "from", ident_json x.from) ∷ (codes "to", ident_json x.to) ∷ [])

unfoldable pub world_include_json : tree.WorldInclude → Data
world_include_json x =
    object_of
    ((codes "docs", list_json doc_json x.docs)
    ∷ (codes "with", list_json world_include_item_json x.items)
    ∷ (codes "world", world_ref_json x.world)
    ∷ [])

unfoldable pub world_item_json : tree.WorldItem → Data
world_item_json (tree.WorldItem.use_statement x) = variant (codes "use") (use_json x)
world_item_json (tree.WorldItem.ty x) = variant (codes "type") (item_type_decl_json x)
world_item_json (tree.WorldItem.world_import x) = variant (codes "import") (world_import_json x)
world_item_json (tree.WorldItem.world_export x) = variant (codes "export") (world_export_json x)
world_item_json (tree.WorldItem.world_include x) = variant (codes "include") (world_include_json x)

unfoldable pub world_decl_json : tree.WorldDecl → Data
world_decl_json x =
    object_of
    ((codes "docs", list_json doc_json x.docs)
    ∷ (codes "id", ident_json x.id)
    ∷ (codes "items", list_json world_item_json x.items)
    ∷ [])

-- ---- expressions

unfoldable pub access_expr_json : tree.AccessExpr → Data
access_expr_json x = object_of ((codes "id", ident_json x.id) ∷ (codes "span", span_json x.span) ∷ [])

unfoldable pub named_access_expr_json : tree.NamedAccessExpr → Data
named_access_expr_json x =
    object_of ((codes "span", span_json x.span) ∷ (codes "string", string_json x.string) ∷ [])

unfoldable pub postfix_expr_json : tree.PostfixExpr → Data
postfix_expr_json (tree.PostfixExpr.access x) = variant (codes "access") (access_expr_json x)
postfix_expr_json (tree.PostfixExpr.named_access x) = variant (codes "namedAccess") (named_access_expr_json x)

unfoldable pub argument_name_json : tree.InstantiationArgumentName → Data
argument_name_json (tree.InstantiationArgumentName.ident x) = variant (codes "ident") (ident_json x)
argument_name_json (tree.InstantiationArgumentName.string x) = variant (codes "string") (string_json x)

unfoldable mutual
  pub expr_json : tree.Expr → Data
  expr_json (tree.Expr.expr s first others) =
      object_of
      ((codes "postfix", list_json postfix_expr_json others)
      ∷ (codes "primary", primary_expr_json first)
      ∷ (codes "span", span_json s)
      ∷ [])

  pub primary_expr_json : tree.PrimaryExpr → Data
  primary_expr_json (tree.PrimaryExpr.new s name arguments) =
      variant (codes "new")
      (object_of
      ((codes "arguments", array (arguments_json arguments))
      ∷ (codes "package", package_name_json name)
      ∷ (codes "span", span_json s)
      ∷ []))
  primary_expr_json (tree.PrimaryExpr.nested s inner) =
      variant (codes "nested") (object_of ((codes "inner", expr_json inner) ∷ (codes "span", span_json s) ∷ []))
  primary_expr_json (tree.PrimaryExpr.ident id) = variant (codes "ident") (ident_json id)

  pub argument_json : tree.InstantiationArgument → Data
  argument_json (tree.InstantiationArgument.inferred id) = variant (codes "inferred") (ident_json id)
  argument_json (tree.InstantiationArgument.spread id) = variant (codes "spread") (ident_json id)
  argument_json (tree.InstantiationArgument.named name inner) =
      variant (codes "named")
      (object_of ((codes "expr", expr_json inner) ∷ (codes "name", argument_name_json name) ∷ []))
  argument_json (tree.InstantiationArgument.fill s) = variant (codes "fill") (span_json s)

  pub arguments_json : tree.Arguments → Items
  arguments_json tree.Arguments.none = no_items
  arguments_json (tree.Arguments.more x xs) = item (argument_json x) (arguments_json xs)

-- a named argument, as it stands under the variant's name
unfoldable pub named_argument_json : tree.NamedInstantiationArgument → Data
named_argument_json x = object_of ((codes "expr", expr_json x.expr) ∷ (codes "name", argument_name_json x.name) ∷ [])

-- ---- statements and documents

unfoldable pub import_type_json : tree.ImportType → Data
import_type_json (tree.ImportType.path x) = variant (codes "package") (package_path_json x)
import_type_json (tree.ImportType.func x) = variant (codes "func") (func_type_json x)
import_type_json (tree.ImportType.interface x) = variant (codes "interface") (inline_interface_json x)
import_type_json (tree.ImportType.ident x) = variant (codes "ident") (ident_json x)

unfoldable pub import_statement_json : tree.ImportStatement → Data
import_statement_json x =
    object_of
    ((codes "docs", list_json doc_json x.docs)
    ∷ (codes "id", ident_json x.id)
    ∷ (codes "name", optional extern_name_json x.name)
    ∷ (codes "ty", import_type_json x.ty)
    ∷ [])

unfoldable pub let_statement_json : tree.LetStatement → Data
let_statement_json x =
    object_of
    ((codes "docs", list_json doc_json x.docs)
    ∷ (codes "expr", expr_json x.expr)
    ∷ (codes "id", ident_json x.id)
    ∷ [])

unfoldable pub export_options_json : tree.ExportOptions → Data
export_options_json tree.ExportOptions.none = word (codes "none")
export_options_json (tree.ExportOptions.spread x) = variant (codes "spread") (span_json x)
export_options_json (tree.ExportOptions.rename x) = variant (codes "rename") (extern_name_json x)

unfoldable pub export_statement_json : tree.ExportStatement → Data
export_statement_json x =
    object_of
    ((codes "docs", list_json doc_json x.docs)
    ∷ (codes "expr", expr_json x.expr)
    ∷ (codes "options", export_options_json x.options)
    ∷ [])

unfoldable pub type_statement_json : tree.TypeStatement → Data
type_statement_json (tree.TypeStatement.interface x) = variant (codes "interface") (interface_decl_json x)
type_statement_json (tree.TypeStatement.world x) = variant (codes "world") (world_decl_json x)
type_statement_json (tree.TypeStatement.ty x) = variant (codes "type") (type_decl_json x)

unfoldable pub statement_json : tree.Statement → Data
statement_json (tree.Statement.import_statement x) = variant (codes "Import") (import_statement_json x)
statement_json (tree.Statement.type_statement x) = variant (codes "Type") (type_statement_json x)
statement_json (tree.Statement.let_statement x) = variant (codes "Let") (let_statement_json x)
statement_json (tree.Statement.export_statement x) = variant (codes "Export") (export_statement_json x)

-- the target is left out where there is none
abbrev pub target_member : Option tree.PackagePath → Members
target_member None = no_members
target_member (Some path) = member (codes "targets") (package_path_json path) no_members

unfoldable pub directive_json : tree.PackageDirective → Data
directive_json x = object (member (codes "package") (package_name_json x.package_name) (target_member x.targets))

-- the JSON form of a document
unfoldable pub json_of : tree.Document → Data
json_of x =
    object_of
    ((codes "directive", directive_json x.directive)
    ∷ (codes "docs", list_json doc_json x.docs)
    ∷ (codes "statements", list_json statement_json x.statements)
    ∷ [])

-- the text that stands for a document: its JSON form, compact
abbrev pub json_text : tree.Document → List ℕ
json_text x = compact_text (json_of x)

-- ---- examples

a_span_is_an_object : compact_text (span_json (span 8 3)) ≡ codes "{\"length\":3,\"offset\":8}"
unfolding span_json escape_byte digits
a_span_is_an_object = refl
