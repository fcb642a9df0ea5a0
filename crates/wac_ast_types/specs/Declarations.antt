-- The trees of function types, and of declarations of types.
use Rattle.std.specs.Prelude.{List, ◌∷◌, map, Vec}
use Rattle.std.specs.Option.{option_map}
use Rattle.std.proofs.Common.{Global}
use Rattle.wac_lexer.specs.Item.{Doc, Item}
use Rattle.wac_lexer.specs.declared.token.Token.{Token}
use Rattle.wac_ast_base.specs.declared.names.Ident.{Ident as CodeIdent}
use Rattle.wac_ast_base.specs.declared.names.DocComment.{DocComment}
use Rattle.wac_ast_grammar.specs.Tree as tree
use Rattle.wac_ast_types.specs.declared.flags_decl.Flag.{Flag as CodeFlag}
use Rattle.wac_ast_types.specs.declared.flags_decl.FlagsDecl.{FlagsDecl as CodeFlagsDecl}
use Rattle.wac_ast_types.specs.declared.enum_decl.EnumCase.{EnumCase as CodeEnumCase}
use Rattle.wac_ast_types.specs.declared.enum_decl.EnumDecl.{EnumDecl as CodeEnumDecl}
use Rattle.wac_ast_base.specs.Names.{ident_of, doc_comment_of}
use Rattle.wac_ast_types.specs.Types.{ty_of}
use Rattle.wac_lexer.specs.declared.token.Token.TheVariants as tokens
use Rattle.wac_ast_grammar.specs.Grammar.{Grammar, Parts, token, sym, docs, identifier, optional, ◌▸◌, result_list, named_type, params, more_items}
use Rattle.wac_ast_types.specs.declared.func_type.NamedType.{NamedType}
use Rattle.wac_ast_types.specs.declared.func_type.ResultList.{ResultList}
use Rattle.wac_ast_types.specs.declared.func_type.ResultList.TheVariants as results
use Rattle.wac_ast_types.specs.declared.func_type.FuncType.{FuncType}
use Rattle.wac_ast_types.specs.declared.func_type.FuncTypeRef.{FuncTypeRef}
use Rattle.wac_ast_types.specs.declared.func_type.FuncTypeRef.TheVariants as references
use Rattle.wac_ast_types.specs.declared.type_alias.TypeAlias.{TypeAlias}
use Rattle.wac_ast_types.specs.declared.type_alias.TypeAliasKind.{TypeAliasKind}
use Rattle.wac_ast_types.specs.declared.type_alias.TypeAliasKind.TheVariants as kinds
use Rattle.wac_ast_types.specs.declared.variant_decl.VariantDecl.{VariantDecl}
use Rattle.wac_ast_types.specs.declared.variant_decl.VariantCase.{VariantCase}
use Rattle.wac_ast_types.specs.declared.record_decl.RecordDecl.{RecordDecl}
use Rattle.wac_ast_types.specs.declared.record_decl.Field.{Field}
use Rattle.wac_ast_types.specs.declared.resource.Constructor.{Constructor}
use Rattle.wac_ast_types.specs.declared.resource.Method.{Method}
use Rattle.wac_ast_types.specs.declared.resource.ResourceDecl.{ResourceDecl}
use Rattle.wac_ast_types.specs.declared.resource.ResourceMethod.{ResourceMethod}
use Rattle.wac_ast_types.specs.declared.resource.ResourceMethod.TheVariants as resource_methods
use Rattle.wac_ast_types.specs.declared.type_decl.ItemTypeDecl.{ItemTypeDecl}
use Rattle.wac_ast_types.specs.declared.type_decl.ItemTypeDecl.TheVariants as item_type_decls
use Rattle.wac_ast_types.specs.declared.type_decl.TypeDecl.{TypeDecl}
use Rattle.wac_ast_types.specs.declared.type_decl.TypeDecl.TheVariants as type_decls

-- what declarations begin with: docs, a keyword, and the name that is declared
abbrev pub head : Token → Grammar
head keyword = docs (token keyword ▸ sym identifier)

-- the docs and the name
abbrev pub head_parts : List Doc × (Item × tree.Ident) → List Doc × tree.Ident
head_parts p = (p.0, p.1.1)

abbrev pub head_of : Vec DocComment Global × CodeIdent → List Doc × tree.Ident
head_of x = (map doc_comment_of x.0.items, ident_of x.1)

abbrev pub flag_of : CodeFlag → tree.Flag
flag_of x = record { docs = map doc_comment_of x.docs.items; id = ident_of x.id }

abbrev pub flags_decl_of : CodeFlagsDecl → tree.FlagsDecl
flags_decl_of x = record { docs = map doc_comment_of x.docs.items; id = ident_of x.id; flags = map flag_of x.flags.items }

abbrev pub enum_case_of : CodeEnumCase → tree.EnumCase
enum_case_of x = record { docs = map doc_comment_of x.docs.items; id = ident_of x.id }

abbrev pub enum_decl_of : CodeEnumDecl → tree.EnumDecl
enum_decl_of x = record { docs = map doc_comment_of x.docs.items; id = ident_of x.id; cases = map enum_case_of x.cases.items }

abbrev pub named_type_of : NamedType → tree.NamedType
named_type_of x = record { id = ident_of x.id; ty = ty_of x.ty }

abbrev pub result_list_of : ResultList → tree.ResultList
result_list_of results.Empty = tree.ResultList.empty
result_list_of (results.Scalar x) = tree.ResultList.scalar (ty_of x)
result_list_of (results.Named xs) = tree.ResultList.named (map named_type_of xs.items)

abbrev pub func_type_of : FuncType → tree.FuncType
func_type_of x = record { is_async = x.is_async; params = map named_type_of x.params.items; results = result_list_of x.results }

abbrev pub func_type_ref_of : FuncTypeRef → tree.FuncTypeRef
func_type_ref_of (references.Func x) = tree.FuncTypeRef.func (func_type_of x)
func_type_ref_of (references.Ident x) = tree.FuncTypeRef.ident (ident_of x)

abbrev pub type_alias_kind_of : TypeAliasKind → tree.TypeAliasKind
type_alias_kind_of (kinds.Func x) = tree.TypeAliasKind.func (func_type_of x)
type_alias_kind_of (kinds.Ty x) = tree.TypeAliasKind.ty (ty_of x)

abbrev pub type_alias_of : TypeAlias → tree.TypeAlias
type_alias_of x = record { docs = map doc_comment_of x.docs.items; id = ident_of x.id; kind = type_alias_kind_of x.kind }

abbrev pub variant_case_of : VariantCase → tree.VariantCase
variant_case_of x = record { docs = map doc_comment_of x.docs.items; id = ident_of x.id; ty = option_map ty_of x.ty }

abbrev pub variant_decl_of : VariantDecl → tree.VariantDecl
variant_decl_of x = record { docs = map doc_comment_of x.docs.items; id = ident_of x.id; cases = map variant_case_of x.cases.items }

abbrev pub field_of : Field → tree.Field
field_of x = record { docs = map doc_comment_of x.docs.items; id = ident_of x.id; ty = ty_of x.ty }

abbrev pub record_decl_of : RecordDecl → tree.RecordDecl
record_decl_of x = record { docs = map doc_comment_of x.docs.items; id = ident_of x.id; fields = map field_of x.fields.items }

-- what a function returns, after an arrow
abbrev pub results_rule : Grammar
results_rule = optional (token tokens.Arrow ▸ sym result_list)

-- results with names
abbrev pub named_rule : Grammar
named_rule = token tokens.OpenParen ▸ sym named_type ▸ sym (more_items params)

abbrev pub named_results : Parts named_rule → List tree.NamedType
named_results p = p.1.0 ∷ p.1.1.0

-- ---- resources

abbrev pub constructor_of : Constructor → tree.Constructor
constructor_of x = record { docs = map doc_comment_of x.docs.items; span = x.span; params = map named_type_of x.params.items }

abbrev pub method_of : Method → tree.Method
method_of x = record { docs = map doc_comment_of x.docs.items; id = ident_of x.id; is_static = x.is_static; ty = func_type_of x.ty }

abbrev pub resource_method_of : ResourceMethod → tree.ResourceMethod
resource_method_of (resource_methods.Constructor x) = tree.ResourceMethod.constructor (constructor_of x)
resource_method_of (resource_methods.Method x) = tree.ResourceMethod.method (method_of x)

abbrev pub resource_decl_of : ResourceDecl → tree.ResourceDecl
resource_decl_of x = record { docs = map doc_comment_of x.docs.items; id = ident_of x.id; methods = map resource_method_of x.methods.items }

-- ---- declarations of types

abbrev pub type_decl_of : TypeDecl → tree.TypeDecl
type_decl_of (type_decls.Variant x) = tree.TypeDecl.variant (variant_decl_of x)
type_decl_of (type_decls.Record x) = tree.TypeDecl.record_decl (record_decl_of x)
type_decl_of (type_decls.Flags x) = tree.TypeDecl.flags (flags_decl_of x)
type_decl_of (type_decls.Enum x) = tree.TypeDecl.enum (enum_decl_of x)
type_decl_of (type_decls.Alias x) = tree.TypeDecl.alias (type_alias_of x)

-- the name that is declared
abbrev pub type_decl_id : tree.TypeDecl → tree.Ident
type_decl_id (tree.TypeDecl.variant x) = x.id
type_decl_id (tree.TypeDecl.record_decl x) = x.id
type_decl_id (tree.TypeDecl.flags x) = x.id
type_decl_id (tree.TypeDecl.enum x) = x.id
type_decl_id (tree.TypeDecl.alias x) = x.id

abbrev pub item_type_decl_of : ItemTypeDecl → tree.ItemTypeDecl
item_type_decl_of (item_type_decls.Resource x) = tree.ItemTypeDecl.resource (resource_decl_of x)
item_type_decl_of (item_type_decls.Variant x) = tree.ItemTypeDecl.variant (variant_decl_of x)
item_type_decl_of (item_type_decls.Record x) = tree.ItemTypeDecl.record_decl (record_decl_of x)
item_type_decl_of (item_type_decls.Flags x) = tree.ItemTypeDecl.flags (flags_decl_of x)
item_type_decl_of (item_type_decls.Enum x) = tree.ItemTypeDecl.enum (enum_decl_of x)
item_type_decl_of (item_type_decls.Alias x) = tree.ItemTypeDecl.alias (type_alias_of x)

abbrev pub item_type_decl_id : tree.ItemTypeDecl → tree.Ident
item_type_decl_id (tree.ItemTypeDecl.resource x) = x.id
item_type_decl_id (tree.ItemTypeDecl.variant x) = x.id
item_type_decl_id (tree.ItemTypeDecl.record_decl x) = x.id
item_type_decl_id (tree.ItemTypeDecl.flags x) = x.id
item_type_decl_id (tree.ItemTypeDecl.enum x) = x.id
item_type_decl_id (tree.ItemTypeDecl.alias x) = x.id
