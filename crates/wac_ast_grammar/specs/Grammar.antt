-- The grammar, its trees, and which items derive which tree.
use Rattle.std.specs.Prelude.{◌≡◌, ℕ, zero, suc, List, [], ◌∷◌, ◌++◌, ◌⊎◌, Option, Some, None, Bool, true, false}
use Rattle.std.proofs.Common.{inl, inr}
use Rattle.wac_lexer.specs.declared.token.Token.{Token}
use Rattle.wac_lexer.specs.declared.token.Token.TheVariants as t
use Rattle.wac_lexer.specs.Span.{Span}
use Rattle.wac_lexer.specs.Item.{Item, Doc}
use Rattle.wac_ast_grammar.specs.Version.{unversioned, path_name, path_segments, version_of}
use Rattle.wac_ast_grammar.specs.Tokens.{is_token, valid}
use Rattle.wac_ast_grammar.specs.Tree.{join, without_percent, between_quotes, types_from, arguments_from, AccessExpr, Constructor, Document, EnumCase, EnumDecl, ExportOptions, ExportStatement, Expr, ExternName, ExternType, Field, Flag, FlagsDecl, FuncType, FuncTypeRef, Ident, ImportStatement, ImportType, InlineInterface, InstantiationArgument, InstantiationArgumentName, InterfaceDecl, InterfaceExport, InterfaceItem, ItemTypeDecl, LetStatement, Method, NamedAccessExpr, NamedInstantiationArgument, NamedType, NamedWorldItem, OptionalTy, PackageDirective, PackageName, PackagePath, PostfixExpr, PrimaryExpr, RecordDecl, ResourceDecl, ResourceMethod, ResultList, Statement, String, Ty, TypeAlias, TypeAliasKind, TypeDecl, TypeStatement, Use, UseItem, UsePath, VariantCase, VariantDecl, WorldDecl, WorldExport, WorldImport, WorldInclude, WorldIncludeItem, WorldItem, WorldItemPath, WorldRef, Types}

-- The lists whose items stand between commas.
pub data CommaList : Type 0 where
  arguments : CommaList
  cases : CommaList
  fields : CommaList
  flags : CommaList
  enum_cases : CommaList
  params : CommaList
  types : CommaList
  use_items : CommaList
  include_items : CommaList

pub data Sym : Type 0 where
  document : Sym
  directive : Sym
  statements : Sym
  statement : Sym
  import_statement : Sym
  extern_name : Sym
  import_type : Sym
  let_statement : Sym
  export_statement : Sym
  export_options : Sym
  expr : Sym
  primary_expr : Sym
  new_expr : Sym
  argument : Sym
  named_argument : Sym
  argument_name : Sym
  nested_expr : Sym
  postfixes : Sym
  postfix_expr : Sym
  access_expr : Sym
  named_access_expr : Sym
  type_statement : Sym
  type_decl : Sym
  item_type_decl : Sym
  resource_decl : Sym
  methods : Sym
  resource_method : Sym
  constructor : Sym
  method : Sym
  variant_decl : Sym
  variant_case : Sym
  record_decl : Sym
  field : Sym
  flags_decl : Sym
  flag : Sym
  enum_decl : Sym
  enum_case : Sym
  type_alias : Sym
  type_alias_kind : Sym
  func_type_ref : Sym
  func_type : Sym
  result_list : Sym
  named_type : Sym
  ty : Sym
  tuple_type : Sym
  list_type : Sym
  option_type : Sym
  result_type : Sym
  borrow_type : Sym
  stream_type : Sym
  future_type : Sym
  result_part : Sym
  payload : Sym
  interface_decl : Sym
  inline_interface : Sym
  interface_items : Sym
  interface_item : Sym
  interface_export : Sym
  use_statement : Sym
  use_path : Sym
  use_item : Sym
  world_decl : Sym
  world_items : Sym
  world_item : Sym
  world_import : Sym
  world_export : Sym
  world_item_path : Sym
  named_world_item : Sym
  extern_type : Sym
  world_include : Sym
  world_ref : Sym
  include_item : Sym
  identifier : Sym
  string : Sym
  package_name : Sym
  package_path : Sym
  -- of a list, up to the token that closes it: from the place of an item on, and from after an item on
  list_items : CommaList → Sym
  more_items : CommaList → Sym

-- what stands between the commas
abbrev pub item_of : CommaList → Sym
item_of arguments = argument
item_of cases = variant_case
item_of fields = field
item_of flags = flag
item_of enum_cases = enum_case
item_of params = named_type
item_of types = ty
item_of use_items = use_item
item_of include_items = include_item

abbrev pub close_of : CommaList → Token
close_of params = t.CloseParen
close_of types = t.CloseAngle
close_of _ = t.CloseBrace

-- The declarations whose braces may not be empty.
pub data Body : Type 0 where
  variant_body : Body
  record_body : Body
  flags_body : Body
  enum_body : Body

-- What must follow a part that is left out.
pub data After : Type 0 where
  anything : After
  -- no fault
  no_fault : After
  one_among : List Token → After

pub data Grammar : Type 0 where
  token : Token → Grammar
  sym : Sym → Grammar
  then : Grammar → Grammar → Grammar
  -- the first, tried aloud (true) or silently, or the second
  either : Bool → Grammar → Grammar → Grammar
  nothing : After → Grammar
  -- up to the end of the list
  to_end : Grammar → Grammar
  -- with the docs of the first item
  docs : Grammar → Grammar
  -- where the token comes at once the body is empty: an error of its own kind
  not_empty : Body → Token → Grammar → Grammar
  -- after an item of a comma list: where the input ends the closing token and the item are named
  more : Token → Sym → Grammar → Grammar
  -- the first, or the token and the second; where this does not follow the token, the rejection is reported at the token and names the first
  or_told : Grammar → Token → Grammar → Grammar

infixr 20 ◌▸◌
abbrev pub ◌▸◌ : Grammar → Grammar → Grammar
g ▸ h = then g h

infixr 15 ◌¦◌
abbrev pub ◌¦◌ : Grammar → Grammar → Grammar
g ¦ h = either true g h

-- an optional part, which names nothing: parse_optional, where a fault is rejected; and a mere look at the next token
abbrev pub optional : Grammar → Grammar
optional g = either true g (nothing no_fault)

abbrev pub perhaps : Grammar → Grammar
perhaps g = either true g (nothing anything)

-- THE GRAMMAR
abbrev pub rule : Sym → Grammar
rule document = docs (sym directive ▸ sym statements)
rule directive = token t.PackageKeyword ▸ sym package_name ▸ optional (token t.TargetsKeyword ▸ sym package_path) ▸ token t.Semicolon
rule statements = to_end (sym statement ▸ sym statements)
rule statement = sym import_statement ¦ sym let_statement ¦ sym export_statement ¦ sym type_statement
rule import_statement = docs (token t.ImportKeyword ▸ sym identifier ▸ optional (token t.AsKeyword ▸ sym extern_name) ▸ token t.Colon ▸ sym import_type ▸ token t.Semicolon)
rule extern_name = sym identifier ¦ sym string
rule import_type = sym func_type ¦ sym inline_interface ¦ sym package_path ¦ sym identifier
rule let_statement = docs (token t.LetKeyword ▸ sym identifier ▸ token t.Equals ▸ sym expr ▸ token t.Semicolon)
rule export_statement = docs (token t.ExportKeyword ▸ sym expr ▸ sym export_options ▸ token t.Semicolon)
rule export_options = token t.Ellipsis ¦ perhaps (token t.AsKeyword ▸ sym extern_name)
rule expr = sym primary_expr ▸ sym postfixes
rule primary_expr = sym new_expr ¦ sym nested_expr ¦ sym identifier
rule new_expr = token t.NewKeyword ▸ sym package_name ▸ token t.OpenBrace ▸ sym (list_items arguments)
rule argument = token t.Ellipsis ▸ (sym identifier ¦ nothing (one_among (t.Comma ∷ t.CloseBrace ∷ []))) ¦ or_told (sym identifier ▸ perhaps (token t.Colon ▸ sym expr)) t.String (token t.Colon ▸ sym expr)
rule named_argument = sym argument_name ▸ token t.Colon ▸ sym expr
rule argument_name = sym identifier ¦ sym string
rule nested_expr = token t.OpenParen ▸ sym expr ▸ token t.CloseParen
rule postfixes = perhaps (sym postfix_expr ▸ sym postfixes)
rule postfix_expr = sym access_expr ¦ sym named_access_expr
rule access_expr = token t.Dot ▸ sym identifier
rule named_access_expr = token t.OpenBracket ▸ sym string ▸ token t.CloseBracket
rule type_statement = sym interface_decl ¦ sym world_decl ¦ sym type_decl
rule type_decl = sym variant_decl ¦ sym record_decl ¦ sym flags_decl ¦ sym enum_decl ¦ sym type_alias
rule item_type_decl = sym resource_decl ¦ sym variant_decl ¦ sym record_decl ¦ sym flags_decl ¦ sym enum_decl ¦ sym type_alias
rule resource_decl = docs (token t.ResourceKeyword ▸ sym identifier ▸ (token t.Semicolon ¦ token t.OpenBrace ▸ sym methods))
rule methods = token t.CloseBrace ¦ sym resource_method ▸ sym methods
rule resource_method = sym constructor ¦ sym method
rule constructor = docs (token t.ConstructorKeyword ▸ token t.OpenParen ▸ sym (list_items params) ▸ token t.Semicolon)
rule method = docs (sym identifier ▸ token t.Colon ▸ perhaps (token t.StaticKeyword) ▸ sym func_type ▸ token t.Semicolon)
rule variant_decl = docs (token t.VariantKeyword ▸ sym identifier ▸ token t.OpenBrace ▸ not_empty variant_body t.CloseBrace (sym variant_case ▸ sym (more_items cases)))
rule variant_case = docs (sym identifier ▸ optional (token t.OpenParen ▸ sym ty ▸ token t.CloseParen))
rule record_decl = docs (token t.RecordKeyword ▸ sym identifier ▸ token t.OpenBrace ▸ not_empty record_body t.CloseBrace (sym field ▸ sym (more_items fields)))
rule field = docs (sym named_type)
rule flags_decl = docs (token t.FlagsKeyword ▸ sym identifier ▸ token t.OpenBrace ▸ not_empty flags_body t.CloseBrace (sym flag ▸ sym (more_items flags)))
rule flag = docs (sym identifier)
rule enum_decl = docs (token t.EnumKeyword ▸ sym identifier ▸ token t.OpenBrace ▸ not_empty enum_body t.CloseBrace (sym enum_case ▸ sym (more_items enum_cases)))
rule enum_case = docs (sym identifier)
rule type_alias = docs (token t.TypeKeyword ▸ sym identifier ▸ token t.Equals ▸ sym type_alias_kind ▸ token t.Semicolon)
rule type_alias_kind = sym func_type ¦ sym ty
rule func_type_ref = sym func_type ¦ sym identifier
rule func_type = optional (token t.AsyncKeyword) ▸ token t.FuncKeyword ▸ token t.OpenParen ▸ sym (list_items params) ▸ optional (token t.Arrow ▸ sym result_list)
rule result_list = token t.OpenParen ▸ sym named_type ▸ sym (more_items params) ¦ perhaps (sym ty)
rule named_type = sym identifier ▸ token t.Colon ▸ sym ty
rule ty = token t.U8Keyword ¦ token t.S8Keyword ¦ token t.U16Keyword ¦ token t.S16Keyword ¦ token t.U32Keyword ¦ token t.S32Keyword ¦ token t.U64Keyword ¦ token t.S64Keyword ¦ token t.F32Keyword ¦ token t.F64Keyword ¦ token t.CharKeyword ¦ token t.BoolKeyword ¦ token t.StringKeyword ¦ sym tuple_type ¦ sym list_type ¦ sym option_type ¦ sym result_type ¦ sym borrow_type ¦ sym stream_type ¦ sym future_type ¦ token t.ErrorContextKeyword ¦ sym identifier
rule tuple_type = token t.TupleKeyword ▸ token t.OpenAngle ▸ sym ty ▸ sym (more_items types)
rule list_type = token t.ListKeyword ▸ token t.OpenAngle ▸ sym ty ▸ token t.CloseAngle
rule option_type = token t.OptionKeyword ▸ token t.OpenAngle ▸ sym ty ▸ token t.CloseAngle
rule result_type = token t.ResultKeyword ▸ optional (token t.OpenAngle ▸ sym result_part ▸ optional (token t.Comma ▸ sym result_part) ▸ token t.CloseAngle)
rule borrow_type = token t.BorrowKeyword ▸ token t.OpenAngle ▸ sym identifier ▸ token t.CloseAngle
rule stream_type = token t.StreamKeyword ▸ sym payload
rule future_type = token t.FutureKeyword ▸ sym payload
rule result_part = token t.Underscore ¦ sym ty
rule payload = optional (token t.OpenAngle ▸ sym ty ▸ token t.CloseAngle)
rule interface_decl = docs (token t.InterfaceKeyword ▸ sym identifier ▸ token t.OpenBrace ▸ sym interface_items)
rule inline_interface = token t.InterfaceKeyword ▸ token t.OpenBrace ▸ sym interface_items
rule interface_items = token t.CloseBrace ¦ sym interface_item ▸ sym interface_items
rule interface_item = sym use_statement ¦ sym interface_export ¦ sym item_type_decl
rule interface_export = docs (sym identifier ▸ token t.Colon ▸ sym func_type_ref ▸ token t.Semicolon)
rule use_statement = docs (token t.UseKeyword ▸ sym use_path ▸ token t.Dot ▸ token t.OpenBrace ▸ sym (list_items use_items) ▸ token t.Semicolon)
rule use_path = sym package_path ¦ sym identifier
rule use_item = sym identifier ▸ optional (token t.AsKeyword ▸ sym identifier)
rule world_decl = docs (token t.WorldKeyword ▸ sym identifier ▸ token t.OpenBrace ▸ sym world_items)
rule world_items = token t.CloseBrace ¦ sym world_item ▸ sym world_items
rule world_item = sym use_statement ¦ sym world_import ¦ sym world_export ¦ sym world_include ¦ sym item_type_decl
rule world_import = docs (token t.ImportKeyword ▸ sym world_item_path ▸ token t.Semicolon)
rule world_export = docs (token t.ExportKeyword ▸ sym world_item_path ▸ token t.Semicolon)
rule world_item_path = sym package_path ¦ sym identifier ▸ perhaps (token t.Colon ▸ sym extern_type)
rule named_world_item = sym identifier ▸ token t.Colon ▸ sym extern_type
rule extern_type = sym identifier ¦ sym func_type ¦ sym inline_interface
rule world_include = docs (token t.IncludeKeyword ▸ sym world_ref ▸ optional (token t.WithKeyword ▸ token t.OpenBrace ▸ sym (list_items include_items)) ▸ token t.Semicolon)
rule world_ref = sym package_path ¦ sym identifier
rule include_item = sym identifier ▸ token t.AsKeyword ▸ sym identifier
rule identifier = token t.Ident
rule string = token t.String
rule package_name = token t.PackageName
rule package_path = token t.PackagePath
rule (list_items l) = token (close_of l) ¦ sym (item_of l) ▸ sym (more_items l)
rule (more_items l) = more (close_of l) (item_of l) (either false (token (close_of l)) (token t.Comma ▸ sym (list_items l)))

-- a list's items, and the token that closes it
abbrev pub Listed : Type 0 → Type 0
Listed A = List A × Item

-- what each symbol's tree is, lists between commas aside
abbrev pub OwnTree : Sym → Type 0
OwnTree document = Document
OwnTree directive = PackageDirective
OwnTree statements = List Statement
OwnTree statement = Statement
OwnTree import_statement = ImportStatement
OwnTree extern_name = ExternName
OwnTree import_type = ImportType
OwnTree let_statement = LetStatement
OwnTree export_statement = ExportStatement
OwnTree export_options = ExportOptions
OwnTree expr = Expr
OwnTree primary_expr = PrimaryExpr
OwnTree new_expr = PrimaryExpr
OwnTree argument = InstantiationArgument
OwnTree named_argument = NamedInstantiationArgument
OwnTree argument_name = InstantiationArgumentName
OwnTree nested_expr = PrimaryExpr
OwnTree postfixes = List PostfixExpr
OwnTree postfix_expr = PostfixExpr
OwnTree access_expr = AccessExpr
OwnTree named_access_expr = NamedAccessExpr
OwnTree type_statement = TypeStatement
OwnTree type_decl = TypeDecl
OwnTree item_type_decl = ItemTypeDecl
OwnTree resource_decl = ResourceDecl
OwnTree methods = Listed ResourceMethod
OwnTree resource_method = ResourceMethod
OwnTree constructor = Constructor
OwnTree method = Method
OwnTree variant_decl = VariantDecl
OwnTree variant_case = VariantCase
OwnTree record_decl = RecordDecl
OwnTree field = Field
OwnTree flags_decl = FlagsDecl
OwnTree flag = Flag
OwnTree enum_decl = EnumDecl
OwnTree enum_case = EnumCase
OwnTree type_alias = TypeAlias
OwnTree type_alias_kind = TypeAliasKind
OwnTree func_type_ref = FuncTypeRef
OwnTree func_type = FuncType
OwnTree result_list = ResultList
OwnTree named_type = NamedType
OwnTree ty = Ty
OwnTree tuple_type = Ty
OwnTree list_type = Ty
OwnTree option_type = Ty
OwnTree result_type = Ty
OwnTree borrow_type = Ty
OwnTree stream_type = Ty
OwnTree future_type = Ty
OwnTree result_part = OptionalTy
OwnTree payload = Option (Ty × Item)
OwnTree interface_decl = InterfaceDecl
OwnTree inline_interface = InlineInterface
OwnTree interface_items = Listed InterfaceItem
OwnTree interface_item = InterfaceItem
OwnTree interface_export = InterfaceExport
OwnTree use_statement = Use
OwnTree use_path = UsePath
OwnTree use_item = UseItem
OwnTree world_decl = WorldDecl
OwnTree world_items = Listed WorldItem
OwnTree world_item = WorldItem
OwnTree world_import = WorldImport
OwnTree world_export = WorldExport
OwnTree world_item_path = WorldItemPath
OwnTree named_world_item = NamedWorldItem
OwnTree extern_type = ExternType
OwnTree world_include = WorldInclude
OwnTree world_ref = WorldRef
OwnTree include_item = WorldIncludeItem
OwnTree identifier = Ident
OwnTree string = String
OwnTree package_name = PackageName
OwnTree package_path = PackagePath
OwnTree _ = Unit {0}

-- what each symbol's tree is
abbrev pub TreeOf : Sym → Type 0
TreeOf (list_items l) = Listed (OwnTree (item_of l))
TreeOf (more_items l) = Listed (OwnTree (item_of l))
TreeOf s = OwnTree s

-- the parts that a grammar has
abbrev pub Parts : Grammar → Type 0
Parts (token k) = Item
Parts (sym s) = TreeOf s
Parts (then g h) = Parts g × Parts h
Parts (either loud g h) = Parts g ⊎ Parts h
Parts (nothing b) = Unit {0}
Parts (to_end g) = Unit {0} ⊎ Parts g
Parts (docs g) = List Doc × Parts g
Parts (not_empty e k g) = Parts g
Parts (more k s g) = Parts g
Parts (or_told g k h) = Parts g ⊎ (Item × Parts h)

abbrev pub primary_span : PrimaryExpr → Span
primary_span (PrimaryExpr.new s name xs) = s
primary_span (PrimaryExpr.nested s inner) = s
primary_span (PrimaryExpr.ident id) = id.span

abbrev pub postfix_span : PostfixExpr → Span
postfix_span (PostfixExpr.access x) = x.span
postfix_span (PostfixExpr.named_access x) = x.span

-- the span of the last postfix, or where there is none the span before
abbrev pub last_span : Span → List PostfixExpr → Span
last_span s [] = s
last_span s (x ∷ others) = last_span (postfix_span x) others

-- the closing token at once, or an item and the others
abbrev pub listed : {A : Type 0} → Item ⊎ (A × Listed A) → Listed A
listed (inl last) = ([], last)
listed (inr (x, others)) = (x ∷ others.0, others.1)

-- after an item: the closing token, or a comma and the others
abbrev pub listed_more : {A : Type 0} → Item ⊎ (Item × Listed A) → Listed A
listed_more (inl last) = ([], last)
listed_more (inr (_, others)) = others

abbrev pub is_there : {A B : Type 0} → A ⊎ B → Bool
is_there (inl _) = true
is_there (inr _) = false

abbrev pub results_of : (Item × ResultList) ⊎ Unit {0} → ResultList
results_of (inl (_, results)) = results
results_of (inr _) = ResultList.empty

abbrev pub string_of : Item → String
string_of x = record { value = between_quotes x.text; span = x.span }

-- what the first makes of a choice's first part, or the second of its second
infixr 15 ◌or◌
abbrev pub ◌or◌ : {A B C : Type 0} → (A → C) → (B → C) → A ⊎ B → C
(f or g) (inl x) = f x
(f or g) (inr y) = g y

-- a tree that is a choice's own
abbrev pub itself : {A : Type 0} → A → A
itself x = x

-- a type that is one word
abbrev pub word : (Span → Ty) → Item → Ty
word made x = made x.span

-- THE TREE of each symbol's parts
abbrev pub build : (s : Sym) → Parts (rule s) → TreeOf s
build document (ds, (d, xs)) = record { docs = ds; directive = d; statements = xs }
build directive (_, (name, (inl (_, path), _))) = record { package_name = name; targets = Some path }
build directive (_, (name, (inr _, _))) = record { package_name = name; targets = None }
build statements (inl _) = []
build statements (inr (x, xs)) = x ∷ xs
build statement p =
    (Statement.import_statement or Statement.let_statement or Statement.export_statement
    or Statement.type_statement) p
build import_statement (ds, (_, (id, (inl (_, name), (_, (kind, _)))))) = record { docs = ds; id = id; name = Some name; ty = kind }
build import_statement (ds, (_, (id, (inr _, (_, (kind, _)))))) = record { docs = ds; id = id; name = None; ty = kind }
build extern_name p = (ExternName.ident or ExternName.string) p
build import_type p = (ImportType.func or ImportType.interface or ImportType.path or ImportType.ident) p
build let_statement (ds, (_, (id, (_, (value, _))))) = record { docs = ds; id = id; expr = value }
build export_statement (ds, (_, (value, (options, _)))) = record { docs = ds; expr = value; options = options }
build export_options (inl dots) = ExportOptions.spread dots.span
build export_options (inr (inl (_, name))) = ExportOptions.rename name
build export_options (inr (inr _)) = ExportOptions.none
build expr (first, others) = Expr.expr (join (primary_span first) (last_span (primary_span first) others)) first others
build primary_expr p = (itself or itself or PrimaryExpr.ident) p
build new_expr (first, (name, (_, (xs, last)))) = PrimaryExpr.new (join first.span last.span) name (arguments_from xs)
build argument (inl (dots, inl id)) = InstantiationArgument.spread id
build argument (inl (dots, inr _)) = InstantiationArgument.fill dots.span
build argument (inr (inl (id, inl (_, value)))) = InstantiationArgument.named (InstantiationArgumentName.ident id) value
build argument (inr (inl (id, inr _))) = InstantiationArgument.inferred id
build argument (inr (inr (x, (_, value)))) = InstantiationArgument.named (InstantiationArgumentName.string (string_of x)) value
build named_argument (name, (_, value)) = record { name = name; expr = value }
build argument_name p = (InstantiationArgumentName.ident or InstantiationArgumentName.string) p
build nested_expr (first, (inner, last)) = PrimaryExpr.nested (join first.span last.span) inner
build postfixes (inl (x, xs)) = x ∷ xs
build postfixes (inr _) = []
build postfix_expr p = (PostfixExpr.access or PostfixExpr.named_access) p
build access_expr (dot, id) = record { span = join dot.span id.span; id = id }
build named_access_expr (first, (value, last)) = record { span = join first.span last.span; string = value }
build type_statement p = (TypeStatement.interface or TypeStatement.world or TypeStatement.ty) p
build type_decl p = (TypeDecl.variant or TypeDecl.record_decl or TypeDecl.flags or TypeDecl.enum or TypeDecl.alias) p
build item_type_decl p =
    (ItemTypeDecl.resource or ItemTypeDecl.variant or ItemTypeDecl.record_decl or ItemTypeDecl.flags
    or ItemTypeDecl.enum or ItemTypeDecl.alias) p
build resource_decl (ds, (_, (id, inl _))) = record { docs = ds; id = id; methods = [] }
build resource_decl (ds, (_, (id, inr (_, xs)))) = record { docs = ds; id = id; methods = xs.0 }
build methods p = listed p
build resource_method p = (ResourceMethod.constructor or ResourceMethod.method) p
build constructor (ds, (first, (_, (xs, _)))) = record { docs = ds; span = first.span; params = xs.0 }
build method (ds, (id, (_, (inl _, (func, _))))) = record { docs = ds; id = id; is_static = true; ty = func }
build method (ds, (id, (_, (inr _, (func, _))))) = record { docs = ds; id = id; is_static = false; ty = func }
build variant_decl (ds, (_, (id, (_, (x, others))))) = record { docs = ds; id = id; cases = x ∷ others.0 }
build variant_case (ds, (id, inl (_, (value, _)))) = record { docs = ds; id = id; ty = Some value }
build variant_case (ds, (id, inr _)) = record { docs = ds; id = id; ty = None }
build record_decl (ds, (_, (id, (_, (x, others))))) = record { docs = ds; id = id; fields = x ∷ others.0 }
build field (ds, x) = record { docs = ds; id = x.id; ty = x.ty }
build flags_decl (ds, (_, (id, (_, (x, others))))) = record { docs = ds; id = id; flags = x ∷ others.0 }
build flag (ds, id) = record { docs = ds; id = id }
build enum_decl (ds, (_, (id, (_, (x, others))))) = record { docs = ds; id = id; cases = x ∷ others.0 }
build enum_case (ds, id) = record { docs = ds; id = id }
build type_alias (ds, (_, (id, (_, (value, _))))) = record { docs = ds; id = id; kind = value }
build type_alias_kind p = (TypeAliasKind.func or TypeAliasKind.ty) p
build func_type_ref p = (FuncTypeRef.func or FuncTypeRef.ident) p
build func_type (first, (_, (_, (xs, results)))) = record { is_async = is_there first; params = xs.0; results = results_of results }
build result_list (inl (_, (x, others))) = ResultList.named (x ∷ others.0)
build result_list (inr (inl x)) = ResultList.scalar x
build result_list (inr (inr _)) = ResultList.empty
build named_type (id, (_, value)) = record { id = id; ty = value }
build ty p =
    (word Ty.u8 or word Ty.s8 or word Ty.u16 or word Ty.s16 or word Ty.u32 or word Ty.s32 or word Ty.u64 or word Ty.s64
    or word Ty.f32 or word Ty.f64 or word Ty.char or word Ty.bool or word Ty.string
    or itself or itself or itself or itself or itself or itself or itself
    or word Ty.error_context or Ty.ident) p
build tuple_type (first, (_, (x, (xs, last)))) = Ty.tuple (Types.more x (types_from xs)) (join first.span last.span)
build list_type (first, (_, (x, last))) = Ty.list x (join first.span last.span)
build option_type (first, (_, (x, last))) = Ty.option x (join first.span last.span)
build result_type (first, inl (_, (ok, (inl (_, err), last)))) = Ty.result ok err (join first.span last.span)
build result_type (first, inl (_, (ok, (inr _, last)))) = Ty.result ok OptionalTy.absent (join first.span last.span)
build result_type (first, inr _) = Ty.result OptionalTy.absent OptionalTy.absent first.span
build borrow_type (first, (_, (id, last))) = Ty.borrow id (join first.span last.span)
build stream_type (first, Some (x, last)) = Ty.stream (OptionalTy.present x) (join first.span last.span)
build stream_type (first, None) = Ty.stream OptionalTy.absent first.span
build future_type (first, Some (x, last)) = Ty.future (OptionalTy.present x) (join first.span last.span)
build future_type (first, None) = Ty.future OptionalTy.absent first.span
build result_part (inl _) = OptionalTy.absent
build result_part (inr x) = OptionalTy.present x
build payload (inl (_, (x, last))) = Some (x, last)
build payload (inr _) = None
build interface_decl (ds, (_, (id, (_, xs)))) = record { docs = ds; id = id; items = xs.0 }
build inline_interface (_, (_, xs)) = record { items = xs.0 }
build interface_items p = listed p
build interface_item p = (InterfaceItem.use_statement or InterfaceItem.interface_export or InterfaceItem.ty) p
build interface_export (ds, (id, (_, (value, _)))) = record { docs = ds; id = id; ty = value }
build use_statement (ds, (_, (path, (_, (_, (xs, _)))))) = record { docs = ds; path = path; items = xs.0 }
build use_path p = (UsePath.path or UsePath.ident) p
build use_item (id, inl (_, name)) = record { id = id; as_id = Some name }
build use_item (id, inr _) = record { id = id; as_id = None }
build world_decl (ds, (_, (id, (_, xs)))) = record { docs = ds; id = id; items = xs.0 }
build world_items p = listed p
build world_item p =
    (WorldItem.use_statement or WorldItem.world_import or WorldItem.world_export or WorldItem.world_include
    or WorldItem.ty) p
build world_import (ds, (_, (path, _))) = record { docs = ds; path = path }
build world_export (ds, (_, (path, _))) = record { docs = ds; path = path }
build world_item_path (inl x) = WorldItemPath.path x
build world_item_path (inr (id, inl (_, value))) = WorldItemPath.named (record { id = id; ty = value })
build world_item_path (inr (id, inr _)) = WorldItemPath.ident id
build named_world_item (id, (_, value)) = record { id = id; ty = value }
build extern_type p = (ExternType.ident or ExternType.func or ExternType.interface) p
build world_include (ds, (_, (world, (inl (_, (_, xs)), _)))) = record { docs = ds; world = world; items = xs.0 }
build world_include (ds, (_, (world, (inr _, _)))) = record { docs = ds; world = world; items = [] }
build world_ref p = (WorldRef.path or WorldRef.ident) p
build include_item (id, (_, name)) = record { from = id; to = name }
build identifier x = record { string = without_percent x.text; span = x.span }
build string x = string_of x
build package_name x = record { string = x.text; name = unversioned x.text; version = version_of x.text; span = x.span }
build package_path x = record { span = x.span; string = x.text; name = path_name x.text; segments = path_segments x.text; version = version_of x.text }
-- (`arguments` by itself makes each list a case, in which the trees of its items are known)
build (list_items arguments) p = listed p
build (list_items _) p = listed p
build (more_items l) p = listed_more p

abbrev pub docs_of : List Item → List Doc
docs_of [] = []
docs_of (x ∷ xs) = x.docs

-- The list is the parts' list, where a symbol's list has its tree by `rec`.
abbrev pub DerivesIn : ((s : Sym) → List Item → TreeOf s → Type 0) → (g : Grammar) → List Item → Parts g → Type 0
DerivesIn rec (token k) xs x = (xs ≡ x ∷ []) × (is_token k x.token ≡ true) × (valid k x.text ≡ true)
DerivesIn rec (sym s) xs t = rec s xs t
DerivesIn rec (then g h) xs p = (front : List Item) × (back : List Item) × (xs ≡ front ++ back) × DerivesIn rec g front p.0 × DerivesIn rec h back p.1
DerivesIn rec (either loud g h) xs (inl p) = DerivesIn rec g xs p
DerivesIn rec (either loud g h) xs (inr p) = DerivesIn rec h xs p
DerivesIn rec (nothing b) xs p = xs ≡ []
DerivesIn rec (to_end g) xs (inl _) = xs ≡ []
DerivesIn rec (to_end g) xs (inr p) = DerivesIn rec g xs p
DerivesIn rec (docs g) xs p = (p.0 ≡ docs_of xs) × DerivesIn rec g xs p.1
DerivesIn rec (not_empty e k g) xs p = DerivesIn rec g xs p
DerivesIn rec (more k s g) xs p = DerivesIn rec g xs p
DerivesIn rec (or_told g k h) xs (inl p) = DerivesIn rec g xs p
DerivesIn rec (or_told g k h) xs (inr p) = (back : List Item) × (xs ≡ p.0 ∷ back) × (is_token k p.0.token ≡ true) × (valid k p.0.text ≡ true) × DerivesIn rec h back p.1

-- a tree of the list, at most n symbols deep
abbrev pub DerivesBy : ℕ → (s : Sym) → List Item → TreeOf s → Type 0
DerivesBy zero s xs t = ⊥
DerivesBy (suc n) s xs t = (p : Parts (rule s)) × DerivesIn (DerivesBy n) (rule s) xs p × (build s p ≡ t)

abbrev pub Derives : (s : Sym) → List Item → TreeOf s → Type 0
Derives s xs t = (n : ℕ) × DerivesBy n s xs t
