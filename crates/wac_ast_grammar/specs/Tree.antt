-- Trees, without where they lie in memory. A value of a type of the code has a tree of the type of the same name.
use Rattle.std.specs.Prelude.{ℕ, ◌-◌, ◌==◌, List, [], ◌∷◌, Option, Bool, if◌then◌else◌}
use Rattle.wac_lexer.specs.Ascii.{percent_sign, quotation_mark}
use Rattle.semver.specs.Parse.{Parts}
use Rattle.wac_lexer.specs.Span.{Span, span, end_of}
use Rattle.wac_lexer.specs.Item.{Doc}

-- from the first byte of a span to the last of another
abbrev pub join : Span → Span → Span
join a b = span a.offset (end_of b - a.offset)

-- ---- names

-- the text without a leading '%', the span with it
pub record Ident : Type 0 where
  pub string : List ℕ
  pub span : Span

-- a text without a leading '%'
abbrev pub without_percent : List ℕ → List ℕ
without_percent [] = []
without_percent (b ∷ text) = if b == percent_sign then text else b ∷ text

-- the text without the quotes, the span with them
pub record String : Type 0 where
  pub value : List ℕ
  pub span : Span

-- the text without a quote at its start
abbrev pub without_front_quote : List ℕ → List ℕ
without_front_quote [] = []
without_front_quote (b ∷ text) = if b == quotation_mark then text else b ∷ text

-- the text without a quote at its end
abbrev pub without_last_quote : List ℕ → List ℕ
without_last_quote [] = []
without_last_quote (b ∷ []) = if b == quotation_mark then [] else b ∷ []
without_last_quote (b ∷ c ∷ text) = b ∷ without_last_quote (c ∷ text)

abbrev pub between_quotes : List ℕ → List ℕ
between_quotes text = without_last_quote (without_front_quote text)

-- the whole text, the text before '@', and the version after it
pub record PackageName : Type 0 where
  pub string : List ℕ
  pub name : List ℕ
  pub version : Option Parts
  pub span : Span

-- the name before the first '/', the segments between it and '@'
pub record PackagePath : Type 0 where
  pub span : Span
  pub string : List ℕ
  pub name : List ℕ
  pub segments : List ℕ
  pub version : Option Parts

pub data ExternName : Type 0 where
  ident : Ident → ExternName
  string : String → ExternName

-- ---- types

-- A list of types has a type of its own here, and so has an optional type, since types are recursive.
mutual
  pub data Ty : Type 0 where
    u8 : Span → Ty
    s8 : Span → Ty
    u16 : Span → Ty
    s16 : Span → Ty
    u32 : Span → Ty
    s32 : Span → Ty
    u64 : Span → Ty
    s64 : Span → Ty
    f32 : Span → Ty
    f64 : Span → Ty
    char : Span → Ty
    bool : Span → Ty
    string : Span → Ty
    tuple : Types → Span → Ty
    list : Ty → Span → Ty
    option : Ty → Span → Ty
    -- what is given on success, and what on failure
    result : OptionalTy → OptionalTy → Span → Ty
    borrow : Ident → Span → Ty
    stream : OptionalTy → Span → Ty
    future : OptionalTy → Span → Ty
    error_context : Span → Ty
    ident : Ident → Ty

  pub data OptionalTy : Type 0 where
    absent : OptionalTy
    present : Ty → OptionalTy

  pub data Types : Type 0 where
    none : Types
    more : Ty → Types → Types

abbrev pub types_from : List Ty → Types
types_from [] = Types.none
types_from (x ∷ xs) = Types.more x (types_from xs)

pub record NamedType : Type 0 where
  pub id : Ident
  pub ty : Ty

pub data ResultList : Type 0 where
  empty : ResultList
  scalar : Ty → ResultList
  -- with names
  named : List NamedType → ResultList

pub record FuncType : Type 0 where
  pub is_async : Bool
  pub params : List NamedType
  pub results : ResultList

pub data FuncTypeRef : Type 0 where
  func : FuncType → FuncTypeRef
  ident : Ident → FuncTypeRef

-- ---- declarations of types

pub record Constructor : Type 0 where
  pub docs : List Doc
  -- of the keyword
  pub span : Span
  pub params : List NamedType

pub record Method : Type 0 where
  pub docs : List Doc
  pub id : Ident
  pub is_static : Bool
  pub ty : FuncType

pub data ResourceMethod : Type 0 where
  constructor : Constructor → ResourceMethod
  method : Method → ResourceMethod

pub record ResourceDecl : Type 0 where
  pub docs : List Doc
  pub id : Ident
  pub methods : List ResourceMethod

pub record VariantCase : Type 0 where
  pub docs : List Doc
  pub id : Ident
  pub ty : Option Ty

pub record VariantDecl : Type 0 where
  pub docs : List Doc
  pub id : Ident
  pub cases : List VariantCase

pub record Field : Type 0 where
  pub docs : List Doc
  pub id : Ident
  pub ty : Ty

pub record RecordDecl : Type 0 where
  pub docs : List Doc
  pub id : Ident
  pub fields : List Field

pub record Flag : Type 0 where
  pub docs : List Doc
  pub id : Ident

pub record FlagsDecl : Type 0 where
  pub docs : List Doc
  pub id : Ident
  pub flags : List Flag

pub record EnumCase : Type 0 where
  pub docs : List Doc
  pub id : Ident

pub record EnumDecl : Type 0 where
  pub docs : List Doc
  pub id : Ident
  pub cases : List EnumCase

pub data TypeAliasKind : Type 0 where
  func : FuncType → TypeAliasKind
  ty : Ty → TypeAliasKind

pub record TypeAlias : Type 0 where
  pub docs : List Doc
  pub id : Ident
  pub kind : TypeAliasKind

pub data TypeDecl : Type 0 where
  variant : VariantDecl → TypeDecl
  record_decl : RecordDecl → TypeDecl
  flags : FlagsDecl → TypeDecl
  enum : EnumDecl → TypeDecl
  alias : TypeAlias → TypeDecl

pub data ItemTypeDecl : Type 0 where
  resource : ResourceDecl → ItemTypeDecl
  variant : VariantDecl → ItemTypeDecl
  record_decl : RecordDecl → ItemTypeDecl
  flags : FlagsDecl → ItemTypeDecl
  enum : EnumDecl → ItemTypeDecl
  alias : TypeAlias → ItemTypeDecl

-- ---- interfaces

pub data UsePath : Type 0 where
  path : PackagePath → UsePath
  ident : Ident → UsePath

pub record UseItem : Type 0 where
  pub id : Ident
  pub as_id : Option Ident

pub record Use : Type 0 where
  pub docs : List Doc
  pub path : UsePath
  pub items : List UseItem

pub record InterfaceExport : Type 0 where
  pub docs : List Doc
  pub id : Ident
  pub ty : FuncTypeRef

pub data InterfaceItem : Type 0 where
  use_statement : Use → InterfaceItem
  interface_export : InterfaceExport → InterfaceItem
  ty : ItemTypeDecl → InterfaceItem

pub record InterfaceDecl : Type 0 where
  pub docs : List Doc
  pub id : Ident
  pub items : List InterfaceItem

pub record InlineInterface : Type 0 where
  pub items : List InterfaceItem

-- ---- worlds

pub data ExternType : Type 0 where
  ident : Ident → ExternType
  func : FuncType → ExternType
  interface : InlineInterface → ExternType

pub record NamedWorldItem : Type 0 where
  pub id : Ident
  pub ty : ExternType

pub data WorldItemPath : Type 0 where
  path : PackagePath → WorldItemPath
  named : NamedWorldItem → WorldItemPath
  ident : Ident → WorldItemPath

pub record WorldImport : Type 0 where
  pub docs : List Doc
  pub path : WorldItemPath

pub record WorldExport : Type 0 where
  pub docs : List Doc
  pub path : WorldItemPath

pub data WorldRef : Type 0 where
  path : PackagePath → WorldRef
  ident : Ident → WorldRef

pub record WorldIncludeItem : Type 0 where
  pub from : Ident
  pub to : Ident

pub record WorldInclude : Type 0 where
  pub docs : List Doc
  pub world : WorldRef
  pub items : List WorldIncludeItem

pub data WorldItem : Type 0 where
  use_statement : Use → WorldItem
  world_import : WorldImport → WorldItem
  world_export : WorldExport → WorldItem
  world_include : WorldInclude → WorldItem
  ty : ItemTypeDecl → WorldItem

pub record WorldDecl : Type 0 where
  pub docs : List Doc
  pub id : Ident
  pub items : List WorldItem

-- ---- expressions

pub record AccessExpr : Type 0 where
  pub span : Span
  pub id : Ident

pub record NamedAccessExpr : Type 0 where
  pub span : Span
  pub string : String

pub data PostfixExpr : Type 0 where
  access : AccessExpr → PostfixExpr
  named_access : NamedAccessExpr → PostfixExpr

pub data InstantiationArgumentName : Type 0 where
  ident : Ident → InstantiationArgumentName
  string : String → InstantiationArgumentName

-- Arguments have a list type of their own here, since expressions are recursive.
mutual
  pub data Expr : Type 0 where
    expr : Span → PrimaryExpr → List PostfixExpr → Expr

  pub data PrimaryExpr : Type 0 where
    new : Span → PackageName → Arguments → PrimaryExpr
    nested : Span → Expr → PrimaryExpr
    ident : Ident → PrimaryExpr

  pub data Arguments : Type 0 where
    none : Arguments
    more : InstantiationArgument → Arguments → Arguments

  pub data InstantiationArgument : Type 0 where
    fill : Span → InstantiationArgument
    spread : Ident → InstantiationArgument
    named : InstantiationArgumentName → Expr → InstantiationArgument
    inferred : Ident → InstantiationArgument

abbrev pub arguments_from : List InstantiationArgument → Arguments
arguments_from [] = Arguments.none
arguments_from (x ∷ xs) = Arguments.more x (arguments_from xs)

pub record NamedInstantiationArgument : Type 0 where
  pub name : InstantiationArgumentName
  pub expr : Expr

-- ---- statements

pub data ImportType : Type 0 where
  func : FuncType → ImportType
  interface : InlineInterface → ImportType
  path : PackagePath → ImportType
  ident : Ident → ImportType

pub record ImportStatement : Type 0 where
  pub docs : List Doc
  pub id : Ident
  pub name : Option ExternName
  pub ty : ImportType

pub record LetStatement : Type 0 where
  pub docs : List Doc
  pub id : Ident
  pub expr : Expr

pub data ExportOptions : Type 0 where
  spread : Span → ExportOptions
  rename : ExternName → ExportOptions
  none : ExportOptions

pub record ExportStatement : Type 0 where
  pub docs : List Doc
  pub expr : Expr
  pub options : ExportOptions

pub data TypeStatement : Type 0 where
  interface : InterfaceDecl → TypeStatement
  world : WorldDecl → TypeStatement
  ty : TypeDecl → TypeStatement

pub data Statement : Type 0 where
  import_statement : ImportStatement → Statement
  let_statement : LetStatement → Statement
  export_statement : ExportStatement → Statement
  type_statement : TypeStatement → Statement

pub record PackageDirective : Type 0 where
  pub package_name : PackageName
  pub targets : Option PackagePath

pub record Document : Type 0 where
  pub docs : List Doc
  pub directive : PackageDirective
  pub statements : List Statement
