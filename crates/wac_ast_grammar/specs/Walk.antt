-- One walk over trees: what is made of the leaves of a tree, and of a node from what was made of its parts. What is
-- made of docs is separate, since most trees have none.
use Rattle.std.specs.Prelude.{List, [], ◌∷◌, Option, Bool, true, false}
use Rattle.wac_lexer.specs.Span.{Span}
use Rattle.wac_lexer.specs.Item.{Doc}
use Rattle.wac_ast_grammar.specs.Tree as tree
use Rattle.wac_ast_grammar.specs.Tree.{Ident, String, PackageName, PackagePath, ExternName, Ty, OptionalTy, Types, NamedType, ResultList, FuncType, FuncTypeRef, Constructor, Method, ResourceMethod, ResourceDecl, VariantCase, VariantDecl, Field, RecordDecl, Flag, FlagsDecl, EnumCase, EnumDecl, TypeAliasKind, TypeAlias, TypeDecl, ItemTypeDecl, UsePath, UseItem, Use, InterfaceExport, InterfaceItem, InterfaceDecl, InlineInterface, ExternType, NamedWorldItem, WorldItemPath, WorldImport, WorldExport, WorldRef, WorldIncludeItem, WorldInclude, WorldItem, WorldDecl, AccessExpr, NamedAccessExpr, PostfixExpr, InstantiationArgumentName, Expr, PrimaryExpr, Arguments, InstantiationArgument, NamedInstantiationArgument, ImportType, ImportStatement, LetStatement, ExportOptions, ExportStatement, TypeStatement, Statement, PackageDirective, Document}

-- What a walk makes of a tree of type A is an Of A.
pub record Walk {ℓ} : Type (ℓ + 1) where
  pub Of : Type 0 → Type ℓ
  -- of the leaves
  pub ident : Ident → Of Ident
  pub string : String → Of String
  pub name : PackageName → Of PackageName
  pub path : PackagePath → Of PackagePath
  -- of a list, and of what may be left out
  pub each : {A : Type 0} → (A → Of A) → List A → Of (List A)
  pub perhaps : {A : Type 0} → (A → Of A) → Option A → Of (Option A)
  -- of a node that is to have an item: whether it has one, and what was made of it
  pub filled : {A : Type 0} → Bool → Of A → Of A
  -- of a node with a span, from what was made of its parts
  pub spanned : {A : Type 0} → Of (Span → A) → Span → Of A
  -- of a node without parts
  pub none : {A : Type 0} → A → Of A
  -- of a node, from what was made of its parts
  pub one : {A B : Type 0} → (A → B) → Of A → Of B
  pub two : {A B C : Type 0} → (A → B → C) → Of A → Of B → Of C
  pub three : {A B C D : Type 0} → (A → B → C → D) → Of A → Of B → Of C → Of D
  pub four : {A B C D E : Type 0} → (A → B → C → D → E) → Of A → Of B → Of C → Of D → Of E

abbrev pub has_item : {A : Type 0} → List A → Bool
has_item [] = false
has_item (x ∷ xs) = true

abbrev pub has_type : Types → Bool
has_type tree.Types.none = false
has_type (tree.Types.more x xs) = true

-- ---- names

abbrev pub walk_extern_name {ℓ} : (W : Walk {ℓ}) → ExternName → W.Of ExternName
walk_extern_name W (tree.ExternName.ident a) = W.one tree.ExternName.ident (W.ident a)
walk_extern_name W (tree.ExternName.string a) = W.one tree.ExternName.string (W.string a)

-- ---- types

abbrev mutual
  pub walk_ty {ℓ} : (W : Walk {ℓ}) → Ty → W.Of Ty
  walk_ty W (tree.Ty.u8 a) = W.spanned (W.none tree.Ty.u8) a
  walk_ty W (tree.Ty.s8 a) = W.spanned (W.none tree.Ty.s8) a
  walk_ty W (tree.Ty.u16 a) = W.spanned (W.none tree.Ty.u16) a
  walk_ty W (tree.Ty.s16 a) = W.spanned (W.none tree.Ty.s16) a
  walk_ty W (tree.Ty.u32 a) = W.spanned (W.none tree.Ty.u32) a
  walk_ty W (tree.Ty.s32 a) = W.spanned (W.none tree.Ty.s32) a
  walk_ty W (tree.Ty.u64 a) = W.spanned (W.none tree.Ty.u64) a
  walk_ty W (tree.Ty.s64 a) = W.spanned (W.none tree.Ty.s64) a
  walk_ty W (tree.Ty.f32 a) = W.spanned (W.none tree.Ty.f32) a
  walk_ty W (tree.Ty.f64 a) = W.spanned (W.none tree.Ty.f64) a
  walk_ty W (tree.Ty.char a) = W.spanned (W.none tree.Ty.char) a
  walk_ty W (tree.Ty.bool a) = W.spanned (W.none tree.Ty.bool) a
  walk_ty W (tree.Ty.string a) = W.spanned (W.none tree.Ty.string) a
  walk_ty W (tree.Ty.tuple a b) = W.filled (has_type a) (W.spanned (W.one (λ a s. tree.Ty.tuple a s) (walk_types W a)) b)
  walk_ty W (tree.Ty.list a b) = W.spanned (W.one (λ a s. tree.Ty.list a s) (walk_ty W a)) b
  walk_ty W (tree.Ty.option a b) = W.spanned (W.one (λ a s. tree.Ty.option a s) (walk_ty W a)) b
  walk_ty W (tree.Ty.result a b c) = W.spanned (W.two (λ a b s. tree.Ty.result a b s) (walk_optional_ty W a) (walk_optional_ty W b)) c
  walk_ty W (tree.Ty.borrow a b) = W.spanned (W.one (λ a s. tree.Ty.borrow a s) (W.ident a)) b
  walk_ty W (tree.Ty.stream a b) = W.spanned (W.one (λ a s. tree.Ty.stream a s) (walk_optional_ty W a)) b
  walk_ty W (tree.Ty.future a b) = W.spanned (W.one (λ a s. tree.Ty.future a s) (walk_optional_ty W a)) b
  walk_ty W (tree.Ty.error_context a) = W.spanned (W.none tree.Ty.error_context) a
  walk_ty W (tree.Ty.ident a) = W.one tree.Ty.ident (W.ident a)

  pub walk_optional_ty {ℓ} : (W : Walk {ℓ}) → OptionalTy → W.Of OptionalTy
  walk_optional_ty W tree.OptionalTy.absent = W.none tree.OptionalTy.absent
  walk_optional_ty W (tree.OptionalTy.present a) = W.one tree.OptionalTy.present (walk_ty W a)

  pub walk_types {ℓ} : (W : Walk {ℓ}) → Types → W.Of Types
  walk_types W tree.Types.none = W.none tree.Types.none
  walk_types W (tree.Types.more a b) = W.two tree.Types.more (walk_ty W a) (walk_types W b)

abbrev pub walk_named_type {ℓ} : (W : Walk {ℓ}) → NamedType → W.Of NamedType
walk_named_type W x = W.two (λ a b. record { id = a; ty = b }) (W.ident x.id) (walk_ty W x.ty)

abbrev pub walk_result_list {ℓ} : (W : Walk {ℓ}) → ResultList → W.Of ResultList
walk_result_list W tree.ResultList.empty = W.none tree.ResultList.empty
walk_result_list W (tree.ResultList.scalar a) = W.one tree.ResultList.scalar (walk_ty W a)
walk_result_list W (tree.ResultList.named a) = W.filled (has_item a) (W.one tree.ResultList.named (W.each (walk_named_type W) a))

abbrev pub walk_func_type {ℓ} : (W : Walk {ℓ}) → FuncType → W.Of FuncType
walk_func_type W x = W.two (λ a b. record { is_async = x.is_async; params = a; results = b }) (W.each (walk_named_type W) x.params) (walk_result_list W x.results)

abbrev pub walk_func_type_ref {ℓ} : (W : Walk {ℓ}) → FuncTypeRef → W.Of FuncTypeRef
walk_func_type_ref W (tree.FuncTypeRef.func a) = W.one tree.FuncTypeRef.func (walk_func_type W a)
walk_func_type_ref W (tree.FuncTypeRef.ident a) = W.one tree.FuncTypeRef.ident (W.ident a)

-- ---- declarations of types

abbrev pub walk_constructor {ℓ} : (W : Walk {ℓ}) → (List Doc → W.Of (List Doc)) → Constructor → W.Of Constructor
walk_constructor W d x = W.spanned (W.two (λ a b s. record { docs = a; span = s; params = b }) (d x.docs) (W.each (walk_named_type W) x.params)) x.span

abbrev pub walk_method {ℓ} : (W : Walk {ℓ}) → (List Doc → W.Of (List Doc)) → Method → W.Of Method
walk_method W d x = W.three (λ a b c. record { docs = a; id = b; is_static = x.is_static; ty = c }) (d x.docs) (W.ident x.id) (walk_func_type W x.ty)

abbrev pub walk_resource_method {ℓ} : (W : Walk {ℓ}) → (List Doc → W.Of (List Doc)) → ResourceMethod → W.Of ResourceMethod
walk_resource_method W d (tree.ResourceMethod.constructor a) = W.one tree.ResourceMethod.constructor (walk_constructor W d a)
walk_resource_method W d (tree.ResourceMethod.method a) = W.one tree.ResourceMethod.method (walk_method W d a)

abbrev pub walk_resource_decl {ℓ} : (W : Walk {ℓ}) → (List Doc → W.Of (List Doc)) → ResourceDecl → W.Of ResourceDecl
walk_resource_decl W d x = W.three (λ a b c. record { docs = a; id = b; methods = c }) (d x.docs) (W.ident x.id) (W.each (walk_resource_method W d) x.methods)

abbrev pub walk_variant_case {ℓ} : (W : Walk {ℓ}) → (List Doc → W.Of (List Doc)) → VariantCase → W.Of VariantCase
walk_variant_case W d x = W.three (λ a b c. record { docs = a; id = b; ty = c }) (d x.docs) (W.ident x.id) (W.perhaps (walk_ty W) x.ty)

abbrev pub walk_variant_decl {ℓ} : (W : Walk {ℓ}) → (List Doc → W.Of (List Doc)) → VariantDecl → W.Of VariantDecl
walk_variant_decl W d x = W.filled (has_item x.cases) (W.three (λ a b c. record { docs = a; id = b; cases = c }) (d x.docs) (W.ident x.id) (W.each (walk_variant_case W d) x.cases))

abbrev pub walk_field {ℓ} : (W : Walk {ℓ}) → (List Doc → W.Of (List Doc)) → Field → W.Of Field
walk_field W d x = W.three (λ a b c. record { docs = a; id = b; ty = c }) (d x.docs) (W.ident x.id) (walk_ty W x.ty)

abbrev pub walk_record_decl {ℓ} : (W : Walk {ℓ}) → (List Doc → W.Of (List Doc)) → RecordDecl → W.Of RecordDecl
walk_record_decl W d x = W.filled (has_item x.fields) (W.three (λ a b c. record { docs = a; id = b; fields = c }) (d x.docs) (W.ident x.id) (W.each (walk_field W d) x.fields))

abbrev pub walk_flag {ℓ} : (W : Walk {ℓ}) → (List Doc → W.Of (List Doc)) → Flag → W.Of Flag
walk_flag W d x = W.two (λ a b. record { docs = a; id = b }) (d x.docs) (W.ident x.id)

abbrev pub walk_flags_decl {ℓ} : (W : Walk {ℓ}) → (List Doc → W.Of (List Doc)) → FlagsDecl → W.Of FlagsDecl
walk_flags_decl W d x = W.filled (has_item x.flags) (W.three (λ a b c. record { docs = a; id = b; flags = c }) (d x.docs) (W.ident x.id) (W.each (walk_flag W d) x.flags))

abbrev pub walk_enum_case {ℓ} : (W : Walk {ℓ}) → (List Doc → W.Of (List Doc)) → EnumCase → W.Of EnumCase
walk_enum_case W d x = W.two (λ a b. record { docs = a; id = b }) (d x.docs) (W.ident x.id)

abbrev pub walk_enum_decl {ℓ} : (W : Walk {ℓ}) → (List Doc → W.Of (List Doc)) → EnumDecl → W.Of EnumDecl
walk_enum_decl W d x = W.filled (has_item x.cases) (W.three (λ a b c. record { docs = a; id = b; cases = c }) (d x.docs) (W.ident x.id) (W.each (walk_enum_case W d) x.cases))

abbrev pub walk_type_alias_kind {ℓ} : (W : Walk {ℓ}) → TypeAliasKind → W.Of TypeAliasKind
walk_type_alias_kind W (tree.TypeAliasKind.func a) = W.one tree.TypeAliasKind.func (walk_func_type W a)
walk_type_alias_kind W (tree.TypeAliasKind.ty a) = W.one tree.TypeAliasKind.ty (walk_ty W a)

abbrev pub walk_type_alias {ℓ} : (W : Walk {ℓ}) → (List Doc → W.Of (List Doc)) → TypeAlias → W.Of TypeAlias
walk_type_alias W d x = W.three (λ a b c. record { docs = a; id = b; kind = c }) (d x.docs) (W.ident x.id) (walk_type_alias_kind W x.kind)

abbrev pub walk_type_decl {ℓ} : (W : Walk {ℓ}) → (List Doc → W.Of (List Doc)) → TypeDecl → W.Of TypeDecl
walk_type_decl W d (tree.TypeDecl.variant a) = W.one tree.TypeDecl.variant (walk_variant_decl W d a)
walk_type_decl W d (tree.TypeDecl.record_decl a) = W.one tree.TypeDecl.record_decl (walk_record_decl W d a)
walk_type_decl W d (tree.TypeDecl.flags a) = W.one tree.TypeDecl.flags (walk_flags_decl W d a)
walk_type_decl W d (tree.TypeDecl.enum a) = W.one tree.TypeDecl.enum (walk_enum_decl W d a)
walk_type_decl W d (tree.TypeDecl.alias a) = W.one tree.TypeDecl.alias (walk_type_alias W d a)

abbrev pub walk_item_type_decl {ℓ} : (W : Walk {ℓ}) → (List Doc → W.Of (List Doc)) → ItemTypeDecl → W.Of ItemTypeDecl
walk_item_type_decl W d (tree.ItemTypeDecl.resource a) = W.one tree.ItemTypeDecl.resource (walk_resource_decl W d a)
walk_item_type_decl W d (tree.ItemTypeDecl.variant a) = W.one tree.ItemTypeDecl.variant (walk_variant_decl W d a)
walk_item_type_decl W d (tree.ItemTypeDecl.record_decl a) = W.one tree.ItemTypeDecl.record_decl (walk_record_decl W d a)
walk_item_type_decl W d (tree.ItemTypeDecl.flags a) = W.one tree.ItemTypeDecl.flags (walk_flags_decl W d a)
walk_item_type_decl W d (tree.ItemTypeDecl.enum a) = W.one tree.ItemTypeDecl.enum (walk_enum_decl W d a)
walk_item_type_decl W d (tree.ItemTypeDecl.alias a) = W.one tree.ItemTypeDecl.alias (walk_type_alias W d a)

-- ---- interfaces

abbrev pub walk_use_path {ℓ} : (W : Walk {ℓ}) → UsePath → W.Of UsePath
walk_use_path W (tree.UsePath.path a) = W.one tree.UsePath.path (W.path a)
walk_use_path W (tree.UsePath.ident a) = W.one tree.UsePath.ident (W.ident a)

abbrev pub walk_use_item {ℓ} : (W : Walk {ℓ}) → UseItem → W.Of UseItem
walk_use_item W x = W.two (λ a b. record { id = a; as_id = b }) (W.ident x.id) (W.perhaps W.ident x.as_id)

abbrev pub walk_use {ℓ} : (W : Walk {ℓ}) → (List Doc → W.Of (List Doc)) → Use → W.Of Use
walk_use W d x = W.three (λ a b c. record { docs = a; path = b; items = c }) (d x.docs) (walk_use_path W x.path) (W.each (walk_use_item W) x.items)

abbrev pub walk_interface_export {ℓ} : (W : Walk {ℓ}) → (List Doc → W.Of (List Doc)) → InterfaceExport → W.Of InterfaceExport
walk_interface_export W d x = W.three (λ a b c. record { docs = a; id = b; ty = c }) (d x.docs) (W.ident x.id) (walk_func_type_ref W x.ty)

abbrev pub walk_interface_item {ℓ} : (W : Walk {ℓ}) → (List Doc → W.Of (List Doc)) → InterfaceItem → W.Of InterfaceItem
walk_interface_item W d (tree.InterfaceItem.use_statement a) = W.one tree.InterfaceItem.use_statement (walk_use W d a)
walk_interface_item W d (tree.InterfaceItem.interface_export a) = W.one tree.InterfaceItem.interface_export (walk_interface_export W d a)
walk_interface_item W d (tree.InterfaceItem.ty a) = W.one tree.InterfaceItem.ty (walk_item_type_decl W d a)

abbrev pub walk_interface_decl {ℓ} : (W : Walk {ℓ}) → (List Doc → W.Of (List Doc)) → InterfaceDecl → W.Of InterfaceDecl
walk_interface_decl W d x = W.three (λ a b c. record { docs = a; id = b; items = c }) (d x.docs) (W.ident x.id) (W.each (walk_interface_item W d) x.items)

abbrev pub walk_inline_interface {ℓ} : (W : Walk {ℓ}) → (List Doc → W.Of (List Doc)) → InlineInterface → W.Of InlineInterface
walk_inline_interface W d x = W.one (λ a. record { items = a }) (W.each (walk_interface_item W d) x.items)

-- ---- worlds

abbrev pub walk_extern_type {ℓ} : (W : Walk {ℓ}) → (List Doc → W.Of (List Doc)) → ExternType → W.Of ExternType
walk_extern_type W d (tree.ExternType.ident a) = W.one tree.ExternType.ident (W.ident a)
walk_extern_type W d (tree.ExternType.func a) = W.one tree.ExternType.func (walk_func_type W a)
walk_extern_type W d (tree.ExternType.interface a) = W.one tree.ExternType.interface (walk_inline_interface W d a)

abbrev pub walk_named_world_item {ℓ} : (W : Walk {ℓ}) → (List Doc → W.Of (List Doc)) → NamedWorldItem → W.Of NamedWorldItem
walk_named_world_item W d x = W.two (λ a b. record { id = a; ty = b }) (W.ident x.id) (walk_extern_type W d x.ty)

abbrev pub walk_world_item_path {ℓ} : (W : Walk {ℓ}) → (List Doc → W.Of (List Doc)) → WorldItemPath → W.Of WorldItemPath
walk_world_item_path W d (tree.WorldItemPath.path a) = W.one tree.WorldItemPath.path (W.path a)
walk_world_item_path W d (tree.WorldItemPath.named a) = W.one tree.WorldItemPath.named (walk_named_world_item W d a)
walk_world_item_path W d (tree.WorldItemPath.ident a) = W.one tree.WorldItemPath.ident (W.ident a)

abbrev pub walk_world_import {ℓ} : (W : Walk {ℓ}) → (List Doc → W.Of (List Doc)) → WorldImport → W.Of WorldImport
walk_world_import W d x = W.two (λ a b. record { docs = a; path = b }) (d x.docs) (walk_world_item_path W d x.path)

abbrev pub walk_world_export {ℓ} : (W : Walk {ℓ}) → (List Doc → W.Of (List Doc)) → WorldExport → W.Of WorldExport
walk_world_export W d x = W.two (λ a b. record { docs = a; path = b }) (d x.docs) (walk_world_item_path W d x.path)

abbrev pub walk_world_ref {ℓ} : (W : Walk {ℓ}) → WorldRef → W.Of WorldRef
walk_world_ref W (tree.WorldRef.path a) = W.one tree.WorldRef.path (W.path a)
walk_world_ref W (tree.WorldRef.ident a) = W.one tree.WorldRef.ident (W.ident a)

abbrev pub walk_world_include_item {ℓ} : (W : Walk {ℓ}) → WorldIncludeItem → W.Of WorldIncludeItem
walk_world_include_item W x = W.two (λ a b. record { from = a; to = b }) (W.ident x.from) (W.ident x.to)

abbrev pub walk_world_include {ℓ} : (W : Walk {ℓ}) → (List Doc → W.Of (List Doc)) → WorldInclude → W.Of WorldInclude
walk_world_include W d x = W.three (λ a b c. record { docs = a; world = b; items = c }) (d x.docs) (walk_world_ref W x.world) (W.each (walk_world_include_item W) x.items)

abbrev pub walk_world_item {ℓ} : (W : Walk {ℓ}) → (List Doc → W.Of (List Doc)) → WorldItem → W.Of WorldItem
walk_world_item W d (tree.WorldItem.use_statement a) = W.one tree.WorldItem.use_statement (walk_use W d a)
walk_world_item W d (tree.WorldItem.world_import a) = W.one tree.WorldItem.world_import (walk_world_import W d a)
walk_world_item W d (tree.WorldItem.world_export a) = W.one tree.WorldItem.world_export (walk_world_export W d a)
walk_world_item W d (tree.WorldItem.world_include a) = W.one tree.WorldItem.world_include (walk_world_include W d a)
walk_world_item W d (tree.WorldItem.ty a) = W.one tree.WorldItem.ty (walk_item_type_decl W d a)

abbrev pub walk_world_decl {ℓ} : (W : Walk {ℓ}) → (List Doc → W.Of (List Doc)) → WorldDecl → W.Of WorldDecl
walk_world_decl W d x = W.three (λ a b c. record { docs = a; id = b; items = c }) (d x.docs) (W.ident x.id) (W.each (walk_world_item W d) x.items)

-- ---- expressions

abbrev pub walk_access_expr {ℓ} : (W : Walk {ℓ}) → AccessExpr → W.Of AccessExpr
walk_access_expr W x = W.spanned (W.one (λ a s. record { span = s; id = a }) (W.ident x.id)) x.span

abbrev pub walk_named_access_expr {ℓ} : (W : Walk {ℓ}) → NamedAccessExpr → W.Of NamedAccessExpr
walk_named_access_expr W x = W.spanned (W.one (λ a s. record { span = s; string = a }) (W.string x.string)) x.span

abbrev pub walk_postfix_expr {ℓ} : (W : Walk {ℓ}) → PostfixExpr → W.Of PostfixExpr
walk_postfix_expr W (tree.PostfixExpr.access a) = W.one tree.PostfixExpr.access (walk_access_expr W a)
walk_postfix_expr W (tree.PostfixExpr.named_access a) = W.one tree.PostfixExpr.named_access (walk_named_access_expr W a)

abbrev pub walk_instantiation_argument_name {ℓ} : (W : Walk {ℓ}) → InstantiationArgumentName → W.Of InstantiationArgumentName
walk_instantiation_argument_name W (tree.InstantiationArgumentName.ident a) = W.one tree.InstantiationArgumentName.ident (W.ident a)
walk_instantiation_argument_name W (tree.InstantiationArgumentName.string a) = W.one tree.InstantiationArgumentName.string (W.string a)

abbrev mutual
  pub walk_expr {ℓ} : (W : Walk {ℓ}) → Expr → W.Of Expr
  walk_expr W (tree.Expr.expr a b c) = W.spanned (W.two (λ b c s. tree.Expr.expr s b c) (walk_primary_expr W b) (W.each (walk_postfix_expr W) c)) a

  pub walk_primary_expr {ℓ} : (W : Walk {ℓ}) → PrimaryExpr → W.Of PrimaryExpr
  walk_primary_expr W (tree.PrimaryExpr.new a b c) = W.spanned (W.two (λ b c s. tree.PrimaryExpr.new s b c) (W.name b) (walk_arguments W c)) a
  walk_primary_expr W (tree.PrimaryExpr.nested a b) = W.spanned (W.one (λ b s. tree.PrimaryExpr.nested s b) (walk_expr W b)) a
  walk_primary_expr W (tree.PrimaryExpr.ident a) = W.one tree.PrimaryExpr.ident (W.ident a)

  pub walk_arguments {ℓ} : (W : Walk {ℓ}) → Arguments → W.Of Arguments
  walk_arguments W tree.Arguments.none = W.none tree.Arguments.none
  walk_arguments W (tree.Arguments.more a b) = W.two tree.Arguments.more (walk_instantiation_argument W a) (walk_arguments W b)

  pub walk_instantiation_argument {ℓ} : (W : Walk {ℓ}) → InstantiationArgument → W.Of InstantiationArgument
  walk_instantiation_argument W (tree.InstantiationArgument.fill a) = W.spanned (W.none tree.InstantiationArgument.fill) a
  walk_instantiation_argument W (tree.InstantiationArgument.spread a) = W.one tree.InstantiationArgument.spread (W.ident a)
  walk_instantiation_argument W (tree.InstantiationArgument.named a b) = W.two tree.InstantiationArgument.named (walk_instantiation_argument_name W a) (walk_expr W b)
  walk_instantiation_argument W (tree.InstantiationArgument.inferred a) = W.one tree.InstantiationArgument.inferred (W.ident a)

abbrev pub walk_named_instantiation_argument {ℓ} : (W : Walk {ℓ}) → NamedInstantiationArgument → W.Of NamedInstantiationArgument
walk_named_instantiation_argument W x = W.two (λ a b. record { name = a; expr = b }) (walk_instantiation_argument_name W x.name) (walk_expr W x.expr)

-- ---- statements

abbrev pub walk_import_type {ℓ} : (W : Walk {ℓ}) → (List Doc → W.Of (List Doc)) → ImportType → W.Of ImportType
walk_import_type W d (tree.ImportType.func a) = W.one tree.ImportType.func (walk_func_type W a)
walk_import_type W d (tree.ImportType.interface a) = W.one tree.ImportType.interface (walk_inline_interface W d a)
walk_import_type W d (tree.ImportType.path a) = W.one tree.ImportType.path (W.path a)
walk_import_type W d (tree.ImportType.ident a) = W.one tree.ImportType.ident (W.ident a)

abbrev pub walk_import_statement {ℓ} : (W : Walk {ℓ}) → (List Doc → W.Of (List Doc)) → ImportStatement → W.Of ImportStatement
walk_import_statement W d x = W.four (λ a b c d. record { docs = a; id = b; name = c; ty = d }) (d x.docs) (W.ident x.id) (W.perhaps (walk_extern_name W) x.name) (walk_import_type W d x.ty)

abbrev pub walk_let_statement {ℓ} : (W : Walk {ℓ}) → (List Doc → W.Of (List Doc)) → LetStatement → W.Of LetStatement
walk_let_statement W d x = W.three (λ a b c. record { docs = a; id = b; expr = c }) (d x.docs) (W.ident x.id) (walk_expr W x.expr)

abbrev pub walk_export_options {ℓ} : (W : Walk {ℓ}) → ExportOptions → W.Of ExportOptions
walk_export_options W (tree.ExportOptions.spread a) = W.spanned (W.none tree.ExportOptions.spread) a
walk_export_options W (tree.ExportOptions.rename a) = W.one tree.ExportOptions.rename (walk_extern_name W a)
walk_export_options W tree.ExportOptions.none = W.none tree.ExportOptions.none

abbrev pub walk_export_statement {ℓ} : (W : Walk {ℓ}) → (List Doc → W.Of (List Doc)) → ExportStatement → W.Of ExportStatement
walk_export_statement W d x = W.three (λ a b c. record { docs = a; expr = b; options = c }) (d x.docs) (walk_expr W x.expr) (walk_export_options W x.options)

abbrev pub walk_type_statement {ℓ} : (W : Walk {ℓ}) → (List Doc → W.Of (List Doc)) → TypeStatement → W.Of TypeStatement
walk_type_statement W d (tree.TypeStatement.interface a) = W.one tree.TypeStatement.interface (walk_interface_decl W d a)
walk_type_statement W d (tree.TypeStatement.world a) = W.one tree.TypeStatement.world (walk_world_decl W d a)
walk_type_statement W d (tree.TypeStatement.ty a) = W.one tree.TypeStatement.ty (walk_type_decl W d a)

abbrev pub walk_statement {ℓ} : (W : Walk {ℓ}) → (List Doc → W.Of (List Doc)) → Statement → W.Of Statement
walk_statement W d (tree.Statement.import_statement a) = W.one tree.Statement.import_statement (walk_import_statement W d a)
walk_statement W d (tree.Statement.let_statement a) = W.one tree.Statement.let_statement (walk_let_statement W d a)
walk_statement W d (tree.Statement.export_statement a) = W.one tree.Statement.export_statement (walk_export_statement W d a)
walk_statement W d (tree.Statement.type_statement a) = W.one tree.Statement.type_statement (walk_type_statement W d a)

abbrev pub walk_package_directive {ℓ} : (W : Walk {ℓ}) → PackageDirective → W.Of PackageDirective
walk_package_directive W x = W.two (λ a b. record { package_name = a; targets = b }) (W.name x.package_name) (W.perhaps W.path x.targets)

abbrev pub walk_document {ℓ} : (W : Walk {ℓ}) → (List Doc → W.Of (List Doc)) → Document → W.Of Document
walk_document W d x = W.three (λ a b c. record { docs = a; directive = b; statements = c }) (d x.docs) (walk_package_directive W x.directive) (W.each (walk_statement W d) x.statements)
