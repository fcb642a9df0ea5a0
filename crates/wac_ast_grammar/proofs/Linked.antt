-- The law of walks: what holds between three walks at leaves, and goes from parts to nodes, holds between them at each tree. The first walks after a change.
use Rattle.wac_ast_grammar.proofs.Common.{◌≡◌, refl, List, [], ◌∷◌, map, Option, Bool, option_map, Span, Doc}
use Rattle.wac_ast_grammar.specs.Tree as tree
use Rattle.wac_ast_grammar.specs.Tree.{Ident, String, PackageName, PackagePath, ExternName, Ty, OptionalTy, Types, NamedType, ResultList, FuncType, FuncTypeRef, Constructor, Method, ResourceMethod, ResourceDecl, VariantCase, VariantDecl, Field, RecordDecl, Flag, FlagsDecl, EnumCase, EnumDecl, TypeAliasKind, TypeAlias, TypeDecl, ItemTypeDecl, UsePath, UseItem, Use, InterfaceExport, InterfaceItem, InterfaceDecl, InlineInterface, ExternType, NamedWorldItem, WorldItemPath, WorldImport, WorldExport, WorldRef, WorldIncludeItem, WorldInclude, WorldItem, WorldDecl, AccessExpr, NamedAccessExpr, PostfixExpr, InstantiationArgumentName, Expr, PrimaryExpr, Arguments, InstantiationArgument, NamedInstantiationArgument, ImportType, ImportStatement, LetStatement, ExportOptions, ExportStatement, TypeStatement, Statement, PackageDirective, Document}
use Rattle.wac_ast_grammar.specs.Walk.{Walk, has_item, has_type, walk_extern_name, walk_ty, walk_optional_ty, walk_types, walk_named_type, walk_result_list, walk_func_type, walk_func_type_ref, walk_constructor, walk_method, walk_resource_method, walk_resource_decl, walk_variant_case, walk_variant_decl, walk_field, walk_record_decl, walk_flag, walk_flags_decl, walk_enum_case, walk_enum_decl, walk_type_alias_kind, walk_type_alias, walk_type_decl, walk_item_type_decl, walk_use_path, walk_use_item, walk_use, walk_interface_export, walk_interface_item, walk_interface_decl, walk_inline_interface, walk_extern_type, walk_named_world_item, walk_world_item_path, walk_world_import, walk_world_export, walk_world_ref, walk_world_include_item, walk_world_include, walk_world_item, walk_world_decl, walk_access_expr, walk_named_access_expr, walk_postfix_expr, walk_instantiation_argument_name, walk_expr, walk_primary_expr, walk_arguments, walk_instantiation_argument, walk_named_instantiation_argument, walk_import_type, walk_import_statement, walk_let_statement, walk_export_options, walk_export_statement, walk_type_statement, walk_statement, walk_package_directive, walk_document}
use Rattle.wac_ast_grammar.specs.Leaves.{Change, changed}

-- R is between a tree, what V makes of the changed tree, and what W and U make of the tree.
pub record Link {ℓ κ μ ρ} (V : Walk {ℓ}) (W : Walk {κ}) (U : Walk {μ}) (g : Change) : Type (ℓ ⊔ κ ⊔ μ ⊔ (ρ + 1) ⊔ 1) where
  pub R : {A : Type 0} → A → V.Of A → W.Of A → U.Of A → Type ρ
  pub ident : (x : Ident) → R x (V.ident (g.ident x)) (W.ident x) (U.ident x)
  pub string : (x : String) → R x (V.string (g.string x)) (W.string x) (U.string x)
  pub name : (x : PackageName) → R x (V.name (g.name x)) (W.name x) (U.name x)
  pub path : (x : PackagePath) → R x (V.path (g.path x)) (W.path x) (U.path x)
  pub none : {A : Type 0} (x : A) → R x (V.none x) (W.none x) (U.none x)
  pub each : {A : Type 0} (v : A → V.Of A) (w : A → W.Of A) (u : A → U.Of A) (c : A → A) → ((x : A) → R x (v (c x)) (w x) (u x)) → (x : List A) → R x (V.each v (map c x)) (W.each w x) (U.each u x)
  pub perhaps : {A : Type 0} (v : A → V.Of A) (w : A → W.Of A) (u : A → U.Of A) (c : A → A) → ((x : A) → R x (v (c x)) (w x) (u x)) → (x : Option A) → R x (V.perhaps v (option_map c x)) (W.perhaps w x) (U.perhaps u x)
  pub spanned : {A : Type 0} {a : Span → A} {v : V.Of (Span → A)} {w : W.Of (Span → A)} {u : U.Of (Span → A)} → R a v w u → (s : Span) → R (a s) (V.spanned v (g.span s)) (W.spanned w s) (U.spanned u s)
  pub filled : {A : Type 0} {a : A} {v : V.Of A} {w : W.Of A} {u : U.Of A} {now is : Bool} → now ≡ is → R a v w u → R a (V.filled now v) (W.filled is w) (U.filled is u)
  pub one : {A B : Type 0} {m : A → B} {a : A} {v0 : V.Of A} {w0 : W.Of A} {u0 : U.Of A} → R a v0 w0 u0 → R (m a) (V.one m v0) (W.one m w0) (U.one m u0)
  pub two : {A B C : Type 0} {m : A → B → C} {a : A} {v0 : V.Of A} {w0 : W.Of A} {u0 : U.Of A} {b : B} {v1 : V.Of B} {w1 : W.Of B} {u1 : U.Of B} → R a v0 w0 u0 → R b v1 w1 u1 → R (m a b) (V.two m v0 v1) (W.two m w0 w1) (U.two m u0 u1)
  pub three : {A B C D : Type 0} {m : A → B → C → D} {a : A} {v0 : V.Of A} {w0 : W.Of A} {u0 : U.Of A} {b : B} {v1 : V.Of B} {w1 : W.Of B} {u1 : U.Of B} {c : C} {v2 : V.Of C} {w2 : W.Of C} {u2 : U.Of C} → R a v0 w0 u0 → R b v1 w1 u1 → R c v2 w2 u2 → R (m a b c) (V.three m v0 v1 v2) (W.three m w0 w1 w2) (U.three m u0 u1 u2)
  pub four : {A B C D E : Type 0} {m : A → B → C → D → E} {a : A} {v0 : V.Of A} {w0 : W.Of A} {u0 : U.Of A} {b : B} {v1 : V.Of B} {w1 : W.Of B} {u1 : U.Of B} {c : C} {v2 : V.Of C} {w2 : W.Of C} {u2 : U.Of C} {d : D} {v3 : V.Of D} {w3 : W.Of D} {u3 : U.Of D} → R a v0 w0 u0 → R b v1 w1 u1 → R c v2 w2 u2 → R d v3 w3 u3 → R (m a b c d) (V.four m v0 v1 v2 v3) (W.four m w0 w1 w2 w3) (U.four m u0 u1 u2 u3)

module _ {ℓ κ μ ρ} (V : Walk {ℓ}) (W : Walk {κ}) (U : Walk {μ}) (g : Change) (L : Link {ℓ, κ, μ, ρ} V W U g) where
  items_stay : {A : Type 0} (c : A → A) (xs : List A) → has_item (map c xs) ≡ has_item xs
  items_stay c [] = refl
  items_stay c (x ∷ xs) = refl

  types_stay : (xs : Types) → has_type (walk_types (changed g) xs) ≡ has_type xs
  types_stay tree.Types.none = refl
  types_stay (tree.Types.more x xs) = refl

  pub link_extern_name : (x : ExternName) → L.R x (walk_extern_name V (walk_extern_name (changed g) x)) (walk_extern_name W x) (walk_extern_name U x)
  link_extern_name (tree.ExternName.ident a) = L.one (L.ident a)
  link_extern_name (tree.ExternName.string a) = L.one (L.string a)

  mutual
    pub link_ty : (x : Ty) → L.R x (walk_ty V (walk_ty (changed g) x)) (walk_ty W x) (walk_ty U x)
    link_ty (tree.Ty.u8 a) = L.spanned (L.none tree.Ty.u8) a
    link_ty (tree.Ty.s8 a) = L.spanned (L.none tree.Ty.s8) a
    link_ty (tree.Ty.u16 a) = L.spanned (L.none tree.Ty.u16) a
    link_ty (tree.Ty.s16 a) = L.spanned (L.none tree.Ty.s16) a
    link_ty (tree.Ty.u32 a) = L.spanned (L.none tree.Ty.u32) a
    link_ty (tree.Ty.s32 a) = L.spanned (L.none tree.Ty.s32) a
    link_ty (tree.Ty.u64 a) = L.spanned (L.none tree.Ty.u64) a
    link_ty (tree.Ty.s64 a) = L.spanned (L.none tree.Ty.s64) a
    link_ty (tree.Ty.f32 a) = L.spanned (L.none tree.Ty.f32) a
    link_ty (tree.Ty.f64 a) = L.spanned (L.none tree.Ty.f64) a
    link_ty (tree.Ty.char a) = L.spanned (L.none tree.Ty.char) a
    link_ty (tree.Ty.bool a) = L.spanned (L.none tree.Ty.bool) a
    link_ty (tree.Ty.string a) = L.spanned (L.none tree.Ty.string) a
    link_ty (tree.Ty.tuple a b) = L.filled (types_stay a) (L.spanned (L.one (link_types a)) b)
    link_ty (tree.Ty.list a b) = L.spanned (L.one (link_ty a)) b
    link_ty (tree.Ty.option a b) = L.spanned (L.one (link_ty a)) b
    link_ty (tree.Ty.result a b c) = L.spanned (L.two (link_optional_ty a) (link_optional_ty b)) c
    link_ty (tree.Ty.borrow a b) = L.spanned (L.one (L.ident a)) b
    link_ty (tree.Ty.stream a b) = L.spanned (L.one (link_optional_ty a)) b
    link_ty (tree.Ty.future a b) = L.spanned (L.one (link_optional_ty a)) b
    link_ty (tree.Ty.error_context a) = L.spanned (L.none tree.Ty.error_context) a
    link_ty (tree.Ty.ident a) = L.one (L.ident a)

    pub link_optional_ty : (x : OptionalTy) → L.R x (walk_optional_ty V (walk_optional_ty (changed g) x)) (walk_optional_ty W x) (walk_optional_ty U x)
    link_optional_ty tree.OptionalTy.absent = L.none tree.OptionalTy.absent
    link_optional_ty (tree.OptionalTy.present a) = L.one (link_ty a)

    pub link_types : (x : Types) → L.R x (walk_types V (walk_types (changed g) x)) (walk_types W x) (walk_types U x)
    link_types tree.Types.none = L.none tree.Types.none
    link_types (tree.Types.more a b) = L.two (link_ty a) (link_types b)

  pub link_named_type : (x : NamedType) → L.R x (walk_named_type V (walk_named_type (changed g) x)) (walk_named_type W x) (walk_named_type U x)
  link_named_type x = L.two (L.ident x.id) (link_ty x.ty)

  pub link_result_list : (x : ResultList) → L.R x (walk_result_list V (walk_result_list (changed g) x)) (walk_result_list W x) (walk_result_list U x)
  link_result_list tree.ResultList.empty = L.none tree.ResultList.empty
  link_result_list (tree.ResultList.scalar a) = L.one (link_ty a)
  link_result_list (tree.ResultList.named a) = L.filled (items_stay (walk_named_type (changed g)) a) (L.one (L.each (walk_named_type V) (walk_named_type W) (walk_named_type U) (walk_named_type (changed g)) link_named_type a))

  pub link_func_type : (x : FuncType) → L.R x (walk_func_type V (walk_func_type (changed g) x)) (walk_func_type W x) (walk_func_type U x)
  link_func_type x = L.two (L.each (walk_named_type V) (walk_named_type W) (walk_named_type U) (walk_named_type (changed g)) link_named_type x.params) (link_result_list x.results)

  pub link_func_type_ref : (x : FuncTypeRef) → L.R x (walk_func_type_ref V (walk_func_type_ref (changed g) x)) (walk_func_type_ref W x) (walk_func_type_ref U x)
  link_func_type_ref (tree.FuncTypeRef.func a) = L.one (link_func_type a)
  link_func_type_ref (tree.FuncTypeRef.ident a) = L.one (L.ident a)

  pub link_type_alias_kind : (x : TypeAliasKind) → L.R x (walk_type_alias_kind V (walk_type_alias_kind (changed g) x)) (walk_type_alias_kind W x) (walk_type_alias_kind U x)
  link_type_alias_kind (tree.TypeAliasKind.func a) = L.one (link_func_type a)
  link_type_alias_kind (tree.TypeAliasKind.ty a) = L.one (link_ty a)

  pub link_use_path : (x : UsePath) → L.R x (walk_use_path V (walk_use_path (changed g) x)) (walk_use_path W x) (walk_use_path U x)
  link_use_path (tree.UsePath.path a) = L.one (L.path a)
  link_use_path (tree.UsePath.ident a) = L.one (L.ident a)

  pub link_use_item : (x : UseItem) → L.R x (walk_use_item V (walk_use_item (changed g) x)) (walk_use_item W x) (walk_use_item U x)
  link_use_item x = L.two (L.ident x.id) (L.perhaps V.ident W.ident U.ident ((changed g).ident) L.ident x.as_id)

  pub link_world_ref : (x : WorldRef) → L.R x (walk_world_ref V (walk_world_ref (changed g) x)) (walk_world_ref W x) (walk_world_ref U x)
  link_world_ref (tree.WorldRef.path a) = L.one (L.path a)
  link_world_ref (tree.WorldRef.ident a) = L.one (L.ident a)

  pub link_world_include_item : (x : WorldIncludeItem) → L.R x (walk_world_include_item V (walk_world_include_item (changed g) x)) (walk_world_include_item W x) (walk_world_include_item U x)
  link_world_include_item x = L.two (L.ident x.from) (L.ident x.to)

  pub link_access_expr : (x : AccessExpr) → L.R x (walk_access_expr V (walk_access_expr (changed g) x)) (walk_access_expr W x) (walk_access_expr U x)
  link_access_expr x = L.spanned (L.one (L.ident x.id)) x.span

  pub link_named_access_expr : (x : NamedAccessExpr) → L.R x (walk_named_access_expr V (walk_named_access_expr (changed g) x)) (walk_named_access_expr W x) (walk_named_access_expr U x)
  link_named_access_expr x = L.spanned (L.one (L.string x.string)) x.span

  pub link_postfix_expr : (x : PostfixExpr) → L.R x (walk_postfix_expr V (walk_postfix_expr (changed g) x)) (walk_postfix_expr W x) (walk_postfix_expr U x)
  link_postfix_expr (tree.PostfixExpr.access a) = L.one (link_access_expr a)
  link_postfix_expr (tree.PostfixExpr.named_access a) = L.one (link_named_access_expr a)

  pub link_instantiation_argument_name : (x : InstantiationArgumentName) → L.R x (walk_instantiation_argument_name V (walk_instantiation_argument_name (changed g) x)) (walk_instantiation_argument_name W x) (walk_instantiation_argument_name U x)
  link_instantiation_argument_name (tree.InstantiationArgumentName.ident a) = L.one (L.ident a)
  link_instantiation_argument_name (tree.InstantiationArgumentName.string a) = L.one (L.string a)

  mutual
    pub link_expr : (x : Expr) → L.R x (walk_expr V (walk_expr (changed g) x)) (walk_expr W x) (walk_expr U x)
    link_expr (tree.Expr.expr a b c) = L.spanned (L.two (link_primary_expr b) (L.each (walk_postfix_expr V) (walk_postfix_expr W) (walk_postfix_expr U) (walk_postfix_expr (changed g)) link_postfix_expr c)) a

    pub link_primary_expr : (x : PrimaryExpr) → L.R x (walk_primary_expr V (walk_primary_expr (changed g) x)) (walk_primary_expr W x) (walk_primary_expr U x)
    link_primary_expr (tree.PrimaryExpr.new a b c) = L.spanned (L.two (L.name b) (link_arguments c)) a
    link_primary_expr (tree.PrimaryExpr.nested a b) = L.spanned (L.one (link_expr b)) a
    link_primary_expr (tree.PrimaryExpr.ident a) = L.one (L.ident a)

    pub link_arguments : (x : Arguments) → L.R x (walk_arguments V (walk_arguments (changed g) x)) (walk_arguments W x) (walk_arguments U x)
    link_arguments tree.Arguments.none = L.none tree.Arguments.none
    link_arguments (tree.Arguments.more a b) = L.two (link_instantiation_argument a) (link_arguments b)

    pub link_instantiation_argument : (x : InstantiationArgument) → L.R x (walk_instantiation_argument V (walk_instantiation_argument (changed g) x)) (walk_instantiation_argument W x) (walk_instantiation_argument U x)
    link_instantiation_argument (tree.InstantiationArgument.fill a) = L.spanned (L.none tree.InstantiationArgument.fill) a
    link_instantiation_argument (tree.InstantiationArgument.spread a) = L.one (L.ident a)
    link_instantiation_argument (tree.InstantiationArgument.named a b) = L.two (link_instantiation_argument_name a) (link_expr b)
    link_instantiation_argument (tree.InstantiationArgument.inferred a) = L.one (L.ident a)

  pub link_named_instantiation_argument : (x : NamedInstantiationArgument) → L.R x (walk_named_instantiation_argument V (walk_named_instantiation_argument (changed g) x)) (walk_named_instantiation_argument W x) (walk_named_instantiation_argument U x)
  link_named_instantiation_argument x = L.two (link_instantiation_argument_name x.name) (link_expr x.expr)

  pub link_export_options : (x : ExportOptions) → L.R x (walk_export_options V (walk_export_options (changed g) x)) (walk_export_options W x) (walk_export_options U x)
  link_export_options (tree.ExportOptions.spread a) = L.spanned (L.none tree.ExportOptions.spread) a
  link_export_options (tree.ExportOptions.rename a) = L.one (link_extern_name a)
  link_export_options tree.ExportOptions.none = L.none tree.ExportOptions.none

  pub link_package_directive : (x : PackageDirective) → L.R x (walk_package_directive V (walk_package_directive (changed g) x)) (walk_package_directive W x) (walk_package_directive U x)
  link_package_directive x = L.two (L.name x.package_name) (L.perhaps V.path W.path U.path ((changed g).path) L.path x.targets)

  module _ (k : List Doc → List Doc) (v : List Doc → V.Of (List Doc)) (w : List Doc → W.Of (List Doc)) (u : List Doc → U.Of (List Doc)) (e : (x : List Doc) → L.R x (v (k x)) (w x) (u x)) where
    pub link_constructor : (x : Constructor) → L.R x (walk_constructor V v (walk_constructor (changed g) k x)) (walk_constructor W w x) (walk_constructor U u x)
    link_constructor x = L.spanned (L.two (e x.docs) (L.each (walk_named_type V) (walk_named_type W) (walk_named_type U) (walk_named_type (changed g)) link_named_type x.params)) x.span

    pub link_method : (x : Method) → L.R x (walk_method V v (walk_method (changed g) k x)) (walk_method W w x) (walk_method U u x)
    link_method x = L.three (e x.docs) (L.ident x.id) (link_func_type x.ty)

    pub link_resource_method : (x : ResourceMethod) → L.R x (walk_resource_method V v (walk_resource_method (changed g) k x)) (walk_resource_method W w x) (walk_resource_method U u x)
    link_resource_method (tree.ResourceMethod.constructor a) = L.one (link_constructor a)
    link_resource_method (tree.ResourceMethod.method a) = L.one (link_method a)

    pub link_resource_decl : (x : ResourceDecl) → L.R x (walk_resource_decl V v (walk_resource_decl (changed g) k x)) (walk_resource_decl W w x) (walk_resource_decl U u x)
    link_resource_decl x = L.three (e x.docs) (L.ident x.id) (L.each (walk_resource_method V v) (walk_resource_method W w) (walk_resource_method U u) (walk_resource_method (changed g) k) link_resource_method x.methods)

    pub link_variant_case : (x : VariantCase) → L.R x (walk_variant_case V v (walk_variant_case (changed g) k x)) (walk_variant_case W w x) (walk_variant_case U u x)
    link_variant_case x = L.three (e x.docs) (L.ident x.id) (L.perhaps (walk_ty V) (walk_ty W) (walk_ty U) (walk_ty (changed g)) link_ty x.ty)

    pub link_variant_decl : (x : VariantDecl) → L.R x (walk_variant_decl V v (walk_variant_decl (changed g) k x)) (walk_variant_decl W w x) (walk_variant_decl U u x)
    link_variant_decl x = L.filled (items_stay (walk_variant_case (changed g) k) x.cases) (L.three (e x.docs) (L.ident x.id) (L.each (walk_variant_case V v) (walk_variant_case W w) (walk_variant_case U u) (walk_variant_case (changed g) k) link_variant_case x.cases))

    pub link_field : (x : Field) → L.R x (walk_field V v (walk_field (changed g) k x)) (walk_field W w x) (walk_field U u x)
    link_field x = L.three (e x.docs) (L.ident x.id) (link_ty x.ty)

    pub link_record_decl : (x : RecordDecl) → L.R x (walk_record_decl V v (walk_record_decl (changed g) k x)) (walk_record_decl W w x) (walk_record_decl U u x)
    link_record_decl x = L.filled (items_stay (walk_field (changed g) k) x.fields) (L.three (e x.docs) (L.ident x.id) (L.each (walk_field V v) (walk_field W w) (walk_field U u) (walk_field (changed g) k) link_field x.fields))

    pub link_flag : (x : Flag) → L.R x (walk_flag V v (walk_flag (changed g) k x)) (walk_flag W w x) (walk_flag U u x)
    link_flag x = L.two (e x.docs) (L.ident x.id)

    pub link_flags_decl : (x : FlagsDecl) → L.R x (walk_flags_decl V v (walk_flags_decl (changed g) k x)) (walk_flags_decl W w x) (walk_flags_decl U u x)
    link_flags_decl x = L.filled (items_stay (walk_flag (changed g) k) x.flags) (L.three (e x.docs) (L.ident x.id) (L.each (walk_flag V v) (walk_flag W w) (walk_flag U u) (walk_flag (changed g) k) link_flag x.flags))

    pub link_enum_case : (x : EnumCase) → L.R x (walk_enum_case V v (walk_enum_case (changed g) k x)) (walk_enum_case W w x) (walk_enum_case U u x)
    link_enum_case x = L.two (e x.docs) (L.ident x.id)

    pub link_enum_decl : (x : EnumDecl) → L.R x (walk_enum_decl V v (walk_enum_decl (changed g) k x)) (walk_enum_decl W w x) (walk_enum_decl U u x)
    link_enum_decl x = L.filled (items_stay (walk_enum_case (changed g) k) x.cases) (L.three (e x.docs) (L.ident x.id) (L.each (walk_enum_case V v) (walk_enum_case W w) (walk_enum_case U u) (walk_enum_case (changed g) k) link_enum_case x.cases))

    pub link_type_alias : (x : TypeAlias) → L.R x (walk_type_alias V v (walk_type_alias (changed g) k x)) (walk_type_alias W w x) (walk_type_alias U u x)
    link_type_alias x = L.three (e x.docs) (L.ident x.id) (link_type_alias_kind x.kind)

    pub link_type_decl : (x : TypeDecl) → L.R x (walk_type_decl V v (walk_type_decl (changed g) k x)) (walk_type_decl W w x) (walk_type_decl U u x)
    link_type_decl (tree.TypeDecl.variant a) = L.one (link_variant_decl a)
    link_type_decl (tree.TypeDecl.record_decl a) = L.one (link_record_decl a)
    link_type_decl (tree.TypeDecl.flags a) = L.one (link_flags_decl a)
    link_type_decl (tree.TypeDecl.enum a) = L.one (link_enum_decl a)
    link_type_decl (tree.TypeDecl.alias a) = L.one (link_type_alias a)

    pub link_item_type_decl : (x : ItemTypeDecl) → L.R x (walk_item_type_decl V v (walk_item_type_decl (changed g) k x)) (walk_item_type_decl W w x) (walk_item_type_decl U u x)
    link_item_type_decl (tree.ItemTypeDecl.resource a) = L.one (link_resource_decl a)
    link_item_type_decl (tree.ItemTypeDecl.variant a) = L.one (link_variant_decl a)
    link_item_type_decl (tree.ItemTypeDecl.record_decl a) = L.one (link_record_decl a)
    link_item_type_decl (tree.ItemTypeDecl.flags a) = L.one (link_flags_decl a)
    link_item_type_decl (tree.ItemTypeDecl.enum a) = L.one (link_enum_decl a)
    link_item_type_decl (tree.ItemTypeDecl.alias a) = L.one (link_type_alias a)

    pub link_use : (x : Use) → L.R x (walk_use V v (walk_use (changed g) k x)) (walk_use W w x) (walk_use U u x)
    link_use x = L.three (e x.docs) (link_use_path x.path) (L.each (walk_use_item V) (walk_use_item W) (walk_use_item U) (walk_use_item (changed g)) link_use_item x.items)

    pub link_interface_export : (x : InterfaceExport) → L.R x (walk_interface_export V v (walk_interface_export (changed g) k x)) (walk_interface_export W w x) (walk_interface_export U u x)
    link_interface_export x = L.three (e x.docs) (L.ident x.id) (link_func_type_ref x.ty)

    pub link_interface_item : (x : InterfaceItem) → L.R x (walk_interface_item V v (walk_interface_item (changed g) k x)) (walk_interface_item W w x) (walk_interface_item U u x)
    link_interface_item (tree.InterfaceItem.use_statement a) = L.one (link_use a)
    link_interface_item (tree.InterfaceItem.interface_export a) = L.one (link_interface_export a)
    link_interface_item (tree.InterfaceItem.ty a) = L.one (link_item_type_decl a)

    pub link_interface_decl : (x : InterfaceDecl) → L.R x (walk_interface_decl V v (walk_interface_decl (changed g) k x)) (walk_interface_decl W w x) (walk_interface_decl U u x)
    link_interface_decl x = L.three (e x.docs) (L.ident x.id) (L.each (walk_interface_item V v) (walk_interface_item W w) (walk_interface_item U u) (walk_interface_item (changed g) k) link_interface_item x.items)

    pub link_inline_interface : (x : InlineInterface) → L.R x (walk_inline_interface V v (walk_inline_interface (changed g) k x)) (walk_inline_interface W w x) (walk_inline_interface U u x)
    link_inline_interface x = L.one (L.each (walk_interface_item V v) (walk_interface_item W w) (walk_interface_item U u) (walk_interface_item (changed g) k) link_interface_item x.items)

    pub link_extern_type : (x : ExternType) → L.R x (walk_extern_type V v (walk_extern_type (changed g) k x)) (walk_extern_type W w x) (walk_extern_type U u x)
    link_extern_type (tree.ExternType.ident a) = L.one (L.ident a)
    link_extern_type (tree.ExternType.func a) = L.one (link_func_type a)
    link_extern_type (tree.ExternType.interface a) = L.one (link_inline_interface a)

    pub link_named_world_item : (x : NamedWorldItem) → L.R x (walk_named_world_item V v (walk_named_world_item (changed g) k x)) (walk_named_world_item W w x) (walk_named_world_item U u x)
    link_named_world_item x = L.two (L.ident x.id) (link_extern_type x.ty)

    pub link_world_item_path : (x : WorldItemPath) → L.R x (walk_world_item_path V v (walk_world_item_path (changed g) k x)) (walk_world_item_path W w x) (walk_world_item_path U u x)
    link_world_item_path (tree.WorldItemPath.path a) = L.one (L.path a)
    link_world_item_path (tree.WorldItemPath.named a) = L.one (link_named_world_item a)
    link_world_item_path (tree.WorldItemPath.ident a) = L.one (L.ident a)

    pub link_world_import : (x : WorldImport) → L.R x (walk_world_import V v (walk_world_import (changed g) k x)) (walk_world_import W w x) (walk_world_import U u x)
    link_world_import x = L.two (e x.docs) (link_world_item_path x.path)

    pub link_world_export : (x : WorldExport) → L.R x (walk_world_export V v (walk_world_export (changed g) k x)) (walk_world_export W w x) (walk_world_export U u x)
    link_world_export x = L.two (e x.docs) (link_world_item_path x.path)

    pub link_world_include : (x : WorldInclude) → L.R x (walk_world_include V v (walk_world_include (changed g) k x)) (walk_world_include W w x) (walk_world_include U u x)
    link_world_include x = L.three (e x.docs) (link_world_ref x.world) (L.each (walk_world_include_item V) (walk_world_include_item W) (walk_world_include_item U) (walk_world_include_item (changed g)) link_world_include_item x.items)

    pub link_world_item : (x : WorldItem) → L.R x (walk_world_item V v (walk_world_item (changed g) k x)) (walk_world_item W w x) (walk_world_item U u x)
    link_world_item (tree.WorldItem.use_statement a) = L.one (link_use a)
    link_world_item (tree.WorldItem.world_import a) = L.one (link_world_import a)
    link_world_item (tree.WorldItem.world_export a) = L.one (link_world_export a)
    link_world_item (tree.WorldItem.world_include a) = L.one (link_world_include a)
    link_world_item (tree.WorldItem.ty a) = L.one (link_item_type_decl a)

    pub link_world_decl : (x : WorldDecl) → L.R x (walk_world_decl V v (walk_world_decl (changed g) k x)) (walk_world_decl W w x) (walk_world_decl U u x)
    link_world_decl x = L.three (e x.docs) (L.ident x.id) (L.each (walk_world_item V v) (walk_world_item W w) (walk_world_item U u) (walk_world_item (changed g) k) link_world_item x.items)

    pub link_import_type : (x : ImportType) → L.R x (walk_import_type V v (walk_import_type (changed g) k x)) (walk_import_type W w x) (walk_import_type U u x)
    link_import_type (tree.ImportType.func a) = L.one (link_func_type a)
    link_import_type (tree.ImportType.interface a) = L.one (link_inline_interface a)
    link_import_type (tree.ImportType.path a) = L.one (L.path a)
    link_import_type (tree.ImportType.ident a) = L.one (L.ident a)

    pub link_import_statement : (x : ImportStatement) → L.R x (walk_import_statement V v (walk_import_statement (changed g) k x)) (walk_import_statement W w x) (walk_import_statement U u x)
    link_import_statement x = L.four (e x.docs) (L.ident x.id) (L.perhaps (walk_extern_name V) (walk_extern_name W) (walk_extern_name U) (walk_extern_name (changed g)) link_extern_name x.name) (link_import_type x.ty)

    pub link_let_statement : (x : LetStatement) → L.R x (walk_let_statement V v (walk_let_statement (changed g) k x)) (walk_let_statement W w x) (walk_let_statement U u x)
    link_let_statement x = L.three (e x.docs) (L.ident x.id) (link_expr x.expr)

    pub link_export_statement : (x : ExportStatement) → L.R x (walk_export_statement V v (walk_export_statement (changed g) k x)) (walk_export_statement W w x) (walk_export_statement U u x)
    link_export_statement x = L.three (e x.docs) (link_expr x.expr) (link_export_options x.options)

    pub link_type_statement : (x : TypeStatement) → L.R x (walk_type_statement V v (walk_type_statement (changed g) k x)) (walk_type_statement W w x) (walk_type_statement U u x)
    link_type_statement (tree.TypeStatement.interface a) = L.one (link_interface_decl a)
    link_type_statement (tree.TypeStatement.world a) = L.one (link_world_decl a)
    link_type_statement (tree.TypeStatement.ty a) = L.one (link_type_decl a)

    pub link_statement : (x : Statement) → L.R x (walk_statement V v (walk_statement (changed g) k x)) (walk_statement W w x) (walk_statement U u x)
    link_statement (tree.Statement.import_statement a) = L.one (link_import_statement a)
    link_statement (tree.Statement.let_statement a) = L.one (link_let_statement a)
    link_statement (tree.Statement.export_statement a) = L.one (link_export_statement a)
    link_statement (tree.Statement.type_statement a) = L.one (link_type_statement a)

    pub link_document : (x : Document) → L.R x (walk_document V v (walk_document (changed g) k x)) (walk_document W w x) (walk_document U u x)
    link_document x = L.three (e x.docs) (link_package_directive x.directive) (L.each (walk_statement V v) (walk_statement W w) (walk_statement U u) (walk_statement (changed g) k) link_statement x.statements)
