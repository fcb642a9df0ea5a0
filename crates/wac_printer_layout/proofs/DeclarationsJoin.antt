-- The pieces of declarations of types join.
use Rattle.wac_ast_grammar.specs.Walk.{walk_constructor, walk_enum_case, walk_enum_decl, walk_field, walk_flag, walk_flags_decl, walk_item_type_decl, walk_method, walk_record_decl, walk_resource_decl, walk_resource_method, walk_ty, walk_type_alias, walk_type_alias_kind, walk_type_decl, walk_variant_case, walk_variant_decl}
use Rattle.wac_printer_layout.proofs.Common.{◌≡◌, ℕ, Bool, true, false, List, ◌++◌, refl, Option, Some, None, follows, Ident, Ty, Constructor, Method, ResourceMethod, ResourceDecl, VariantCase, VariantDecl, Field, RecordDecl, Flag, FlagsDecl, EnumCase, EnumDecl, TypeAliasKind, TypeAlias, TypeDecl, ItemTypeDecl, IfThere}
use Rattle.wac_lexer.specs.declared.token.Token.TheVariants as kinds
use Rattle.wac_ast_grammar.specs.Tree as tree
use Rattle.wac_printer_layout.specs.Printed.{text}
use Rattle.wac_printer_layout.specs.Texts.{Spelled, DocsHave, has}
use Rattle.wac_printer_layout.specs.TypeLayout.{ty_layout, func_type_layout, params_layout}
use Rattle.wac_printer_layout.specs.DeclarationLayout.{constructor_layout, static_layout, method_layout, resource_method_layout, resource_decl_layout, payload_layout, variant_case_layout, variant_decl_layout, field_layout, record_decl_layout, flag_layout, flags_decl_layout, enum_case_layout, enum_decl_layout, alias_kind_layout, type_alias_layout, type_decl_layout, item_type_decl_layout}
use Rattle.wac_printer_layout.proofs.Joints.{J, also, documented, known, word, colon, equals, semicolon, open_paren, close_paren, rows_follow, body_follow, rows_join, body_join}
use Rattle.wac_printer_layout.proofs.TypesJoin.{ty_join, params_join, func_type_join}

module _ (gap : List ℕ) where
  constructor_join : (depth : ℕ) (x : Constructor) (rest : List ℕ) (fresh : Bool) → walk_constructor (has Spelled) (DocsHave Spelled) x → J gap rest fresh (constructor_layout depth x)
  constructor_join depth x rest fresh is =
      documented gap depth x.docs _ rest fresh is.0 (λ later. (tt, (known _ refl _ refl, also gap _ false (params_layout x.params) _ (params_join gap x.params _ false is.1) (semicolon _, tt))))

  static_join : (is_static : Bool) (rest : List ℕ) (fresh : Bool) → J gap rest fresh (static_layout is_static)
  static_join true rest fresh = (known _ refl _ refl, ((refl, tt), tt))
  static_join false rest fresh = tt

  method_join : (depth : ℕ) (x : Method) (rest : List ℕ) (fresh : Bool) → walk_method (has Spelled) (DocsHave Spelled) x → J gap rest fresh (method_layout depth x)
  method_join depth x rest fresh is =
      documented gap depth x.docs _ rest fresh is.0 (λ later. (
        tt,
        (
          word _ _ is.1 refl,
          (
            colon _,
            (
              (refl, tt),
              also gap _ _ (static_layout x.is_static) _ (static_join x.is_static _ _) (also gap _ _ (func_type_layout x.ty) _ (func_type_join gap x.ty _ _ is.2 refl) (semicolon _, tt)),
            ),
          ),
        ),
      ))

  resource_method_join : (depth : ℕ) (x : ResourceMethod) (rest : List ℕ) (fresh : Bool) → walk_resource_method (has Spelled) (DocsHave Spelled) x → J gap rest fresh (resource_method_layout depth x)
  unfolding resource_method_layout
  resource_method_join depth (tree.ResourceMethod.constructor x) rest fresh is = constructor_join depth x rest fresh is
  resource_method_join depth (tree.ResourceMethod.method x) rest fresh is = method_join depth x rest fresh is

  resource_decl_join : (depth : ℕ) (x : ResourceDecl) (rest : List ℕ) (fresh : Bool) → walk_resource_decl (has Spelled) (DocsHave Spelled) x → J gap rest fresh (resource_decl_layout depth x)
  resource_decl_join depth x rest fresh is =
      documented gap depth x.docs _ rest fresh is.0 (λ later. (
        tt,
        (
          known _ refl _ refl,
          (
            (refl, tt),
            (
              word _ _ is.1 (body_follow gap resource_method_layout depth x.methods _ _),
              body_join gap resource_method_layout (walk_resource_method (has Spelled) (DocsHave Spelled)) resource_method_join depth x.methods rest _ is.2,
            ),
          ),
        ),
      ))

  payload_follows : (x : Option Ty) (rest : List ℕ) (fresh : Bool) → follows kinds.Ident rest ≡ true → follows kinds.Ident (text gap fresh (payload_layout x) ++ rest) ≡ true
  payload_follows None rest fresh h = h
  payload_follows (Some x) rest fresh h = refl

  payload_join : (x : Option Ty) (rest : List ℕ) (fresh : Bool) → IfThere (walk_ty (has Spelled)) x → J gap rest fresh (payload_layout x)
  payload_join None rest fresh is = tt
  payload_join (Some x) rest fresh is = (open_paren _, also gap _ _ (ty_layout x) _ (ty_join gap x _ _ is refl) (close_paren _, tt))

  pub variant_case_join : (depth : ℕ) (x : VariantCase) (rest : List ℕ) (fresh : Bool) → walk_variant_case (has Spelled) (DocsHave Spelled) x → follows kinds.Ident rest ≡ true → J gap rest fresh (variant_case_layout depth x)
  variant_case_join depth x rest fresh is h =
      documented gap depth x.docs _ rest fresh is.0 (λ later. (tt, (word _ _ is.1 (payload_follows x.ty rest _ h), payload_join x.ty rest _ is.2)))

  variant_decl_join : (depth : ℕ) (x : VariantDecl) (rest : List ℕ) (fresh : Bool) → walk_variant_decl (has Spelled) (DocsHave Spelled) x → J gap rest fresh (variant_decl_layout depth x)
  variant_decl_join depth x rest fresh is =
      documented gap depth x.docs _ rest fresh is.0.0 (λ later. (
        tt,
        (
          known _ refl _ refl,
          (
            (refl, tt),
            (
              word _ _ is.0.1 (rows_follow gap variant_case_layout depth x.cases _ _),
              rows_join gap variant_case_layout (walk_variant_case (has Spelled) (DocsHave Spelled)) variant_case_join depth x.cases rest _ is.0.2,
            ),
          ),
        ),
      ))

  pub field_join : (depth : ℕ) (x : Field) (rest : List ℕ) (fresh : Bool) → walk_field (has Spelled) (DocsHave Spelled) x → follows kinds.Ident rest ≡ true → J gap rest fresh (field_layout depth x)
  field_join depth x rest fresh is h =
      documented gap depth x.docs _ rest fresh is.0 (λ later. (tt, (word _ _ is.1 refl, (colon _, ((refl, tt), ty_join gap x.ty rest _ is.2 h)))))

  record_decl_join : (depth : ℕ) (x : RecordDecl) (rest : List ℕ) (fresh : Bool) → walk_record_decl (has Spelled) (DocsHave Spelled) x → J gap rest fresh (record_decl_layout depth x)
  record_decl_join depth x rest fresh is =
      documented gap depth x.docs _ rest fresh is.0.0 (λ later. (
        tt,
        (
          known _ refl _ refl,
          (
            (refl, tt),
            (
              word _ _ is.0.1 (rows_follow gap field_layout depth x.fields _ _),
              rows_join gap field_layout (walk_field (has Spelled) (DocsHave Spelled)) field_join depth x.fields rest _ is.0.2,
            ),
          ),
        ),
      ))

  pub flag_join : (depth : ℕ) (x : Flag) (rest : List ℕ) (fresh : Bool) → walk_flag (has Spelled) (DocsHave Spelled) x → follows kinds.Ident rest ≡ true → J gap rest fresh (flag_layout depth x)
  flag_join depth x rest fresh is h = documented gap depth x.docs _ rest fresh is.0 (λ later. (tt, (word _ _ is.1 h, tt)))

  flags_decl_join : (depth : ℕ) (x : FlagsDecl) (rest : List ℕ) (fresh : Bool) → walk_flags_decl (has Spelled) (DocsHave Spelled) x → J gap rest fresh (flags_decl_layout depth x)
  flags_decl_join depth x rest fresh is =
      documented gap depth x.docs _ rest fresh is.0.0 (λ later. (
        tt,
        (
          known _ refl _ refl,
          (
            (refl, tt),
            (
              word _ _ is.0.1 (rows_follow gap flag_layout depth x.flags _ _),
              rows_join gap flag_layout (walk_flag (has Spelled) (DocsHave Spelled)) flag_join depth x.flags rest _ is.0.2,
            ),
          ),
        ),
      ))

  pub enum_case_join : (depth : ℕ) (x : EnumCase) (rest : List ℕ) (fresh : Bool) → walk_enum_case (has Spelled) (DocsHave Spelled) x → follows kinds.Ident rest ≡ true → J gap rest fresh (enum_case_layout depth x)
  enum_case_join depth x rest fresh is h = documented gap depth x.docs _ rest fresh is.0 (λ later. (tt, (word _ _ is.1 h, tt)))

  enum_decl_join : (depth : ℕ) (x : EnumDecl) (rest : List ℕ) (fresh : Bool) → walk_enum_decl (has Spelled) (DocsHave Spelled) x → J gap rest fresh (enum_decl_layout depth x)
  enum_decl_join depth x rest fresh is =
      documented gap depth x.docs _ rest fresh is.0.0 (λ later. (
        tt,
        (
          known _ refl _ refl,
          (
            (refl, tt),
            (
              word _ _ is.0.1 (rows_follow gap enum_case_layout depth x.cases _ _),
              rows_join gap enum_case_layout (walk_enum_case (has Spelled) (DocsHave Spelled)) enum_case_join depth x.cases rest _ is.0.2,
            ),
          ),
        ),
      ))

  alias_kind_join : (x : TypeAliasKind) (rest : List ℕ) (fresh : Bool) → walk_type_alias_kind (has Spelled) x → follows kinds.Ident rest ≡ true → J gap rest fresh (alias_kind_layout x)
  unfolding alias_kind_layout
  alias_kind_join (tree.TypeAliasKind.func x) rest fresh is h = func_type_join gap x rest fresh is h
  alias_kind_join (tree.TypeAliasKind.ty x) rest fresh is h = ty_join gap x rest fresh is h

  type_alias_join : (depth : ℕ) (x : TypeAlias) (rest : List ℕ) (fresh : Bool) → walk_type_alias (has Spelled) (DocsHave Spelled) x → J gap rest fresh (type_alias_layout depth x)
  type_alias_join depth x rest fresh is =
      documented gap depth x.docs _ rest fresh is.0 (λ later. (
        tt,
        (
          known _ refl _ refl,
          (
            (refl, tt),
            (
              word _ _ is.1 refl,
              (
                (refl, tt),
                (
                  equals _,
                  (
                    (refl, tt),
                    also gap _ _ (alias_kind_layout x.kind) _ (alias_kind_join x.kind _ _ is.2 refl) (semicolon _, tt),
                  ),
                ),
              ),
            ),
          ),
        ),
      ))

  pub type_decl_join : (depth : ℕ) (x : TypeDecl) (rest : List ℕ) (fresh : Bool) → walk_type_decl (has Spelled) (DocsHave Spelled) x → J gap rest fresh (type_decl_layout depth x)
  unfolding type_decl_layout
  type_decl_join depth (tree.TypeDecl.variant x) rest fresh is = variant_decl_join depth x rest fresh is
  type_decl_join depth (tree.TypeDecl.record_decl x) rest fresh is = record_decl_join depth x rest fresh is
  type_decl_join depth (tree.TypeDecl.flags x) rest fresh is = flags_decl_join depth x rest fresh is
  type_decl_join depth (tree.TypeDecl.enum x) rest fresh is = enum_decl_join depth x rest fresh is
  type_decl_join depth (tree.TypeDecl.alias x) rest fresh is = type_alias_join depth x rest fresh is

  pub item_type_decl_join : (depth : ℕ) (x : ItemTypeDecl) (rest : List ℕ) (fresh : Bool) → walk_item_type_decl (has Spelled) (DocsHave Spelled) x → J gap rest fresh (item_type_decl_layout depth x)
  unfolding item_type_decl_layout
  item_type_decl_join depth (tree.ItemTypeDecl.resource x) rest fresh is = resource_decl_join depth x rest fresh is
  item_type_decl_join depth (tree.ItemTypeDecl.variant x) rest fresh is = variant_decl_join depth x rest fresh is
  item_type_decl_join depth (tree.ItemTypeDecl.record_decl x) rest fresh is = record_decl_join depth x rest fresh is
  item_type_decl_join depth (tree.ItemTypeDecl.flags x) rest fresh is = flags_decl_join depth x rest fresh is
  item_type_decl_join depth (tree.ItemTypeDecl.enum x) rest fresh is = enum_decl_join depth x rest fresh is
  item_type_decl_join depth (tree.ItemTypeDecl.alias x) rest fresh is = type_alias_join depth x rest fresh is
