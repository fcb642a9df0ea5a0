-- The pieces of types join.
use Rattle.wac_ast_grammar.specs.Walk.{walk_extern_name, walk_func_type, walk_func_type_ref, walk_named_type, walk_optional_ty, walk_result_list, walk_ty, walk_types}
use Rattle.wac_printer_layout.proofs.Common.{◌≡◌, ℕ, Bool, true, false, List, ◌++◌, refl, AllByRecursion, follows, Ident, ExternName, Ty, OptionalTy, Types, NamedType, ResultList, FuncType, FuncTypeRef}
use Rattle.wac_lexer.specs.declared.token.Token.TheVariants as kinds
use Rattle.wac_ast_grammar.specs.Tree as tree
use Rattle.wac_printer_layout.specs.Printed.{text}
use Rattle.wac_printer_layout.specs.Parts.{joined}
use Rattle.wac_printer_layout.specs.Texts.{Spelled, has}
use Rattle.wac_printer_layout.specs.TypeLayout.{extern_name_layout, ty_layout, element_layout, types_layout, further_types_layout, named_type_layout, results_layout, async_layout, params_layout, func_type_layout, func_type_ref_layout}
use Rattle.wac_printer_layout.proofs.Joints.{J, also, known, word, string, colon, comma, open_paren, close_paren, open_angle, close_angle, underscore, arrow, joined_join}

module _ (gap : List ℕ) where
  pub extern_name_join : (x : ExternName) (rest : List ℕ) (fresh : Bool) → walk_extern_name (has Spelled) x → follows kinds.Ident rest ≡ true → J gap rest fresh (extern_name_layout x)
  extern_name_join (tree.ExternName.ident x) rest fresh is h = (word _ _ is h, tt)
  extern_name_join (tree.ExternName.string x) rest fresh is h = (string _ _ is, tt)

  element_follows : (x : OptionalTy) (rest : List ℕ) (fresh : Bool) → follows kinds.Ident rest ≡ true → follows kinds.Ident (text gap fresh (element_layout x) ++ rest) ≡ true
  element_follows tree.OptionalTy.absent rest fresh h = h
  element_follows (tree.OptionalTy.present x) rest fresh h = refl

  further_follows : (xs : Types) (rest : List ℕ) (fresh : Bool) → follows kinds.Ident rest ≡ true → follows kinds.Ident (text gap fresh (further_types_layout xs) ++ rest) ≡ true
  further_follows tree.Types.none rest fresh h = h
  further_follows (tree.Types.more x xs) rest fresh h = refl

  mutual
    pub ty_join : (x : Ty) (rest : List ℕ) (fresh : Bool) → walk_ty (has Spelled) x → follows kinds.Ident rest ≡ true → J gap rest fresh (ty_layout x)
    ty_join (tree.Ty.u8 s) rest fresh is h = (known _ refl _ h, tt)
    ty_join (tree.Ty.s8 s) rest fresh is h = (known _ refl _ h, tt)
    ty_join (tree.Ty.u16 s) rest fresh is h = (known _ refl _ h, tt)
    ty_join (tree.Ty.s16 s) rest fresh is h = (known _ refl _ h, tt)
    ty_join (tree.Ty.u32 s) rest fresh is h = (known _ refl _ h, tt)
    ty_join (tree.Ty.s32 s) rest fresh is h = (known _ refl _ h, tt)
    ty_join (tree.Ty.u64 s) rest fresh is h = (known _ refl _ h, tt)
    ty_join (tree.Ty.s64 s) rest fresh is h = (known _ refl _ h, tt)
    ty_join (tree.Ty.f32 s) rest fresh is h = (known _ refl _ h, tt)
    ty_join (tree.Ty.f64 s) rest fresh is h = (known _ refl _ h, tt)
    ty_join (tree.Ty.char s) rest fresh is h = (known _ refl _ h, tt)
    ty_join (tree.Ty.bool s) rest fresh is h = (known _ refl _ h, tt)
    ty_join (tree.Ty.string s) rest fresh is h = (known _ refl _ h, tt)
    ty_join (tree.Ty.error_context s) rest fresh is h = (known _ refl _ h, tt)
    ty_join (tree.Ty.tuple xs s) rest fresh is h = (known _ refl _ refl, (open_angle _, also gap _ _ (types_layout xs) _ (types_join xs _ _ is.0 refl) (close_angle _, tt)))
    ty_join (tree.Ty.list x s) rest fresh is h = (known _ refl _ refl, (open_angle _, also gap _ _ (ty_layout x) _ (ty_join x _ _ is refl) (close_angle _, tt)))
    ty_join (tree.Ty.option x s) rest fresh is h = (known _ refl _ refl, (open_angle _, also gap _ _ (ty_layout x) _ (ty_join x _ _ is refl) (close_angle _, tt)))
    ty_join (tree.Ty.result tree.OptionalTy.absent tree.OptionalTy.absent s) rest fresh is h = (known _ refl _ h, tt)
    ty_join (tree.Ty.result tree.OptionalTy.absent (tree.OptionalTy.present err) s) rest fresh is h =
        (known _ refl _ refl, (open_angle _, (underscore _, (comma _, ((refl, tt), also gap _ _ (ty_layout err) _ (ty_join err _ _ is.1 refl) (close_angle _, tt))))))
    ty_join (tree.Ty.result (tree.OptionalTy.present ok) tree.OptionalTy.absent s) rest fresh is h =
        (known _ refl _ refl, (open_angle _, also gap _ _ (ty_layout ok) _ (ty_join ok _ _ is.0 refl) (close_angle _, tt)))
    ty_join (tree.Ty.result (tree.OptionalTy.present ok) (tree.OptionalTy.present err) s) rest fresh is h = (
      known _ refl _ refl,
      (
        open_angle _,
        also gap _ _ (ty_layout ok) _ (ty_join ok _ _ is.0 refl)
            (comma _, ((refl, tt), also gap _ _ (ty_layout err) _ (ty_join err _ _ is.1 refl) (close_angle _, tt))),
      ),
    )
    ty_join (tree.Ty.borrow x s) rest fresh is h = (known _ refl _ refl, (open_angle _, (word _ _ is refl, (close_angle _, tt))))
    ty_join (tree.Ty.stream x s) rest fresh is h = (known _ refl _ (element_follows x rest _ h), element_join x rest _ is h)
    ty_join (tree.Ty.future x s) rest fresh is h = (known _ refl _ (element_follows x rest _ h), element_join x rest _ is h)
    ty_join (tree.Ty.ident x) rest fresh is h = (word _ _ is h, tt)

    element_join : (x : OptionalTy) (rest : List ℕ) (fresh : Bool) → walk_optional_ty (has Spelled) x → follows kinds.Ident rest ≡ true → J gap rest fresh (element_layout x)
    element_join tree.OptionalTy.absent rest fresh is h = tt
    element_join (tree.OptionalTy.present x) rest fresh is h = (open_angle _, also gap _ _ (ty_layout x) _ (ty_join x _ _ is refl) (close_angle _, tt))

    types_join : (xs : Types) (rest : List ℕ) (fresh : Bool) → walk_types (has Spelled) xs → follows kinds.Ident rest ≡ true → J gap rest fresh (types_layout xs)
    types_join tree.Types.none rest fresh is h = tt
    types_join (tree.Types.more x xs) rest fresh is h = also gap _ _ (ty_layout x) _ (ty_join x _ _ is.0 (further_follows xs rest _ h)) (further_types_join xs rest _ is.1 h)

    further_types_join : (xs : Types) (rest : List ℕ) (fresh : Bool) → walk_types (has Spelled) xs → follows kinds.Ident rest ≡ true → J gap rest fresh (further_types_layout xs)
    further_types_join tree.Types.none rest fresh is h = tt
    further_types_join (tree.Types.more x xs) rest fresh is h =
        (comma _, ((refl, tt), also gap _ _ (ty_layout x) _ (ty_join x _ _ is.0 (further_follows xs rest _ h)) (further_types_join xs rest _ is.1 h)))

  -- functions
  pub named_type_join : (x : NamedType) (rest : List ℕ) (fresh : Bool) → walk_named_type (has Spelled) x → follows kinds.Ident rest ≡ true → J gap rest fresh (named_type_layout x)
  named_type_join x rest fresh is h = (word _ _ is.0 refl, (colon _, ((refl, tt), ty_join x.ty rest _ is.1 h)))

  pub params_join : (params : List NamedType) (rest : List ℕ) (fresh : Bool) → AllByRecursion (walk_named_type (has Spelled)) params → J gap rest fresh (params_layout params)
  params_join params rest fresh is =
      (open_paren _, also gap _ _ (joined named_type_layout params) _ (joined_join gap named_type_layout (walk_named_type (has Spelled)) named_type_join params _ _ is refl) (close_paren _, tt))

  results_join : (x : ResultList) (rest : List ℕ) (fresh : Bool) → walk_result_list (has Spelled) x → follows kinds.Ident rest ≡ true → J gap rest fresh (results_layout x)
  results_join tree.ResultList.empty rest fresh is h = tt
  results_join (tree.ResultList.scalar x) rest fresh is h = ((refl, tt), (arrow _, ((refl, tt), ty_join x rest _ is h)))
  results_join (tree.ResultList.named xs) rest fresh is h = ((refl, tt), (arrow _, ((refl, tt), params_join xs rest false is.0)))

  async_join : (is_async : Bool) (rest : List ℕ) (fresh : Bool) → J gap rest fresh (async_layout is_async)
  async_join true rest fresh = (known _ refl _ refl, ((refl, tt), tt))
  async_join false rest fresh = tt

  pub func_type_join : (x : FuncType) (rest : List ℕ) (fresh : Bool) → walk_func_type (has Spelled) x → follows kinds.Ident rest ≡ true → J gap rest fresh (func_type_layout x)
  func_type_join x rest fresh is h =
      also gap _ _ (async_layout x.is_async) _ (async_join x.is_async _ _)
      (known _ refl _ refl, also gap _ false (params_layout x.params) _ (params_join x.params _ false is.0) (results_join x.results rest _ is.1 h))

  pub func_type_ref_join : (x : FuncTypeRef) (rest : List ℕ) (fresh : Bool) → walk_func_type_ref (has Spelled) x → follows kinds.Ident rest ≡ true → J gap rest fresh (func_type_ref_layout x)
  unfolding func_type_ref_layout
  func_type_ref_join (tree.FuncTypeRef.func x) rest fresh is h = func_type_join x rest fresh is h
  func_type_ref_join (tree.FuncTypeRef.ident x) rest fresh is h = (word _ _ is h, tt)
