-- Declarations of types are read back.
use Rattle.std.proofs.Common.{◌≡◌, ℕ, Bool, true, false, List, [], ◌∷◌, ◌++◌, map, sym as back, refl, ap, ◌∙◌, subst, Option, Some, None, inl, inr, codes}
use Rattle.wac_ast_grammar.specs.Walk.{walk_constructor, walk_enum_case, walk_enum_decl, walk_field, walk_flag, walk_flags_decl, walk_func_type, walk_item_type_decl, walk_method, walk_named_type, walk_record_decl, walk_resource_decl, walk_resource_method, walk_ty, walk_type_alias, walk_type_alias_kind, walk_type_decl, walk_variant_case, walk_variant_decl}
use Rattle.wac_printer_layout.proofs.Common.{AllByRecursion, flat_map, Item, Doc, slice, is_token, Ident, Ty, FuncType, Constructor, Method, ResourceMethod, ResourceDecl, VariantCase, VariantDecl, Field, RecordDecl, Flag, FlagsDecl, EnumCase, EnumDecl, TypeAliasKind, TypeAlias, TypeDecl, ItemTypeDecl, docs_of, build, Derives, named_type, constructor, method, resource_method, methods, resource_decl, variant_case, cases, variant_decl, field, fields, record_decl, flag, flags, flags_decl, enum_case, enum_cases, enum_decl, type_alias_kind, type_alias, type_decl, item_type_decl, by_rule, list_items, more_items}
use Rattle.wac_lexer.specs.declared.token.Token.TheVariants as kinds
use Rattle.wac_ast_grammar.specs.Tree as tree
use Rattle.wac_ast_grammar.specs.Grammar.{identifier}
use Rattle.wac_printer_layout.specs.Printed.{Piece, token, line, deeper}
use Rattle.wac_printer_layout.specs.Bare.{nowhere, doc_lines, bare}
use Rattle.wac_printer_layout.specs.Parts.{space, newline, joined, spaced, body, rows, docs_layout, close_body}
use Rattle.wac_printer_layout.specs.TypeLayout.{ty_layout, named_type_layout, params_layout, func_type_layout}
use Rattle.wac_printer_layout.specs.DeclarationLayout.{constructor_layout, static_layout, method_layout, resource_method_layout, resource_decl_layout, variant_case_layout, variant_decl_layout, field_layout, record_decl_layout, flag_layout, flags_decl_layout, enum_case_layout, enum_decl_layout, alias_kind_layout, type_alias_layout, type_decl_layout, item_type_decl_layout}
use Rattle.wac_printer_layout.specs.Texts.{Spelled, DocsHave, has}
use Rattle.wac_printer_layout.specs.Reread.{read_docs}
use Rattle.wac_printer_layout.proofs.Means.{Means, split, pending, pending-append}
use Rattle.wac_printer_layout.proofs.NamesBack.{alone, word_back, documented, docs_back}
use Rattle.wac_printer_layout.proofs.TypesBack.{ty_back}
use Rattle.wac_printer_layout.proofs.FunctionsBack.{params_back, func_type_back}
use Rattle.wac_printer_layout.proofs.ListsBack.{rows_first, spaced_back}

-- no docs are left after a token, nor after what leaves none
pub ends_in : (ds : List (List ℕ)) (ps : List Piece) (t : List ℕ) → pending ds (ps ++ token t ∷ []) ≡ []
ends_in ds ps t = pending-append ds ps (token t ∷ [])

pub leaves_none : (ps qs : List Piece) → ((es : List (List ℕ)) → pending es qs ≡ []) → (ds : List (List ℕ)) → pending ds (ps ++ qs) ≡ []
leaves_none ps qs h ds = pending-append ds ps qs ∙ h (pending ds ps)

pub body_closed : {X : Type 0} (f : ℕ → X → List Piece) (depth : ℕ) (xs : List X) (ds : List (List ℕ)) → pending ds (body f depth xs) ≡ []
unfolding body
body_closed f depth xs ds = leaves_none (spaced (f (deeper depth)) xs) (close_body depth) (λ es. refl) []

pub rows_closed : {X : Type 0} (f : ℕ → X → List Piece) (depth : ℕ) (xs : List X) (ds : List (List ℕ)) → pending ds (rows f depth xs) ≡ []
unfolding rows
rows_closed f depth xs ds = leaves_none (flat_map (λ x. f (deeper depth) x ++ token (codes ",") ∷ newline ∷ []) xs) (close_body depth) (λ es. refl) []

module _ (S P : List ℕ) where
  pub constructor_back : (depth : ℕ) (x : Constructor) (ys : List Item) → walk_constructor (has Spelled) (DocsHave Spelled) (walk_constructor (bare S) doc_lines x) → Means P [] ys (constructor_layout depth (walk_constructor (bare S) doc_lines x)) → (u : Constructor) × Derives constructor ys u × (walk_constructor (bare P) read_docs u ≡ walk_constructor (bare S) doc_lines x)
  constructor_back depth x ys is h0 =
      let h = documented S P depth x.docs ys _ h0 in
      let k = docs_back S P x.docs h.0 h.1 ys h.2 h.3.3 in
      let h1 = h.4 in
      let h2 = h1.4 in
      let c3 = split P _ _ (joined named_type_layout (map (walk_named_type (bare S)) x.params) ++ token (codes ")") ∷ []) _ h2 in
      let q = params_back S P x.params c3.0 is.1 c3.3 in
      let h4 = c3.4 in
      (build constructor (docs_of ys, (h.0, (h1.0, (q.0, h4.0)))), by_rule constructor ys (docs_of ys, (h.0, (h1.0, (q.0, h4.0)))) (refl, (h.0 ∷ [], h.1, h.2, (refl, ap (is_token kinds.ConstructorKeyword) h.3.0, refl), (h1.0 ∷ [], h1.1, h1.2, (refl, ap (is_token kinds.OpenParen) h1.3.0, refl), (c3.0, c3.1, c3.2, q.1, (alone h4.0 h4.1 c3.1 h4.2 h4.4, ap (is_token kinds.Semicolon) h4.3.0, refl))))), (λ i. record { docs = k i; span = nowhere; params = q.2 i }))

  method_by : (depth : ℕ) (docs : List Doc) (id : Ident) (b : Bool) (func : FuncType) (ys : List Item) → let x : Method = record { docs = docs; id = id; is_static = b; ty = func } in
      walk_method (has Spelled) (DocsHave Spelled) (walk_method (bare S) doc_lines x) → Means P [] ys (method_layout depth (walk_method (bare S) doc_lines x)) → (u : Method) × Derives method ys u × (walk_method (bare P) read_docs u ≡ walk_method (bare S) doc_lines x)
  method_by depth docs id true func ys is h0 =
      let h = documented S P depth docs ys _ h0 in
      let k = docs_back S P docs h.0 h.1 ys h.2 h.3.3 in
      let w = word_back S P id _ h.0 is.1 h.3 in
      let h1 = h.4 in
      let h2 = h1.4 in
      let h3 = h2.4 in
      let c = split P _ _ (func_type_layout (walk_func_type (bare S) func)) _ h3 in
      let r = func_type_back S P func _ c.0 is.2 c.3 in
      let l = c.4 in
      (build method (docs_of ys, (w.0, (h1.0, (inl h2.0, (r.0, l.0))))), by_rule method ys (docs_of ys, (w.0, (h1.0, (inl h2.0, (r.0, l.0))))) (refl, (h.0 ∷ [], h.1, h.2, w.1, (h1.0 ∷ [], h1.1, h1.2, (refl, ap (is_token kinds.Colon) h1.3.0, refl), (h2.0 ∷ [], h2.1, h2.2, (refl, ap (is_token kinds.StaticKeyword) h2.3.0, refl), (c.0, c.1, c.2, r.1, (alone l.0 l.1 c.1 l.2 l.4, ap (is_token kinds.Semicolon) l.3.0, refl)))))), (λ i. record { docs = k i; id = w.2 i; is_static = true; ty = r.2 i }))
  method_by depth docs id false func ys is h0 =
      let h = documented S P depth docs ys _ h0 in
      let k = docs_back S P docs h.0 h.1 ys h.2 h.3.3 in
      let w = word_back S P id _ h.0 is.1 h.3 in
      let h1 = h.4 in
      let h2 = h1.4 in
      let c = split P _ _ (func_type_layout (walk_func_type (bare S) func)) _ h2 in
      let r = func_type_back S P func _ c.0 is.2 c.3 in
      let l = c.4 in
      (build method (docs_of ys, (w.0, (h1.0, (inr tt, (r.0, l.0))))), by_rule method ys (docs_of ys, (w.0, (h1.0, (inr tt, (r.0, l.0))))) (refl, (h.0 ∷ [], h.1, h.2, w.1, (h1.0 ∷ [], h1.1, h1.2, (refl, ap (is_token kinds.Colon) h1.3.0, refl), ([], h1.1, refl, refl, (c.0, c.1, c.2, r.1, (alone l.0 l.1 c.1 l.2 l.4, ap (is_token kinds.Semicolon) l.3.0, refl)))))), (λ i. record { docs = k i; id = w.2 i; is_static = false; ty = r.2 i }))

  pub method_back : (depth : ℕ) (x : Method) (ys : List Item) → walk_method (has Spelled) (DocsHave Spelled) (walk_method (bare S) doc_lines x) → Means P [] ys (method_layout depth (walk_method (bare S) doc_lines x)) → (u : Method) × Derives method ys u × (walk_method (bare P) read_docs u ≡ walk_method (bare S) doc_lines x)
  method_back depth x ys is h = method_by depth x.docs x.id x.is_static x.ty ys is h

  pub resource_method_back : (depth : ℕ) (x : ResourceMethod) (ys : List Item) → walk_resource_method (has Spelled) (DocsHave Spelled) (walk_resource_method (bare S) doc_lines x) → Means P [] ys (resource_method_layout depth (walk_resource_method (bare S) doc_lines x)) → (u : ResourceMethod) × Derives resource_method ys u × (walk_resource_method (bare P) read_docs u ≡ walk_resource_method (bare S) doc_lines x)
  unfolding resource_method_layout
  resource_method_back depth (tree.ResourceMethod.constructor x) ys is h = let r = constructor_back depth x ys is h in (tree.ResourceMethod.constructor r.0, by_rule resource_method ys (inl r.0) r.1, ap tree.ResourceMethod.constructor r.2)
  resource_method_back depth (tree.ResourceMethod.method x) ys is h = let r = method_back depth x ys is h in (tree.ResourceMethod.method r.0, by_rule resource_method ys (inr r.0) r.1, ap tree.ResourceMethod.method r.2)

  method_closed : (depth : ℕ) (x : ResourceMethod) (ds : List (List ℕ)) → pending ds (resource_method_layout depth (walk_resource_method (bare S) doc_lines x)) ≡ []
  unfolding resource_method_layout
  method_closed depth (tree.ResourceMethod.constructor x) ds =
      leaves_none (docs_layout depth (doc_lines x.docs)) _ (λ es. ends_in [] (params_layout (map (walk_named_type (bare S)) x.params)) (codes ";")) ds
  method_closed depth (tree.ResourceMethod.method x) ds =
      leaves_none (docs_layout depth (doc_lines x.docs)) _ (λ es. leaves_none (static_layout x.is_static) _ (λ fs. ends_in fs (func_type_layout (walk_func_type (bare S) x.ty)) (codes ";")) []) ds

  methods_back : (depth inner : ℕ) (xs : List ResourceMethod) (ys : List Item) → AllByRecursion (walk_resource_method (has Spelled) (DocsHave Spelled)) (map (walk_resource_method (bare S) doc_lines) xs) → Means P [] ys (spaced (resource_method_layout inner) (map (walk_resource_method (bare S) doc_lines) xs) ++ close_body depth)
      → (q : List ResourceMethod × Item) × Derives methods ys q × (map (walk_resource_method (bare P) read_docs) q.0 ≡ map (walk_resource_method (bare S) doc_lines) xs)
  methods_back depth inner xs ys is h =
      spaced_back P (walk_resource_method (bare S) doc_lines) (walk_resource_method (bare P) read_docs) (walk_resource_method (has Spelled) (DocsHave Spelled)) (resource_method_layout inner) (Derives resource_method) (Derives methods) (λ q. q.0) (close_body depth) (resource_method_back inner)
      (λ ds zs m. (([], m.0), by_rule methods zs (inl m.0) (alone m.0 m.1 zs m.2 m.4, ap (is_token kinds.CloseBrace) m.3.0, refl), refl))
      (λ zs front rest u q e d m. ((u ∷ q.0, q.1), by_rule methods zs (inr (u, q)) (front, rest, e, d, m), refl))
      (method_closed inner) xs ys is h

  pub resource_decl_back : (depth : ℕ) (x : ResourceDecl) (ys : List Item) → walk_resource_decl (has Spelled) (DocsHave Spelled) (walk_resource_decl (bare S) doc_lines x) → Means P [] ys (resource_decl_layout depth (walk_resource_decl (bare S) doc_lines x)) → (u : ResourceDecl) × Derives resource_decl ys u × (walk_resource_decl (bare P) read_docs u ≡ walk_resource_decl (bare S) doc_lines x)
  unfolding body
  resource_decl_back depth x ys is h0 =
      let h = documented S P depth x.docs ys _ h0 in
      let k = docs_back S P x.docs h.0 h.1 ys h.2 h.3.3 in
      let h1 = h.4 in
      let w = word_back S P x.id _ h1.0 is.1 h1.3 in
      let h2 = h1.4 in
      let q = methods_back depth (deeper depth) x.methods h2.1 is.2 h2.4 in
      (build resource_decl (docs_of ys, (h.0, (w.0, inr (h2.0, q.0)))), by_rule resource_decl ys (docs_of ys, (h.0, (w.0, inr (h2.0, q.0)))) (refl, (h.0 ∷ [], h.1, h.2, (refl, ap (is_token kinds.ResourceKeyword) h.3.0, refl), (h1.0 ∷ [], h1.1, h1.2, w.1, (h2.0 ∷ [], h2.1, h2.2, (refl, ap (is_token kinds.OpenBrace) h2.3.0, refl), q.1)))), (λ i. record { docs = k i; id = w.2 i; methods = q.2 i }))

  case_by : (depth : ℕ) (docs : List Doc) (id : Ident) (payload : Option Ty) (ys : List Item) → let x : VariantCase = record { docs = docs; id = id; ty = payload } in
      walk_variant_case (has Spelled) (DocsHave Spelled) (walk_variant_case (bare S) doc_lines x) → Means P [] ys (variant_case_layout depth (walk_variant_case (bare S) doc_lines x)) → (u : VariantCase) × Derives variant_case ys u × (walk_variant_case (bare P) read_docs u ≡ walk_variant_case (bare S) doc_lines x)
  case_by depth docs id None ys is h0 =
      let h = documented S P depth docs ys _ h0 in
      let k = docs_back S P docs h.0 h.1 ys h.2 h.3.3 in
      let w = word_back S P id _ h.0 is.1 h.3 in
      ((build variant_case (docs_of ys, (w.0, inr tt))), by_rule variant_case ys (docs_of ys, (w.0, inr tt)) (refl, (h.0 ∷ [], h.1, h.2, w.1, h.4)), (λ i. record { docs = k i; id = w.2 i; ty = None }))
  case_by depth docs id (Some x) ys is h0 =
      let h = documented S P depth docs ys _ h0 in
      let k = docs_back S P docs h.0 h.1 ys h.2 h.3.3 in
      let w = word_back S P id _ h.0 is.1 h.3 in
      let h1 = h.4 in
      let c = split P _ _ (ty_layout (walk_ty (bare S) x)) _ h1.4 in
      let r = ty_back S P x _ c.0 is.2 c.3 in
      let l = c.4 in (
        (build variant_case (docs_of ys, (w.0, inl (h1.0, (r.0, l.0))))),
        by_rule variant_case ys (docs_of ys, (w.0, inl (h1.0, (r.0, l.0))))
            (refl, (h.0 ∷ [], h.1, h.2, w.1, (h1.0 ∷ [], h1.1, h1.2, (refl, ap (is_token kinds.OpenParen) h1.3.0, refl), (c.0, c.1, c.2, r.1, (alone l.0 l.1 c.1 l.2 l.4, ap (is_token kinds.CloseParen) l.3.0, refl))))),
        (λ i. record { docs = k i; id = w.2 i; ty = Some (r.2 i) }),
      )

  pub variant_case_back : (depth : ℕ) (x : VariantCase) (ys : List Item) → walk_variant_case (has Spelled) (DocsHave Spelled) (walk_variant_case (bare S) doc_lines x) → Means P [] ys (variant_case_layout depth (walk_variant_case (bare S) doc_lines x)) → (u : VariantCase) × Derives variant_case ys u × (walk_variant_case (bare P) read_docs u ≡ walk_variant_case (bare S) doc_lines x)
  variant_case_back depth x ys is h = case_by depth x.docs x.id x.ty ys is h

  pub field_back : (depth : ℕ) (x : Field) (ys : List Item) → walk_field (has Spelled) (DocsHave Spelled) (walk_field (bare S) doc_lines x) → Means P [] ys (field_layout depth (walk_field (bare S) doc_lines x)) → (u : Field) × Derives field ys u × (walk_field (bare P) read_docs u ≡ walk_field (bare S) doc_lines x)
  field_back depth x ys is h0 =
      let h = documented S P depth x.docs ys _ h0 in
      let k = docs_back S P x.docs h.0 h.1 ys h.2 h.3.3 in
      let w = word_back S P x.id _ h.0 is.1 h.3 in
      let h1 = h.4 in
      let r = ty_back S P x.ty _ h1.1 is.2 h1.4 in
      let n = by_rule named_type ys (w.0, (h1.0, r.0)) (h.0 ∷ [], h.1, h.2, w.1, (h1.0 ∷ [], h1.1, h1.2, (refl, ap (is_token kinds.Colon) h1.3.0, refl), r.1)) in
      (build field (docs_of ys, build named_type (w.0, (h1.0, r.0))), by_rule field ys (docs_of ys, build named_type (w.0, (h1.0, r.0))) (refl, n), (λ i. record { docs = k i; id = w.2 i; ty = r.2 i }))

  pub flag_back : (depth : ℕ) (x : Flag) (ys : List Item) → walk_flag (has Spelled) (DocsHave Spelled) (walk_flag (bare S) doc_lines x) → Means P [] ys (flag_layout depth (walk_flag (bare S) doc_lines x)) → (u : Flag) × Derives flag ys u × (walk_flag (bare P) read_docs u ≡ walk_flag (bare S) doc_lines x)
  flag_back depth x ys is h0 =
      let h = documented S P depth x.docs ys _ h0 in
      let k = docs_back S P x.docs h.0 h.1 ys h.2 h.3.3 in
      let w = word_back S P x.id _ h.0 is.1 h.3 in
      (build flag (docs_of ys, w.0), by_rule flag ys (docs_of ys, w.0) (refl, subst (λ zs. Derives identifier zs w.0) (back (alone h.0 h.1 ys h.2 h.4)) w.1), (λ i. record { docs = k i; id = w.2 i }))

  pub enum_case_back : (depth : ℕ) (x : EnumCase) (ys : List Item) → walk_enum_case (has Spelled) (DocsHave Spelled) (walk_enum_case (bare S) doc_lines x) → Means P [] ys (enum_case_layout depth (walk_enum_case (bare S) doc_lines x)) → (u : EnumCase) × Derives enum_case ys u × (walk_enum_case (bare P) read_docs u ≡ walk_enum_case (bare S) doc_lines x)
  enum_case_back depth x ys is h0 =
      let h = documented S P depth x.docs ys _ h0 in
      let k = docs_back S P x.docs h.0 h.1 ys h.2 h.3.3 in
      let w = word_back S P x.id _ h.0 is.1 h.3 in
      (build enum_case (docs_of ys, w.0), by_rule enum_case ys (docs_of ys, w.0) (refl, subst (λ zs. Derives identifier zs w.0) (back (alone h.0 h.1 ys h.2 h.4)) w.1), (λ i. record { docs = k i; id = w.2 i }))

  variant_case_rows : (depth inner : ℕ) (x : VariantCase) (xs : List VariantCase) (ys : List Item) → AllByRecursion (walk_variant_case (has Spelled) (DocsHave Spelled)) (map (walk_variant_case (bare S) doc_lines) (x ∷ xs))
      → Means P [] ys (flat_map (λ y. variant_case_layout inner y ++ token (codes ",") ∷ newline ∷ []) (map (walk_variant_case (bare S) doc_lines) (x ∷ xs)) ++ close_body depth)
      → (front : List Item) × (rest : List Item) × (u : VariantCase) × (q : List VariantCase × Item) × (ys ≡ front ++ rest) × Derives variant_case front u × Derives (more_items cases) rest q × (walk_variant_case (bare P) read_docs u ≡ walk_variant_case (bare S) doc_lines x) × (map (walk_variant_case (bare P) read_docs) q.0 ≡ map (walk_variant_case (bare S) doc_lines) xs)
  variant_case_rows depth inner x xs ys is h =
      rows_first P (walk_variant_case (bare S) doc_lines) (walk_variant_case (bare P) read_docs) (walk_variant_case (has Spelled) (DocsHave Spelled)) (variant_case_layout inner) (Derives variant_case) (Derives (list_items cases)) (λ q. q.0) (close_body depth) (variant_case_back inner)
      (λ ds zs m. (([], m.0), by_rule (list_items cases) zs (inl m.0) (alone m.0 m.1 zs m.2 m.4, ap (is_token kinds.CloseBrace) m.3.0, refl), refl))
      (Derives (more_items cases))
      (λ ds zs m. (([], m.0), by_rule (more_items cases) zs (inl m.0) (alone m.0 m.1 zs m.2 m.4, ap (is_token kinds.CloseBrace) m.3.0, refl), refl))
      (λ zs front rest u q e d m. ((u ∷ q.0, q.1), by_rule (list_items cases) zs (inr (u, q)) (front, rest, e, d, m), refl))
      (λ c zs rest q e t l. (q, by_rule (more_items cases) zs (inr (c, q)) (c ∷ [], rest, e, (refl, t, refl), l), refl))
      x xs ys is h

  variant_decl_by : (depth : ℕ) (docs : List Doc) (id : Ident) (xs : List VariantCase) (ys : List Item) → let x : VariantDecl = record { docs = docs; id = id; cases = xs } in
      walk_variant_decl (has Spelled) (DocsHave Spelled) (walk_variant_decl (bare S) doc_lines x) → Means P [] ys (variant_decl_layout depth (walk_variant_decl (bare S) doc_lines x)) → (u : VariantDecl) × Derives variant_decl ys u × (walk_variant_decl (bare P) read_docs u ≡ walk_variant_decl (bare S) doc_lines x)
  unfolding rows
  variant_decl_by depth docs id [] ys is h0 = absurd is.1
  variant_decl_by depth docs id (x ∷ xs) ys is h0 =
      let h = documented S P depth docs ys _ h0 in
      let k = docs_back S P docs h.0 h.1 ys h.2 h.3.3 in
      let h1 = h.4 in
      let w = word_back S P id _ h1.0 is.0.1 h1.3 in
      let h2 = h1.4 in
      let q = variant_case_rows depth (deeper depth) x xs h2.1 is.0.2 h2.4 in (
        build variant_decl (docs_of ys, (h.0, (w.0, (h2.0, (q.2, q.3))))),
        by_rule variant_decl ys (docs_of ys, (h.0, (w.0, (h2.0, (q.2, q.3)))))
            (refl, (h.0 ∷ [], h.1, h.2, (refl, ap (is_token kinds.VariantKeyword) h.3.0, refl), (h1.0 ∷ [], h1.1, h1.2, w.1, (h2.0 ∷ [], h2.1, h2.2, (refl, ap (is_token kinds.OpenBrace) h2.3.0, refl), (q.0, q.1, q.4, q.5, q.6))))),
        (λ i. record { docs = k i; id = w.2 i; cases = q.7 i ∷ q.8 i }),
      )

  pub variant_decl_back : (depth : ℕ) (x : VariantDecl) (ys : List Item) → walk_variant_decl (has Spelled) (DocsHave Spelled) (walk_variant_decl (bare S) doc_lines x) → Means P [] ys (variant_decl_layout depth (walk_variant_decl (bare S) doc_lines x)) → (u : VariantDecl) × Derives variant_decl ys u × (walk_variant_decl (bare P) read_docs u ≡ walk_variant_decl (bare S) doc_lines x)
  variant_decl_back depth x ys is h = variant_decl_by depth x.docs x.id x.cases ys is h

  field_rows : (depth inner : ℕ) (x : Field) (xs : List Field) (ys : List Item) → AllByRecursion (walk_field (has Spelled) (DocsHave Spelled)) (map (walk_field (bare S) doc_lines) (x ∷ xs))
      → Means P [] ys (flat_map (λ y. field_layout inner y ++ token (codes ",") ∷ newline ∷ []) (map (walk_field (bare S) doc_lines) (x ∷ xs)) ++ close_body depth)
      → (front : List Item) × (rest : List Item) × (u : Field) × (q : List Field × Item) × (ys ≡ front ++ rest) × Derives field front u × Derives (more_items fields) rest q × (walk_field (bare P) read_docs u ≡ walk_field (bare S) doc_lines x) × (map (walk_field (bare P) read_docs) q.0 ≡ map (walk_field (bare S) doc_lines) xs)
  field_rows depth inner x xs ys is h =
      rows_first P (walk_field (bare S) doc_lines) (walk_field (bare P) read_docs) (walk_field (has Spelled) (DocsHave Spelled)) (field_layout inner) (Derives field) (Derives (list_items fields)) (λ q. q.0) (close_body depth) (field_back inner)
      (λ ds zs m. (([], m.0), by_rule (list_items fields) zs (inl m.0) (alone m.0 m.1 zs m.2 m.4, ap (is_token kinds.CloseBrace) m.3.0, refl), refl))
      (Derives (more_items fields))
      (λ ds zs m. (([], m.0), by_rule (more_items fields) zs (inl m.0) (alone m.0 m.1 zs m.2 m.4, ap (is_token kinds.CloseBrace) m.3.0, refl), refl))
      (λ zs front rest u q e d m. ((u ∷ q.0, q.1), by_rule (list_items fields) zs (inr (u, q)) (front, rest, e, d, m), refl))
      (λ c zs rest q e t l. (q, by_rule (more_items fields) zs (inr (c, q)) (c ∷ [], rest, e, (refl, t, refl), l), refl))
      x xs ys is h

  record_decl_by : (depth : ℕ) (docs : List Doc) (id : Ident) (xs : List Field) (ys : List Item) → let x : RecordDecl = record { docs = docs; id = id; fields = xs } in
      walk_record_decl (has Spelled) (DocsHave Spelled) (walk_record_decl (bare S) doc_lines x) → Means P [] ys (record_decl_layout depth (walk_record_decl (bare S) doc_lines x)) → (u : RecordDecl) × Derives record_decl ys u × (walk_record_decl (bare P) read_docs u ≡ walk_record_decl (bare S) doc_lines x)
  unfolding rows
  record_decl_by depth docs id [] ys is h0 = absurd is.1
  record_decl_by depth docs id (x ∷ xs) ys is h0 =
      let h = documented S P depth docs ys _ h0 in
      let k = docs_back S P docs h.0 h.1 ys h.2 h.3.3 in
      let h1 = h.4 in
      let w = word_back S P id _ h1.0 is.0.1 h1.3 in
      let h2 = h1.4 in
      let q = field_rows depth (deeper depth) x xs h2.1 is.0.2 h2.4 in (
        build record_decl (docs_of ys, (h.0, (w.0, (h2.0, (q.2, q.3))))),
        by_rule record_decl ys (docs_of ys, (h.0, (w.0, (h2.0, (q.2, q.3)))))
            (refl, (h.0 ∷ [], h.1, h.2, (refl, ap (is_token kinds.RecordKeyword) h.3.0, refl), (h1.0 ∷ [], h1.1, h1.2, w.1, (h2.0 ∷ [], h2.1, h2.2, (refl, ap (is_token kinds.OpenBrace) h2.3.0, refl), (q.0, q.1, q.4, q.5, q.6))))),
        (λ i. record { docs = k i; id = w.2 i; fields = q.7 i ∷ q.8 i }),
      )

  pub record_decl_back : (depth : ℕ) (x : RecordDecl) (ys : List Item) → walk_record_decl (has Spelled) (DocsHave Spelled) (walk_record_decl (bare S) doc_lines x) → Means P [] ys (record_decl_layout depth (walk_record_decl (bare S) doc_lines x)) → (u : RecordDecl) × Derives record_decl ys u × (walk_record_decl (bare P) read_docs u ≡ walk_record_decl (bare S) doc_lines x)
  record_decl_back depth x ys is h = record_decl_by depth x.docs x.id x.fields ys is h

  flag_rows : (depth inner : ℕ) (x : Flag) (xs : List Flag) (ys : List Item) → AllByRecursion (walk_flag (has Spelled) (DocsHave Spelled)) (map (walk_flag (bare S) doc_lines) (x ∷ xs))
      → Means P [] ys (flat_map (λ y. flag_layout inner y ++ token (codes ",") ∷ newline ∷ []) (map (walk_flag (bare S) doc_lines) (x ∷ xs)) ++ close_body depth)
      → (front : List Item) × (rest : List Item) × (u : Flag) × (q : List Flag × Item) × (ys ≡ front ++ rest) × Derives flag front u × Derives (more_items flags) rest q × (walk_flag (bare P) read_docs u ≡ walk_flag (bare S) doc_lines x) × (map (walk_flag (bare P) read_docs) q.0 ≡ map (walk_flag (bare S) doc_lines) xs)
  flag_rows depth inner x xs ys is h =
      rows_first P (walk_flag (bare S) doc_lines) (walk_flag (bare P) read_docs) (walk_flag (has Spelled) (DocsHave Spelled)) (flag_layout inner) (Derives flag) (Derives (list_items flags)) (λ q. q.0) (close_body depth) (flag_back inner)
      (λ ds zs m. (([], m.0), by_rule (list_items flags) zs (inl m.0) (alone m.0 m.1 zs m.2 m.4, ap (is_token kinds.CloseBrace) m.3.0, refl), refl))
      (Derives (more_items flags))
      (λ ds zs m. (([], m.0), by_rule (more_items flags) zs (inl m.0) (alone m.0 m.1 zs m.2 m.4, ap (is_token kinds.CloseBrace) m.3.0, refl), refl))
      (λ zs front rest u q e d m. ((u ∷ q.0, q.1), by_rule (list_items flags) zs (inr (u, q)) (front, rest, e, d, m), refl))
      (λ c zs rest q e t l. (q, by_rule (more_items flags) zs (inr (c, q)) (c ∷ [], rest, e, (refl, t, refl), l), refl))
      x xs ys is h

  flags_decl_by : (depth : ℕ) (docs : List Doc) (id : Ident) (xs : List Flag) (ys : List Item) → let x : FlagsDecl = record { docs = docs; id = id; flags = xs } in
      walk_flags_decl (has Spelled) (DocsHave Spelled) (walk_flags_decl (bare S) doc_lines x) → Means P [] ys (flags_decl_layout depth (walk_flags_decl (bare S) doc_lines x)) → (u : FlagsDecl) × Derives flags_decl ys u × (walk_flags_decl (bare P) read_docs u ≡ walk_flags_decl (bare S) doc_lines x)
  unfolding rows
  flags_decl_by depth docs id [] ys is h0 = absurd is.1
  flags_decl_by depth docs id (x ∷ xs) ys is h0 =
      let h = documented S P depth docs ys _ h0 in
      let k = docs_back S P docs h.0 h.1 ys h.2 h.3.3 in
      let h1 = h.4 in
      let w = word_back S P id _ h1.0 is.0.1 h1.3 in
      let h2 = h1.4 in
      let q = flag_rows depth (deeper depth) x xs h2.1 is.0.2 h2.4 in (
        build flags_decl (docs_of ys, (h.0, (w.0, (h2.0, (q.2, q.3))))),
        by_rule flags_decl ys (docs_of ys, (h.0, (w.0, (h2.0, (q.2, q.3)))))
            (refl, (h.0 ∷ [], h.1, h.2, (refl, ap (is_token kinds.FlagsKeyword) h.3.0, refl), (h1.0 ∷ [], h1.1, h1.2, w.1, (h2.0 ∷ [], h2.1, h2.2, (refl, ap (is_token kinds.OpenBrace) h2.3.0, refl), (q.0, q.1, q.4, q.5, q.6))))),
        (λ i. record { docs = k i; id = w.2 i; flags = q.7 i ∷ q.8 i }),
      )

  pub flags_decl_back : (depth : ℕ) (x : FlagsDecl) (ys : List Item) → walk_flags_decl (has Spelled) (DocsHave Spelled) (walk_flags_decl (bare S) doc_lines x) → Means P [] ys (flags_decl_layout depth (walk_flags_decl (bare S) doc_lines x)) → (u : FlagsDecl) × Derives flags_decl ys u × (walk_flags_decl (bare P) read_docs u ≡ walk_flags_decl (bare S) doc_lines x)
  flags_decl_back depth x ys is h = flags_decl_by depth x.docs x.id x.flags ys is h

  enum_case_rows : (depth inner : ℕ) (x : EnumCase) (xs : List EnumCase) (ys : List Item) → AllByRecursion (walk_enum_case (has Spelled) (DocsHave Spelled)) (map (walk_enum_case (bare S) doc_lines) (x ∷ xs))
      → Means P [] ys (flat_map (λ y. enum_case_layout inner y ++ token (codes ",") ∷ newline ∷ []) (map (walk_enum_case (bare S) doc_lines) (x ∷ xs)) ++ close_body depth)
      → (front : List Item) × (rest : List Item) × (u : EnumCase) × (q : List EnumCase × Item) × (ys ≡ front ++ rest) × Derives enum_case front u × Derives (more_items enum_cases) rest q × (walk_enum_case (bare P) read_docs u ≡ walk_enum_case (bare S) doc_lines x) × (map (walk_enum_case (bare P) read_docs) q.0 ≡ map (walk_enum_case (bare S) doc_lines) xs)
  enum_case_rows depth inner x xs ys is h =
      rows_first P (walk_enum_case (bare S) doc_lines) (walk_enum_case (bare P) read_docs) (walk_enum_case (has Spelled) (DocsHave Spelled)) (enum_case_layout inner) (Derives enum_case) (Derives (list_items enum_cases)) (λ q. q.0) (close_body depth) (enum_case_back inner)
      (λ ds zs m. (([], m.0), by_rule (list_items enum_cases) zs (inl m.0) (alone m.0 m.1 zs m.2 m.4, ap (is_token kinds.CloseBrace) m.3.0, refl), refl))
      (Derives (more_items enum_cases))
      (λ ds zs m. (([], m.0), by_rule (more_items enum_cases) zs (inl m.0) (alone m.0 m.1 zs m.2 m.4, ap (is_token kinds.CloseBrace) m.3.0, refl), refl))
      (λ zs front rest u q e d m. ((u ∷ q.0, q.1), by_rule (list_items enum_cases) zs (inr (u, q)) (front, rest, e, d, m), refl))
      (λ c zs rest q e t l. (q, by_rule (more_items enum_cases) zs (inr (c, q)) (c ∷ [], rest, e, (refl, t, refl), l), refl))
      x xs ys is h

  enum_decl_by : (depth : ℕ) (docs : List Doc) (id : Ident) (xs : List EnumCase) (ys : List Item) → let x : EnumDecl = record { docs = docs; id = id; cases = xs } in
      walk_enum_decl (has Spelled) (DocsHave Spelled) (walk_enum_decl (bare S) doc_lines x) → Means P [] ys (enum_decl_layout depth (walk_enum_decl (bare S) doc_lines x)) → (u : EnumDecl) × Derives enum_decl ys u × (walk_enum_decl (bare P) read_docs u ≡ walk_enum_decl (bare S) doc_lines x)
  unfolding rows
  enum_decl_by depth docs id [] ys is h0 = absurd is.1
  enum_decl_by depth docs id (x ∷ xs) ys is h0 =
      let h = documented S P depth docs ys _ h0 in
      let k = docs_back S P docs h.0 h.1 ys h.2 h.3.3 in
      let h1 = h.4 in
      let w = word_back S P id _ h1.0 is.0.1 h1.3 in
      let h2 = h1.4 in
      let q = enum_case_rows depth (deeper depth) x xs h2.1 is.0.2 h2.4 in (
        build enum_decl (docs_of ys, (h.0, (w.0, (h2.0, (q.2, q.3))))),
        by_rule enum_decl ys (docs_of ys, (h.0, (w.0, (h2.0, (q.2, q.3)))))
            (refl, (h.0 ∷ [], h.1, h.2, (refl, ap (is_token kinds.EnumKeyword) h.3.0, refl), (h1.0 ∷ [], h1.1, h1.2, w.1, (h2.0 ∷ [], h2.1, h2.2, (refl, ap (is_token kinds.OpenBrace) h2.3.0, refl), (q.0, q.1, q.4, q.5, q.6))))),
        (λ i. record { docs = k i; id = w.2 i; cases = q.7 i ∷ q.8 i }),
      )

  pub enum_decl_back : (depth : ℕ) (x : EnumDecl) (ys : List Item) → walk_enum_decl (has Spelled) (DocsHave Spelled) (walk_enum_decl (bare S) doc_lines x) → Means P [] ys (enum_decl_layout depth (walk_enum_decl (bare S) doc_lines x)) → (u : EnumDecl) × Derives enum_decl ys u × (walk_enum_decl (bare P) read_docs u ≡ walk_enum_decl (bare S) doc_lines x)
  enum_decl_back depth x ys is h = enum_decl_by depth x.docs x.id x.cases ys is h

  alias_kind_back : (x : TypeAliasKind) (ds : List (List ℕ)) (ys : List Item) → walk_type_alias_kind (has Spelled) (walk_type_alias_kind (bare S) x) → Means P ds ys (alias_kind_layout (walk_type_alias_kind (bare S) x))
      → (u : TypeAliasKind) × Derives type_alias_kind ys u × (walk_type_alias_kind (bare P) u ≡ walk_type_alias_kind (bare S) x)
  unfolding alias_kind_layout
  alias_kind_back (tree.TypeAliasKind.func x) ds ys is h = let r = func_type_back S P x ds ys is h in (tree.TypeAliasKind.func r.0, by_rule type_alias_kind ys (inl r.0) r.1, ap tree.TypeAliasKind.func r.2)
  alias_kind_back (tree.TypeAliasKind.ty x) ds ys is h = let r = ty_back S P x ds ys is h in (tree.TypeAliasKind.ty r.0, by_rule type_alias_kind ys (inr r.0) r.1, ap tree.TypeAliasKind.ty r.2)

  pub type_alias_back : (depth : ℕ) (x : TypeAlias) (ys : List Item) → walk_type_alias (has Spelled) (DocsHave Spelled) (walk_type_alias (bare S) doc_lines x) → Means P [] ys (type_alias_layout depth (walk_type_alias (bare S) doc_lines x)) → (u : TypeAlias) × Derives type_alias ys u × (walk_type_alias (bare P) read_docs u ≡ walk_type_alias (bare S) doc_lines x)
  type_alias_back depth x ys is h0 =
      let h = documented S P depth x.docs ys _ h0 in
      let k = docs_back S P x.docs h.0 h.1 ys h.2 h.3.3 in
      let h1 = h.4 in
      let w = word_back S P x.id _ h1.0 is.1 h1.3 in
      let h2 = h1.4 in
      let h3 = h2.4 in
      let c4 = split P _ _ (alias_kind_layout (walk_type_alias_kind (bare S) x.kind)) _ h3 in
      let r = alias_kind_back x.kind _ c4.0 is.2 c4.3 in
      let h5 = c4.4 in
      (build type_alias (docs_of ys, (h.0, (w.0, (h2.0, (r.0, h5.0))))), by_rule type_alias ys (docs_of ys, (h.0, (w.0, (h2.0, (r.0, h5.0))))) (refl, (h.0 ∷ [], h.1, h.2, (refl, ap (is_token kinds.TypeKeyword) h.3.0, refl), (h1.0 ∷ [], h1.1, h1.2, w.1, (h2.0 ∷ [], h2.1, h2.2, (refl, ap (is_token kinds.Equals) h2.3.0, refl), (c4.0, c4.1, c4.2, r.1, (alone h5.0 h5.1 c4.1 h5.2 h5.4, ap (is_token kinds.Semicolon) h5.3.0, refl)))))), (λ i. record { docs = k i; id = w.2 i; kind = r.2 i }))

  pub type_decl_back : (depth : ℕ) (x : TypeDecl) (ys : List Item) → walk_type_decl (has Spelled) (DocsHave Spelled) (walk_type_decl (bare S) doc_lines x) → Means P [] ys (type_decl_layout depth (walk_type_decl (bare S) doc_lines x)) → (u : TypeDecl) × Derives type_decl ys u × (walk_type_decl (bare P) read_docs u ≡ walk_type_decl (bare S) doc_lines x)
  unfolding type_decl_layout
  type_decl_back depth (tree.TypeDecl.variant x) ys is h = let r = variant_decl_back depth x ys is h in (tree.TypeDecl.variant r.0, by_rule type_decl ys (inl r.0) r.1, ap tree.TypeDecl.variant r.2)
  type_decl_back depth (tree.TypeDecl.record_decl x) ys is h = let r = record_decl_back depth x ys is h in (tree.TypeDecl.record_decl r.0, by_rule type_decl ys (inr (inl r.0)) r.1, ap tree.TypeDecl.record_decl r.2)
  type_decl_back depth (tree.TypeDecl.flags x) ys is h = let r = flags_decl_back depth x ys is h in (tree.TypeDecl.flags r.0, by_rule type_decl ys (inr (inr (inl r.0))) r.1, ap tree.TypeDecl.flags r.2)
  type_decl_back depth (tree.TypeDecl.enum x) ys is h = let r = enum_decl_back depth x ys is h in (tree.TypeDecl.enum r.0, by_rule type_decl ys (inr (inr (inr (inl r.0)))) r.1, ap tree.TypeDecl.enum r.2)
  type_decl_back depth (tree.TypeDecl.alias x) ys is h = let r = type_alias_back depth x ys is h in (tree.TypeDecl.alias r.0, by_rule type_decl ys (inr (inr (inr (inr r.0)))) r.1, ap tree.TypeDecl.alias r.2)

  pub item_type_decl_back : (depth : ℕ) (x : ItemTypeDecl) (ys : List Item) → walk_item_type_decl (has Spelled) (DocsHave Spelled) (walk_item_type_decl (bare S) doc_lines x) → Means P [] ys (item_type_decl_layout depth (walk_item_type_decl (bare S) doc_lines x)) → (u : ItemTypeDecl) × Derives item_type_decl ys u × (walk_item_type_decl (bare P) read_docs u ≡ walk_item_type_decl (bare S) doc_lines x)
  unfolding item_type_decl_layout
  item_type_decl_back depth (tree.ItemTypeDecl.resource x) ys is h = let r = resource_decl_back depth x ys is h in (tree.ItemTypeDecl.resource r.0, by_rule item_type_decl ys (inl r.0) r.1, ap tree.ItemTypeDecl.resource r.2)
  item_type_decl_back depth (tree.ItemTypeDecl.variant x) ys is h = let r = variant_decl_back depth x ys is h in (tree.ItemTypeDecl.variant r.0, by_rule item_type_decl ys (inr (inl r.0)) r.1, ap tree.ItemTypeDecl.variant r.2)
  item_type_decl_back depth (tree.ItemTypeDecl.record_decl x) ys is h = let r = record_decl_back depth x ys is h in (tree.ItemTypeDecl.record_decl r.0, by_rule item_type_decl ys (inr (inr (inl r.0))) r.1, ap tree.ItemTypeDecl.record_decl r.2)
  item_type_decl_back depth (tree.ItemTypeDecl.flags x) ys is h = let r = flags_decl_back depth x ys is h in (tree.ItemTypeDecl.flags r.0, by_rule item_type_decl ys (inr (inr (inr (inl r.0)))) r.1, ap tree.ItemTypeDecl.flags r.2)
  item_type_decl_back depth (tree.ItemTypeDecl.enum x) ys is h = let r = enum_decl_back depth x ys is h in (tree.ItemTypeDecl.enum r.0, by_rule item_type_decl ys (inr (inr (inr (inr (inl r.0))))) r.1, ap tree.ItemTypeDecl.enum r.2)
  item_type_decl_back depth (tree.ItemTypeDecl.alias x) ys is h = let r = type_alias_back depth x ys is h in (tree.ItemTypeDecl.alias r.0, by_rule item_type_decl ys (inr (inr (inr (inr (inr r.0))))) r.1, ap tree.ItemTypeDecl.alias r.2)

  rows_decl_closed : {X : Type 0} (f : ℕ → X → List Piece) (depth : ℕ) (docs : List Doc) (keyword name : List ℕ) (xs : List X) (ds : List (List ℕ))
      → pending ds (docs_layout depth (doc_lines docs) ++ (line depth ∷ token keyword ∷ space ∷ token name ∷ rows f depth xs)) ≡ []
  rows_decl_closed f depth docs keyword name xs ds = leaves_none (docs_layout depth (doc_lines docs)) _ (λ es. rows_closed f depth xs []) ds

  alias_closed : (depth : ℕ) (x : TypeAlias) (ds : List (List ℕ)) → pending ds (type_alias_layout depth (walk_type_alias (bare S) doc_lines x)) ≡ []
  alias_closed depth x ds = leaves_none (docs_layout depth (doc_lines x.docs)) _ (λ es. ends_in [] (alias_kind_layout (walk_type_alias_kind (bare S) x.kind)) (codes ";")) ds

  pub type_decl_closed : (depth : ℕ) (x : TypeDecl) (ds : List (List ℕ)) → pending ds (type_decl_layout depth (walk_type_decl (bare S) doc_lines x)) ≡ []
  unfolding type_decl_layout
  type_decl_closed depth (tree.TypeDecl.variant x) ds = rows_decl_closed variant_case_layout depth x.docs (codes "variant") (slice S x.id.span) (map (walk_variant_case (bare S) doc_lines) x.cases) ds
  type_decl_closed depth (tree.TypeDecl.record_decl x) ds = rows_decl_closed field_layout depth x.docs (codes "record") (slice S x.id.span) (map (walk_field (bare S) doc_lines) x.fields) ds
  type_decl_closed depth (tree.TypeDecl.flags x) ds = rows_decl_closed flag_layout depth x.docs (codes "flags") (slice S x.id.span) (map (walk_flag (bare S) doc_lines) x.flags) ds
  type_decl_closed depth (tree.TypeDecl.enum x) ds = rows_decl_closed enum_case_layout depth x.docs (codes "enum") (slice S x.id.span) (map (walk_enum_case (bare S) doc_lines) x.cases) ds
  type_decl_closed depth (tree.TypeDecl.alias x) ds = alias_closed depth x ds

  pub item_type_decl_closed : (depth : ℕ) (x : ItemTypeDecl) (ds : List (List ℕ)) → pending ds (item_type_decl_layout depth (walk_item_type_decl (bare S) doc_lines x)) ≡ []
  unfolding item_type_decl_layout
  item_type_decl_closed depth (tree.ItemTypeDecl.resource x) ds = leaves_none (docs_layout depth (doc_lines x.docs)) _ (λ es. body_closed resource_method_layout depth (map (walk_resource_method (bare S) doc_lines) x.methods) []) ds
  item_type_decl_closed depth (tree.ItemTypeDecl.variant x) ds = rows_decl_closed variant_case_layout depth x.docs (codes "variant") (slice S x.id.span) (map (walk_variant_case (bare S) doc_lines) x.cases) ds
  item_type_decl_closed depth (tree.ItemTypeDecl.record_decl x) ds = rows_decl_closed field_layout depth x.docs (codes "record") (slice S x.id.span) (map (walk_field (bare S) doc_lines) x.fields) ds
  item_type_decl_closed depth (tree.ItemTypeDecl.flags x) ds = rows_decl_closed flag_layout depth x.docs (codes "flags") (slice S x.id.span) (map (walk_flag (bare S) doc_lines) x.flags) ds
  item_type_decl_closed depth (tree.ItemTypeDecl.enum x) ds = rows_decl_closed enum_case_layout depth x.docs (codes "enum") (slice S x.id.span) (map (walk_enum_case (bare S) doc_lines) x.cases) ds
  item_type_decl_closed depth (tree.ItemTypeDecl.alias x) ds = alias_closed depth x ds
