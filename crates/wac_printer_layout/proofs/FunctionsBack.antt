-- Functions are read back.
use Rattle.std.proofs.Common.{◌≡◌, ℕ, Bool, true, false, List, [], ◌∷◌, ◌++◌, map, sym as back, refl, ap, subst, inl, inr, codes}
use Rattle.wac_ast_grammar.specs.Walk.{walk_func_type, walk_func_type_ref, walk_named_type, walk_result_list}
use Rattle.wac_printer_layout.specs.Bare.{bare}
use Rattle.wac_printer_layout.proofs.Common.{◌⊎◌, AllByRecursion, Item, is_token, Ident, NamedType, ResultList, FuncType, FuncTypeRef, by_rule}
use Rattle.wac_lexer.specs.declared.token.Token.TheVariants as kinds
use Rattle.wac_ast_grammar.specs.Tree as tree
use Rattle.wac_ast_grammar.specs.Grammar.{token as one_token, sym as one_sym, then, optional, build, is_there, results_of, DerivesIn, Derives, identifier, named_type, params, result_list, func_type, func_type_ref, list_items, more_items}
use Rattle.wac_printer_layout.specs.Printed.{token}
use Rattle.wac_printer_layout.specs.Parts.{joined}
use Rattle.wac_printer_layout.specs.TypeLayout.{named_type_layout, results_layout, async_layout, func_type_layout, func_type_ref_layout}
use Rattle.wac_printer_layout.specs.Texts.{Spelled, has}
use Rattle.wac_printer_layout.proofs.Means.{Means, split}
use Rattle.wac_printer_layout.proofs.NamesBack.{alone, word_back}
use Rattle.wac_printer_layout.proofs.TypesBack.{ty_back}
use Rattle.wac_printer_layout.proofs.ListsBack.{joined_back, joined_first}

module _ (S P : List ℕ) where
  pub named_type_back : (x : NamedType) (ys : List Item) → walk_named_type (has Spelled) (walk_named_type (bare S) x) → Means P [] ys (named_type_layout (walk_named_type (bare S) x))
      → (u : NamedType) × Derives named_type ys u × (walk_named_type (bare P) u ≡ walk_named_type (bare S) x)
  named_type_back x ys is h =
      let w = word_back S P x.id _ h.0 is.0 h.3 in
      let h1 = h.4 in
      let h2 = h1.4 in
      let r = ty_back S P x.ty _ _ is.1 h2 in
      (build named_type (w.0, (h1.0, r.0)), by_rule named_type ys (w.0, (h1.0, r.0)) (h.0 ∷ [], h.1, h.2, w.1, (h1.0 ∷ [], h1.1, h1.2, (refl, ap (is_token kinds.Colon) h1.3.0, refl), r.1)), (λ i. record { id = w.2 i; ty = r.2 i }))

  params_nil : (ds : List (List ℕ)) (ys : List Item) → Means P ds ys (token (codes ")") ∷ []) → (q : List NamedType × Item) × Derives (list_items params) ys q × (map (walk_named_type (bare P)) q.0 ≡ [])
  params_nil ds ys h = (([], h.0), by_rule (list_items params) ys (inl h.0) (alone h.0 h.1 ys h.2 h.4, ap (is_token kinds.CloseParen) h.3.0, refl), refl)

  more_params_nil : (ds : List (List ℕ)) (ys : List Item) → Means P ds ys (token (codes ")") ∷ []) → (q : List NamedType × Item) × Derives (more_items params) ys q × (map (walk_named_type (bare P)) q.0 ≡ [])
  more_params_nil ds ys h = (([], h.0), by_rule (more_items params) ys (inl h.0) (alone h.0 h.1 ys h.2 h.4, ap (is_token kinds.CloseParen) h.3.0, refl), refl)

  pub params_back : (xs : List NamedType) (ys : List Item) → AllByRecursion (walk_named_type (has Spelled)) (map (walk_named_type (bare S)) xs) → Means P [] ys (joined named_type_layout (map (walk_named_type (bare S)) xs) ++ token (codes ")") ∷ [])
      → (q : List NamedType × Item) × Derives (list_items params) ys q × (map (walk_named_type (bare P)) q.0 ≡ map (walk_named_type (bare S)) xs)
  params_back xs ys is h =
      joined_back P (walk_named_type (bare S)) (walk_named_type (bare P)) (walk_named_type (has Spelled)) named_type_layout (Derives named_type) (Derives (list_items params)) (λ q. q.0) (token (codes ")") ∷ []) named_type_back params_nil
      (Derives (more_items params)) more_params_nil
      (λ zs front rest u q e d m. ((u ∷ q.0, q.1), by_rule (list_items params) zs (inr (u, q)) (front, rest, e, d, m), refl))
      (λ c zs rest q e t l. (q, by_rule (more_items params) zs (inr (c, q)) (c ∷ [], rest, e, (refl, t, refl), l), refl))
      xs [] ys is h

  -- at least one name
  names_back : (x : NamedType) (xs : List NamedType) (ys : List Item) → AllByRecursion (walk_named_type (has Spelled)) (map (walk_named_type (bare S)) (x ∷ xs)) → Means P [] ys (joined named_type_layout (map (walk_named_type (bare S)) (x ∷ xs)) ++ token (codes ")") ∷ [])
      → (front : List Item) × (rest : List Item) × (u : NamedType) × (q : List NamedType × Item) × (ys ≡ front ++ rest) × Derives named_type front u × Derives (more_items params) rest q × (walk_named_type (bare P) u ≡ walk_named_type (bare S) x) × (map (walk_named_type (bare P)) q.0 ≡ map (walk_named_type (bare S)) xs)
  names_back x xs ys is h =
      joined_first P (walk_named_type (bare S)) (walk_named_type (bare P)) (walk_named_type (has Spelled)) named_type_layout (Derives named_type) (Derives (list_items params)) (λ q. q.0) (token (codes ")") ∷ []) named_type_back params_nil
      (Derives (more_items params)) more_params_nil
      (λ zs front rest u q e d m. ((u ∷ q.0, q.1), by_rule (list_items params) zs (inr (u, q)) (front, rest, e, d, m), refl))
      (λ c zs rest q e t l. (q, by_rule (more_items params) zs (inr (c, q)) (c ∷ [], rest, e, (refl, t, refl), l), refl))
      x xs ys is h

  results_back : (x : ResultList) (ds : List (List ℕ)) (ys : List Item) → walk_result_list (has Spelled) (walk_result_list (bare S) x) → Means P ds ys (results_layout (walk_result_list (bare S) x))
      → (p : (Item × ResultList) ⊎ Unit {0}) × DerivesIn Derives (optional (then (one_token kinds.Arrow) (one_sym result_list))) ys p × (walk_result_list (bare P) (results_of p) ≡ walk_result_list (bare S) x)
  results_back tree.ResultList.empty ds ys is h = (inr tt, h, refl)
  results_back (tree.ResultList.scalar x) ds ys is h =
      let r = ty_back S P x _ h.1 is h.4 in
      (inl (h.0, tree.ResultList.scalar r.0), (h.0 ∷ [], h.1, h.2, (refl, ap (is_token kinds.Arrow) h.3.0, refl), by_rule result_list h.1 (inr (inl r.0)) r.1), ap tree.ResultList.scalar r.2)
  results_back (tree.ResultList.named []) ds ys is h = absurd is.1
  results_back (tree.ResultList.named (x ∷ xs)) ds ys is h =
      let h1 = h.4 in
      let f = names_back x xs h1.1 is.0 h1.4 in
      (inl (h.0, tree.ResultList.named (f.2 ∷ f.3.0)), (h.0 ∷ [], h.1, h.2, (refl, ap (is_token kinds.Arrow) h.3.0, refl), by_rule result_list h.1 (inl (h1.0, (f.2, f.3))) (h1.0 ∷ [], h1.1, h1.2, (refl, ap (is_token kinds.OpenParen) h1.3.0, refl), (f.0, f.1, f.4, f.5, f.6))), (λ i. tree.ResultList.named (f.7 i ∷ f.8 i)))

  async_back : (b : Bool) (ds : List (List ℕ)) (ys : List Item) → Means P ds ys (async_layout b) → (p : Item ⊎ Unit {0}) × DerivesIn Derives (optional (one_token kinds.AsyncKeyword)) ys p × (is_there p ≡ b)
  async_back true ds ys h = (inl h.0, (alone h.0 h.1 ys h.2 h.4, ap (is_token kinds.AsyncKeyword) h.3.0, refl), refl)
  async_back false ds ys h = (inr tt, h, refl)

  pub func_type_back : (x : FuncType) (ds : List (List ℕ)) (ys : List Item) → walk_func_type (has Spelled) (walk_func_type (bare S) x) → Means P ds ys (func_type_layout (walk_func_type (bare S) x))
      → (u : FuncType) × Derives func_type ys u × (walk_func_type (bare P) u ≡ walk_func_type (bare S) x)
  func_type_back x ds ys is h =
      let c = split P _ _ (async_layout x.is_async) _ h in
      let a = async_back x.is_async _ c.0 c.3 in
      let h1 = c.4 in
      let h2 = h1.4 in
      let e = split P [] h2.1 (joined named_type_layout (map (walk_named_type (bare S)) x.params) ++ token (codes ")") ∷ []) (results_layout (walk_result_list (bare S) x.results)) h2.4 in
      let q = params_back x.params e.0 is.0 e.3 in
      let r = results_back x.results _ e.1 is.1 e.4 in (
        build func_type (a.0, (h1.0, (h2.0, (q.0, r.0)))),
        by_rule func_type ys (a.0, (h1.0, (h2.0, (q.0, r.0))))
            (c.0, c.1, c.2, a.1, (h1.0 ∷ [], h1.1, h1.2, (refl, ap (is_token kinds.FuncKeyword) h1.3.0, refl), (h2.0 ∷ [], h2.1, h2.2, (refl, ap (is_token kinds.OpenParen) h2.3.0, refl), (e.0, e.1, e.2, q.1, r.1)))),
        (λ i. record { is_async = a.2 i; params = q.2 i; results = r.2 i }),
      )

  pub func_type_ref_back : (x : FuncTypeRef) (ds : List (List ℕ)) (ys : List Item) → walk_func_type_ref (has Spelled) (walk_func_type_ref (bare S) x) → Means P ds ys (func_type_ref_layout (walk_func_type_ref (bare S) x))
      → (u : FuncTypeRef) × Derives func_type_ref ys u × (walk_func_type_ref (bare P) u ≡ walk_func_type_ref (bare S) x)
  unfolding func_type_ref_layout
  func_type_ref_back (tree.FuncTypeRef.func x) ds ys is h = let r = func_type_back x ds ys is h in (tree.FuncTypeRef.func r.0, by_rule func_type_ref ys (inl r.0) r.1, ap tree.FuncTypeRef.func r.2)
  func_type_ref_back (tree.FuncTypeRef.ident x) ds ys is h =
      let r = word_back S P x ds h.0 is h.3 in
      (tree.FuncTypeRef.ident r.0, by_rule func_type_ref ys (inr r.0) (subst (λ zs. Derives identifier zs r.0) (back (alone h.0 h.1 ys h.2 h.4)) r.1), ap tree.FuncTypeRef.ident r.2)
