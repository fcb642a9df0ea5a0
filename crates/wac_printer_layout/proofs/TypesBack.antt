-- Types are read back.
use Rattle.std.proofs.Common.{◌≡◌, ℕ, List, [], ◌∷◌, ◌++◌, sym as back, refl, ap, ◌∙◌, subst, Some, None, inl, inr, codes, append_assoc}
use Rattle.wac_ast_grammar.specs.Walk.{walk_ty, walk_types}
use Rattle.wac_printer_layout.proofs.Common.{Item, is_token, Ident, Ty, OptionalTy, Types, types_from, rule, build, DerivesIn, Derives, ty, tuple_type, list_type, option_type, result_type, borrow_type, stream_type, future_type, types, result_part, payload, by_rule, list_items, more_items}
use Rattle.wac_lexer.specs.declared.token.Token.TheVariants as kinds
use Rattle.wac_ast_grammar.specs.Tree as tree
use Rattle.wac_ast_grammar.specs.Grammar.{identifier}
use Rattle.wac_printer_layout.specs.Printed.{Piece, token}
use Rattle.wac_printer_layout.specs.Bare.{nowhere, bare}
use Rattle.wac_printer_layout.specs.TypeLayout.{ty_layout, further_types_layout}
use Rattle.wac_printer_layout.specs.Texts.{Spelled, has}
use Rattle.wac_printer_layout.proofs.Means.{Means, split}
use Rattle.wac_printer_layout.proofs.NamesBack.{alone, word_back}

module _ (S P : List ℕ) where
  -- what is read back of a type, of the types after one, and of an element
  abbrev pub TyBack : Ty → List Item → Type 0
  TyBack x ys = (u : Ty) × Derives ty ys u × (walk_ty (bare P) u ≡ walk_ty (bare S) x)

  abbrev MoreBack : Types → List Item → Type 0
  MoreBack xs ys = (u : List Ty × Item) × Derives (more_items types) ys u × (walk_types (bare P) (types_from u.0) ≡ walk_types (bare S) xs)

  payload_none : (ys : List Item) → ys ≡ [] → Derives payload ys None
  payload_none ys e = by_rule payload ys (inr tt) e

  -- items of a list in another grouping
  regroup : (ys : List Item) (ds : List (List ℕ)) (a b c : List Piece) → Means P ds ys ((a ++ b) ++ c) → Means P ds ys (a ++ (b ++ c))
  regroup ys ds a b c h = subst (Means P ds ys) (append_assoc a b c) h

  mutual
    pub ty_back : (x : Ty) (ds : List (List ℕ)) (ys : List Item) → walk_ty (has Spelled) (walk_ty (bare S) x) → Means P ds ys (ty_layout (walk_ty (bare S) x)) → TyBack x ys
    ty_back (tree.Ty.u8 s) ds ys is h = (tree.Ty.u8 h.0.span, by_rule ty ys (inl h.0) (alone h.0 h.1 ys h.2 h.4, ap (is_token kinds.U8Keyword) h.3.0, refl), refl)
    ty_back (tree.Ty.s8 s) ds ys is h = (tree.Ty.s8 h.0.span, by_rule ty ys (inr (inl h.0)) (alone h.0 h.1 ys h.2 h.4, ap (is_token kinds.S8Keyword) h.3.0, refl), refl)
    ty_back (tree.Ty.u16 s) ds ys is h = (tree.Ty.u16 h.0.span, by_rule ty ys (inr (inr (inl h.0))) (alone h.0 h.1 ys h.2 h.4, ap (is_token kinds.U16Keyword) h.3.0, refl), refl)
    ty_back (tree.Ty.s16 s) ds ys is h = (tree.Ty.s16 h.0.span, by_rule ty ys (inr (inr (inr (inl h.0)))) (alone h.0 h.1 ys h.2 h.4, ap (is_token kinds.S16Keyword) h.3.0, refl), refl)
    ty_back (tree.Ty.u32 s) ds ys is h = (tree.Ty.u32 h.0.span, by_rule ty ys (inr (inr (inr (inr (inl h.0))))) (alone h.0 h.1 ys h.2 h.4, ap (is_token kinds.U32Keyword) h.3.0, refl), refl)
    ty_back (tree.Ty.s32 s) ds ys is h = (tree.Ty.s32 h.0.span, by_rule ty ys (inr (inr (inr (inr (inr (inl h.0)))))) (alone h.0 h.1 ys h.2 h.4, ap (is_token kinds.S32Keyword) h.3.0, refl), refl)
    ty_back (tree.Ty.u64 s) ds ys is h = (tree.Ty.u64 h.0.span, by_rule ty ys (inr (inr (inr (inr (inr (inr (inl h.0))))))) (alone h.0 h.1 ys h.2 h.4, ap (is_token kinds.U64Keyword) h.3.0, refl), refl)
    ty_back (tree.Ty.s64 s) ds ys is h = (tree.Ty.s64 h.0.span, by_rule ty ys (inr (inr (inr (inr (inr (inr (inr (inl h.0)))))))) (alone h.0 h.1 ys h.2 h.4, ap (is_token kinds.S64Keyword) h.3.0, refl), refl)
    ty_back (tree.Ty.f32 s) ds ys is h = (tree.Ty.f32 h.0.span, by_rule ty ys (inr (inr (inr (inr (inr (inr (inr (inr (inl h.0))))))))) (alone h.0 h.1 ys h.2 h.4, ap (is_token kinds.F32Keyword) h.3.0, refl), refl)
    ty_back (tree.Ty.f64 s) ds ys is h = (tree.Ty.f64 h.0.span, by_rule ty ys (inr (inr (inr (inr (inr (inr (inr (inr (inr (inl h.0)))))))))) (alone h.0 h.1 ys h.2 h.4, ap (is_token kinds.F64Keyword) h.3.0, refl), refl)
    ty_back (tree.Ty.char s) ds ys is h = (tree.Ty.char h.0.span, by_rule ty ys (inr (inr (inr (inr (inr (inr (inr (inr (inr (inr (inl h.0))))))))))) (alone h.0 h.1 ys h.2 h.4, ap (is_token kinds.CharKeyword) h.3.0, refl), refl)
    ty_back (tree.Ty.bool s) ds ys is h = (tree.Ty.bool h.0.span, by_rule ty ys (inr (inr (inr (inr (inr (inr (inr (inr (inr (inr (inr (inl h.0)))))))))))) (alone h.0 h.1 ys h.2 h.4, ap (is_token kinds.BoolKeyword) h.3.0, refl), refl)
    ty_back (tree.Ty.string s) ds ys is h = (tree.Ty.string h.0.span, by_rule ty ys (inr (inr (inr (inr (inr (inr (inr (inr (inr (inr (inr (inr (inl h.0))))))))))))) (alone h.0 h.1 ys h.2 h.4, ap (is_token kinds.StringKeyword) h.3.0, refl), refl)
    ty_back (tree.Ty.error_context s) ds ys is h = (tree.Ty.error_context h.0.span, by_rule ty ys (inr (inr (inr (inr (inr (inr (inr (inr (inr (inr (inr (inr (inr (inr (inr (inr (inr (inr (inr (inr (inl h.0))))))))))))))))))))) (alone h.0 h.1 ys h.2 h.4, ap (is_token kinds.ErrorContextKeyword) h.3.0, refl), refl)
    ty_back (tree.Ty.ident x) ds ys is h =
        let r = word_back S P x ds h.0 is h.3 in
        (tree.Ty.ident r.0, by_rule ty ys (inr (inr (inr (inr (inr (inr (inr (inr (inr (inr (inr (inr (inr (inr (inr (inr (inr (inr (inr (inr (inr (r.0)))))))))))))))))))))) (subst (λ zs. Derives identifier zs r.0) (back (alone h.0 h.1 ys h.2 h.4)) r.1), ap tree.Ty.ident r.2)
    ty_back (tree.Ty.list x s) ds ys is h =
        let h1 = h.4 in
        let h2 = h1.4 in
        let c3 = split P _ _ (ty_layout (walk_ty (bare S) x)) _ h2 in
        let r = ty_back x _ c3.0 is c3.3 in
        let h4 = c3.4 in
        (build list_type (h.0, (h1.0, (r.0, h4.0))), by_rule ty ys (inr (inr (inr (inr (inr (inr (inr (inr (inr (inr (inr (inr (inr (inr (inl (build list_type (h.0, (h1.0, (r.0, h4.0))))))))))))))))))) (by_rule list_type ys (h.0, (h1.0, (r.0, h4.0))) (h.0 ∷ [], h.1, h.2, (refl, ap (is_token kinds.ListKeyword) h.3.0, refl), (h1.0 ∷ [], h1.1, h1.2, (refl, ap (is_token kinds.OpenAngle) h1.3.0, refl), (c3.0, c3.1, c3.2, r.1, (alone h4.0 h4.1 c3.1 h4.2 h4.4, ap (is_token kinds.CloseAngle) h4.3.0, refl))))), ap (λ b. tree.Ty.list b nowhere) r.2)
    ty_back (tree.Ty.option x s) ds ys is h =
        let h1 = h.4 in
        let h2 = h1.4 in
        let c3 = split P _ _ (ty_layout (walk_ty (bare S) x)) _ h2 in
        let r = ty_back x _ c3.0 is c3.3 in
        let h4 = c3.4 in
        (build option_type (h.0, (h1.0, (r.0, h4.0))), by_rule ty ys (inr (inr (inr (inr (inr (inr (inr (inr (inr (inr (inr (inr (inr (inr (inr (inl (build option_type (h.0, (h1.0, (r.0, h4.0)))))))))))))))))))) (by_rule option_type ys (h.0, (h1.0, (r.0, h4.0))) (h.0 ∷ [], h.1, h.2, (refl, ap (is_token kinds.OptionKeyword) h.3.0, refl), (h1.0 ∷ [], h1.1, h1.2, (refl, ap (is_token kinds.OpenAngle) h1.3.0, refl), (c3.0, c3.1, c3.2, r.1, (alone h4.0 h4.1 c3.1 h4.2 h4.4, ap (is_token kinds.CloseAngle) h4.3.0, refl))))), ap (λ b. tree.Ty.option b nowhere) r.2)
    ty_back (tree.Ty.borrow x s) ds ys is h =
        let h1 = h.4 in
        let h2 = h1.4 in
        let r = word_back S P x _ h2.0 is h2.3 in
        let h3 = h2.4 in
        (build borrow_type (h.0, (h1.0, (r.0, h3.0))), by_rule ty ys (inr (inr (inr (inr (inr (inr (inr (inr (inr (inr (inr (inr (inr (inr (inr (inr (inr (inl (build borrow_type (h.0, (h1.0, (r.0, h3.0)))))))))))))))))))))) (by_rule borrow_type ys (h.0, (h1.0, (r.0, h3.0))) (h.0 ∷ [], h.1, h.2, (refl, ap (is_token kinds.BorrowKeyword) h.3.0, refl), (h1.0 ∷ [], h1.1, h1.2, (refl, ap (is_token kinds.OpenAngle) h1.3.0, refl), (h2.0 ∷ [], h2.1, h2.2, r.1, (alone h3.0 h3.1 h2.1 h3.2 h3.4, ap (is_token kinds.CloseAngle) h3.3.0, refl))))), ap (λ b. tree.Ty.borrow b nowhere) r.2)
    ty_back (tree.Ty.tuple tree.Types.none s) ds ys is h = absurd is.1
    ty_back (tree.Ty.tuple (tree.Types.more x xs) s) ds ys is h =
        let h1 = h.4 in
        let h2 = h1.4 in
        let m = regroup h1.1 _ (ty_layout (walk_ty (bare S) x)) (further_types_layout (walk_types (bare S) xs)) (token (codes ">") ∷ []) h2 in
        let f = split P _ _ (ty_layout (walk_ty (bare S) x)) _ m in
        let r = ty_back x _ f.0 is.0.0 f.3 in
        let q = more_back xs _ f.1 is.0.1 f.4 in
        (build tuple_type (h.0, (h1.0, (r.0, q.0))), by_rule ty ys (inr (inr (inr (inr (inr (inr (inr (inr (inr (inr (inr (inr (inr (inl (build tuple_type (h.0, (h1.0, (r.0, q.0)))))))))))))))))) (by_rule tuple_type ys (h.0, (h1.0, (r.0, q.0))) (h.0 ∷ [], h.1, h.2, (refl, ap (is_token kinds.TupleKeyword) h.3.0, refl), (h1.0 ∷ [], h1.1, h1.2, (refl, ap (is_token kinds.OpenAngle) h1.3.0, refl), (f.0, f.1, f.2, r.1, q.1)))), (λ i. tree.Ty.tuple (tree.Types.more (r.2 i) (q.2 i)) nowhere))
    ty_back (tree.Ty.result tree.OptionalTy.absent tree.OptionalTy.absent s) ds ys is h =
        (tree.Ty.result tree.OptionalTy.absent tree.OptionalTy.absent h.0.span, by_rule ty ys (inr (inr (inr (inr (inr (inr (inr (inr (inr (inr (inr (inr (inr (inr (inr (inr (inl (build result_type (h.0, inr tt))))))))))))))))))) (by_rule result_type ys (h.0, inr tt) (subst (λ zs. DerivesIn Derives (rule result_type) zs (h.0, inr tt)) (back (alone h.0 h.1 ys h.2 h.4)) (h.0 ∷ [], [], refl, (refl, ap (is_token kinds.ResultKeyword) h.3.0, refl), refl))), refl)
    ty_back (tree.Ty.result tree.OptionalTy.absent (tree.OptionalTy.present err) s) ds ys is h =
        let h1 = h.4 in
        let h2 = h1.4 in
        let k = h2.4 in
        let k1 = k.4 in
        let e = split P _ _ (ty_layout (walk_ty (bare S) err)) _ k1 in
        let q = ty_back err _ e.0 is.1 e.3 in
        let l = e.4 in
        (build result_type (h.0, inl (h1.0, ((build result_part (inl h2.0)), (inl (k.0, build result_part (inr q.0)), l.0)))), by_rule ty ys (inr (inr (inr (inr (inr (inr (inr (inr (inr (inr (inr (inr (inr (inr (inr (inr (inl (build result_type (h.0, inl (h1.0, ((build result_part (inl h2.0)), (inl (k.0, build result_part (inr q.0)), l.0)))))))))))))))))))))) (by_rule result_type ys (h.0, inl (h1.0, ((build result_part (inl h2.0)), (inl (k.0, build result_part (inr q.0)), l.0)))) (h.0 ∷ [], h.1, h.2, (refl, ap (is_token kinds.ResultKeyword) h.3.0, refl), (h1.0 ∷ [], h1.1, h1.2, (refl, ap (is_token kinds.OpenAngle) h1.3.0, refl), (h2.0 ∷ [], h2.1, h2.2, by_rule result_part (h2.0 ∷ []) (inl h2.0) (refl, ap (is_token kinds.Underscore) h2.3.0, refl), (k.0 ∷ e.0, e.1, k.2 ∙ ap (λ zs. k.0 ∷ zs) e.2, (k.0 ∷ [], e.0, refl, (refl, ap (is_token kinds.Comma) k.3.0, refl), by_rule result_part e.0 (inr q.0) q.1), (alone l.0 l.1 e.1 l.2 l.4, ap (is_token kinds.CloseAngle) l.3.0, refl)))))), ap (λ b. tree.Ty.result tree.OptionalTy.absent (tree.OptionalTy.present b) nowhere) q.2)
    ty_back (tree.Ty.result (tree.OptionalTy.present ok) tree.OptionalTy.absent s) ds ys is h =
        let h1 = h.4 in
        let h2 = h1.4 in
        let c = split P _ _ (ty_layout (walk_ty (bare S) ok)) _ h2 in
        let r = ty_back ok _ c.0 is.0 c.3 in
        let k = c.4 in
        (build result_type (h.0, inl (h1.0, ((build result_part (inr r.0)), (inr tt, k.0)))), by_rule ty ys (inr (inr (inr (inr (inr (inr (inr (inr (inr (inr (inr (inr (inr (inr (inr (inr (inl (build result_type (h.0, inl (h1.0, ((build result_part (inr r.0)), (inr tt, k.0)))))))))))))))))))))) (by_rule result_type ys (h.0, inl (h1.0, ((build result_part (inr r.0)), (inr tt, k.0)))) (h.0 ∷ [], h.1, h.2, (refl, ap (is_token kinds.ResultKeyword) h.3.0, refl), (h1.0 ∷ [], h1.1, h1.2, (refl, ap (is_token kinds.OpenAngle) h1.3.0, refl), (c.0, c.1, c.2, by_rule result_part c.0 (inr r.0) r.1, ([], c.1, refl, refl, (alone k.0 k.1 c.1 k.2 k.4, ap (is_token kinds.CloseAngle) k.3.0, refl)))))), ap (λ b. tree.Ty.result (tree.OptionalTy.present b) tree.OptionalTy.absent nowhere) r.2)
    ty_back (tree.Ty.result (tree.OptionalTy.present ok) (tree.OptionalTy.present err) s) ds ys is h =
        let h1 = h.4 in
        let h2 = h1.4 in
        let c = split P _ _ (ty_layout (walk_ty (bare S) ok)) _ h2 in
        let r = ty_back ok _ c.0 is.0 c.3 in
        let k = c.4 in
        let k1 = k.4 in
        let e = split P _ _ (ty_layout (walk_ty (bare S) err)) _ k1 in
        let q = ty_back err _ e.0 is.1 e.3 in
        let l = e.4 in
        (build result_type (h.0, inl (h1.0, ((build result_part (inr r.0)), (inl (k.0, build result_part (inr q.0)), l.0)))), by_rule ty ys (inr (inr (inr (inr (inr (inr (inr (inr (inr (inr (inr (inr (inr (inr (inr (inr (inl (build result_type (h.0, inl (h1.0, ((build result_part (inr r.0)), (inl (k.0, build result_part (inr q.0)), l.0)))))))))))))))))))))) (by_rule result_type ys (h.0, inl (h1.0, ((build result_part (inr r.0)), (inl (k.0, build result_part (inr q.0)), l.0)))) (h.0 ∷ [], h.1, h.2, (refl, ap (is_token kinds.ResultKeyword) h.3.0, refl), (h1.0 ∷ [], h1.1, h1.2, (refl, ap (is_token kinds.OpenAngle) h1.3.0, refl), (c.0, c.1, c.2, by_rule result_part c.0 (inr r.0) r.1, (k.0 ∷ e.0, e.1, k.2 ∙ ap (λ zs. k.0 ∷ zs) e.2, (k.0 ∷ [], e.0, refl, (refl, ap (is_token kinds.Comma) k.3.0, refl), by_rule result_part e.0 (inr q.0) q.1), (alone l.0 l.1 e.1 l.2 l.4, ap (is_token kinds.CloseAngle) l.3.0, refl)))))), (λ i. tree.Ty.result (tree.OptionalTy.present (r.2 i)) (tree.OptionalTy.present (q.2 i)) nowhere))
    ty_back (tree.Ty.stream tree.OptionalTy.absent s) ds ys is h =
        let e = payload_none h.1 h.4 in
        (tree.Ty.stream tree.OptionalTy.absent h.0.span, by_rule ty ys (inr (inr (inr (inr (inr (inr (inr (inr (inr (inr (inr (inr (inr (inr (inr (inr (inr (inr (inl (build stream_type (h.0, None))))))))))))))))))))) (by_rule stream_type ys (h.0, None) (h.0 ∷ [], h.1, h.2, (refl, ap (is_token kinds.StreamKeyword) h.3.0, refl), e)), refl)
    ty_back (tree.Ty.stream (tree.OptionalTy.present x) s) ds ys is h =
        let h1 = h.4 in
        let h2 = h1.4 in
        let c = split P _ _ (ty_layout (walk_ty (bare S) x)) _ h2 in
        let r = ty_back x _ c.0 is c.3 in
        let l = c.4 in
        let e = by_rule payload h.1 (inl (h1.0, (r.0, l.0))) (h1.0 ∷ [], h1.1, h1.2, (refl, ap (is_token kinds.OpenAngle) h1.3.0, refl), (c.0, c.1, c.2, r.1, (alone l.0 l.1 c.1 l.2 l.4, ap (is_token kinds.CloseAngle) l.3.0, refl))) in
        (build stream_type (h.0, Some (r.0, l.0)), by_rule ty ys (inr (inr (inr (inr (inr (inr (inr (inr (inr (inr (inr (inr (inr (inr (inr (inr (inr (inr (inl (build stream_type (h.0, Some (r.0, l.0)))))))))))))))))))))) (by_rule stream_type ys (h.0, Some (r.0, l.0)) (h.0 ∷ [], h.1, h.2, (refl, ap (is_token kinds.StreamKeyword) h.3.0, refl), e)), ap (λ b. tree.Ty.stream (tree.OptionalTy.present b) nowhere) r.2)
    ty_back (tree.Ty.future tree.OptionalTy.absent s) ds ys is h =
        let e = payload_none h.1 h.4 in
        (tree.Ty.future tree.OptionalTy.absent h.0.span, by_rule ty ys (inr (inr (inr (inr (inr (inr (inr (inr (inr (inr (inr (inr (inr (inr (inr (inr (inr (inr (inr (inl (build future_type (h.0, None)))))))))))))))))))))) (by_rule future_type ys (h.0, None) (h.0 ∷ [], h.1, h.2, (refl, ap (is_token kinds.FutureKeyword) h.3.0, refl), e)), refl)
    ty_back (tree.Ty.future (tree.OptionalTy.present x) s) ds ys is h =
        let h1 = h.4 in
        let h2 = h1.4 in
        let c = split P _ _ (ty_layout (walk_ty (bare S) x)) _ h2 in
        let r = ty_back x _ c.0 is c.3 in
        let l = c.4 in
        let e = by_rule payload h.1 (inl (h1.0, (r.0, l.0))) (h1.0 ∷ [], h1.1, h1.2, (refl, ap (is_token kinds.OpenAngle) h1.3.0, refl), (c.0, c.1, c.2, r.1, (alone l.0 l.1 c.1 l.2 l.4, ap (is_token kinds.CloseAngle) l.3.0, refl))) in
        (build future_type (h.0, Some (r.0, l.0)), by_rule ty ys (inr (inr (inr (inr (inr (inr (inr (inr (inr (inr (inr (inr (inr (inr (inr (inr (inr (inr (inr (inl (build future_type (h.0, Some (r.0, l.0))))))))))))))))))))))) (by_rule future_type ys (h.0, Some (r.0, l.0)) (h.0 ∷ [], h.1, h.2, (refl, ap (is_token kinds.FutureKeyword) h.3.0, refl), e)), ap (λ b. tree.Ty.future (tree.OptionalTy.present b) nowhere) r.2)

    more_back : (xs : Types) (ds : List (List ℕ)) (ys : List Item) → walk_types (has Spelled) (walk_types (bare S) xs) → Means P ds ys (further_types_layout (walk_types (bare S) xs) ++ token (codes ">") ∷ []) → MoreBack xs ys
    more_back tree.Types.none ds ys is h = (([], h.0), by_rule (more_items types) ys (inl h.0) (alone h.0 h.1 ys h.2 h.4, ap (is_token kinds.CloseAngle) h.3.0, refl), refl)
    more_back (tree.Types.more x xs) ds ys is h =
        let h1 = h.4 in
        let m = regroup h.1 _ (ty_layout (walk_ty (bare S) x)) (further_types_layout (walk_types (bare S) xs)) (token (codes ">") ∷ []) h1 in
        let c = split P _ _ (ty_layout (walk_ty (bare S) x)) _ m in
        let r = ty_back x _ c.0 is.0 c.3 in
        let q = more_back xs _ c.1 is.1 c.4 in
        let others = by_rule (list_items types) h.1 (inr (r.0, q.0)) (c.0, c.1, c.2, r.1, q.1) in
        ((r.0 ∷ q.0.0, q.0.1), by_rule (more_items types) ys (inr (h.0, (r.0 ∷ q.0.0, q.0.1))) (h.0 ∷ [], h.1, h.2, (refl, ap (is_token kinds.Comma) h.3.0, refl), others), (λ i. tree.Types.more (r.2 i) (q.2 i)))
