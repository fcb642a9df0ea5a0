-- Deriving depends on tokens and texts alone: it survives other spans and docs, and the trees differ only there.
use Rattle.std.proofs.Common.{◌≡◌, ℕ, zero, suc, List, [], ◌∷◌, ◌++◌, true, refl, sym as back, ap, subst, ◌∙◌, inl, inr}
use Rattle.wac_ast_grammar.proofs.Common.{Token, Item}
use Rattle.wac_ast_grammar.specs.Tokens.{is_token, valid}
use Rattle.wac_ast_grammar.specs.Grammar.{Sym, rule, build, TreeOf, Parts, Grammar, token, sym, then, either, nothing, to_end, docs, not_empty, more, or_told, docs_of, DerivesIn, DerivesBy, Derives}
use Rattle.wac_ast_grammar.specs.Viable.{Same, Similar, Leads, LikeIn, Respects}
use Rattle.wac_ast_grammar.proofs.Complete.{Family}

pub similar_nil : (ys : List Item) → Similar [] ys → ys ≡ []
similar_nil [] h = refl
similar_nil (y ∷ ys) h = absurd h

pub similar_one : (x : Item) (ys : List Item) → Similar (x ∷ []) ys → (y : Item) × (ys ≡ y ∷ []) × Same x y
similar_one x [] h = absurd h
similar_one x (y ∷ ys) h = (y, ap (λ (zs : List Item). y ∷ zs) (similar_nil ys h.1), h.0)

similar_first : (x : Item) (xs ys : List Item) → Similar (x ∷ xs) ys → (y : Item) × (zs : List Item) × (ys ≡ y ∷ zs) × Same x y × Similar xs zs
similar_first x xs [] h = absurd h
similar_first x xs (y ∷ ys) h = (y, ys, refl, h.0, h.1)

similar_split : (front rest ys : List Item) → Similar (front ++ rest) ys → (f : List Item) × (b : List Item) × (ys ≡ f ++ b) × Similar front f × Similar rest b
similar_split [] rest ys h = ([], ys, refl, tt, h)
similar_split (x ∷ front) rest [] h = absurd h
similar_split (x ∷ front) rest (y ∷ ys) h = let r = similar_split front rest ys h.1 in (y ∷ r.0, r.1, ap (λ (zs : List Item). y ∷ zs) r.2, (h.0, r.3), r.4)

-- what begins with these tokens and texts is like a list that begins with these items
pub leads_similar : (front ys : List Item) → Leads front ys → (rest : List Item) × Similar ys (front ++ rest)
leads_similar [] ys h = (ys, self ys)
  where
    self : (ys : List Item) → Similar ys ys
    self [] = tt
    self (y ∷ ys) = ((refl, refl), self ys)
leads_similar (x ∷ xs) [] h = absurd h
leads_similar (x ∷ xs) (y ∷ ys) h = let r = leads_similar xs ys h.1 in (r.0, ((back h.0.0, back h.0.1), r.1))

pub leads_self : (front rest : List Item) → Leads front (front ++ rest)
leads_self [] rest = tt
leads_self (x ∷ xs) rest = ((refl, refl), leads_self xs rest)

same_token : (k : Token) (x y : Item) → Same x y → is_token k x.token ≡ true → valid k x.text ≡ true → (is_token k y.token ≡ true) × (valid k y.text ≡ true)
same_token k x y h e v = (ap (is_token k) (back h.0) ∙ e, ap (valid k) (back h.1) ∙ v)

abbrev Alikes : (L : (s : Sym) → TreeOf s → TreeOf s → Type 0) → Family → Family → Type 0
Alikes L D E = (s : Sym) (xs ys : List Item) (t : TreeOf s) → Similar xs ys → D s xs t → (u : TreeOf s) × E s ys u × L s t u

module _ (L : (s : Sym) → TreeOf s → TreeOf s → Type 0) (D E : Family) (h : Alikes L D E) where
  survives_in : (g : Grammar) (xs ys : List Item) (p : Parts g) → Similar xs ys → DerivesIn D g xs p → (q : Parts g) × DerivesIn E g ys q × LikeIn L g p q
  survives_in (token k) xs ys x s d =
      let r = similar_one x ys (subst (λ (zs : List Item). Similar zs ys) d.0 s) in
      let v = same_token k x r.0 r.2 d.1 d.2 in
      (r.0, (r.1, v.0, v.1), r.2)
  survives_in (sym s) xs ys t m d = h s xs ys t m d
  survives_in (then g k) xs ys p s d =
      let r = similar_split d.0 d.1 ys (subst (λ (zs : List Item). Similar zs ys) d.2 s) in
      let a = survives_in g d.0 r.0 p.0 r.3 d.3 in
      let b = survives_in k d.1 r.1 p.1 r.4 d.4 in
      ((a.0, b.0), (r.0, r.1, r.2, a.1, b.1), (a.2, b.2))
  survives_in (either loud g k) xs ys (inl p) s d = let a = survives_in g xs ys p s d in (inl a.0, a.1, a.2)
  survives_in (either loud g k) xs ys (inr p) s d = let a = survives_in k xs ys p s d in (inr a.0, a.1, a.2)
  survives_in (nothing b) xs ys p s d = (tt, similar_nil ys (subst (λ (zs : List Item). Similar zs ys) d s), tt)
  survives_in (to_end g) xs ys (inl p) s d = (inl tt, similar_nil ys (subst (λ (zs : List Item). Similar zs ys) d s), tt)
  survives_in (to_end g) xs ys (inr p) s d = let a = survives_in g xs ys p s d in (inr a.0, a.1, a.2)
  survives_in (docs g) xs ys p s d = let a = survives_in g xs ys p.1 s d.1 in ((docs_of ys, a.0), (refl, a.1), a.2)
  survives_in (not_empty e k g) xs ys p s d = survives_in g xs ys p s d
  survives_in (more k m g) xs ys p s d = survives_in g xs ys p s d
  survives_in (or_told g k l) xs ys (inl p) s d = let a = survives_in g xs ys p s d in (inl a.0, a.1, a.2)
  survives_in (or_told g k l) xs ys (inr p) s d =
      let r = similar_first p.0 d.0 ys (subst (λ (zs : List Item). Similar zs ys) d.1 s) in
      let v = same_token k p.0 r.0 r.3 d.2 d.3 in
      let a = survives_in l d.0 r.1 p.1 r.4 d.4 in
      (inr (r.0, a.0), (r.1, r.2, v.0, v.1, a.1), (r.3, a.2))

by_survives : (L : (s : Sym) → TreeOf s → TreeOf s → Type 0) → Respects L → (n : ℕ) → Alikes L (DerivesBy n) (DerivesBy n)
by_survives L r zero s xs ys t m d = absurd d
by_survives L r (suc n) s xs ys t m d =
    let a = survives_in L (DerivesBy n) (DerivesBy n) (by_survives L r n) (rule s) xs ys d.0 m d.1 in
    (build s a.0, (a.0, a.1, refl), subst (λ (u : TreeOf s). L s u (build s a.0)) d.2 (r s d.0 a.0 a.2))

-- DERIVING SURVIVES OTHER SPANS AND DOCS
pub survives : (L : (s : Sym) → TreeOf s → TreeOf s → Type 0) → Respects L → Alikes L Derives Derives
survives L r s xs ys t m d = let a = by_survives L r d.0 s xs ys t m d.1 in (a.0, (d.0, a.1), a.2)

pub derives_similar : (s : Sym) (xs ys : List Item) (t : TreeOf s) → Similar xs ys → Derives s xs t → (u : TreeOf s) × Derives s ys u
derives_similar s xs ys t m d = let a = survives (λ s t u. Unit {0}) (λ s p q l. tt) s xs ys t m d in (a.0, a.1)
