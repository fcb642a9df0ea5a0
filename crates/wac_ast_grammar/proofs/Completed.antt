-- Where reading stops: what comes before can be completed, and each token that was looked for can occur there.
use Rattle.std.proofs.Common.{◌≡◌, ℕ, zero, suc, ◌+◌, ◌<◌, arith, List, [], ◌∷◌, ◌++◌, map, Bool, true, false, cond, refl, sym as back, ap, subst, ◌∙◌, ◌⊎◌, inl, inr, eq-eqb}
use Rattle.wac_ast_grammar.proofs.Common.{eqb-true, ltb-true, Token, Item}
use Rattle.wac_lexer.specs.declared.token.Token.TheVariants as t
use Rattle.wac_ast_grammar.specs.Tokens.{is_token, kind, valid}
use Rattle.wac_ast_grammar.proofs.Tables.{all_tokens, among, within, same_token, begins_is}
use Rattle.wac_ast_grammar.specs.Grammar.{Sym, rule, build, TreeOf, Parts, Grammar, token, sym, then, either, nothing, to_end, docs, not_empty, more, or_told, docs_of, DerivesIn, DerivesBy, Derives}
use Rattle.wac_ast_grammar.specs.Reading.{Standing, at_once, closing, after_comma, Tried, can, follows, empty, is_empty, begins, first}
use Rattle.wac_ast_grammar.proofs.Ranks.{rank}
use Rattle.wac_ast_grammar.specs.Possible.{same_standing, named, IsOf}
use Rattle.wac_ast_grammar.proofs.Fixed.{both_left, both_right, empty_is, ranked, rule_ranked}
use Rattle.wac_ast_grammar.proofs.Complete.{Family}
use Rattle.wac_ast_grammar.proofs.Sound.{OfToken}

-- ---- tokens

abbrev nth : ℕ → List Token → Token
nth n [] = t.Comment
nth zero (k ∷ ks) = k
nth (suc n) (k ∷ ks) = nth n ks

token_at : (k : Token) → nth (kind k) all_tokens ≡ k
token_at t.Comment = refl
token_at _ = refl

pub same_is : (l k : Token) → same_token l k ≡ true → l ≡ k
same_is l k h = back (token_at l) ∙ ap (λ n. nth n all_tokens) (back (eqb-true _ _ h)) ∙ token_at k

pub of_token : (l k : Token) (x : Item) → same_token l k ≡ true → IsOf k x → OfToken l (x ∷ []) x
of_token l k x h i = let e = same_is l k h in (refl, subst (λ (m : Token). is_token m x.token ≡ true) (back e) i.0, subst (λ (m : Token). valid m x.text ≡ true) (back e) i.1)

pub within_is : (k : Token) (ks ls : List Token) → among k ks ≡ true → within ks ls ≡ true → among k ls ≡ true
within_is k [] ls a w = absurd cc
within_is k (l ∷ ks) ls a w = go (same_token l k) refl a (λ b. within_is k ks ls b (both_right (among l ls) (within ks ls) w))
  where
    go : (b : Bool) → same_token l k ≡ b → cond b true (among k ks) ≡ true → (among k ks ≡ true → among k ls ≡ true) → among k ls ≡ true
    go true e a r = subst (λ (m : Token). among m ls ≡ true) (same_is l k e) (both_left (among l ls) (within ks ls) w)
    go false e a r = r a

pub self_token : (k : Token) → same_token k k ≡ true
self_token k = eq-eqb (kind k) (kind k) refl

named_append : (m : Standing) (k : Token) (ts us : List Tried) → named m k (ts ++ us) ≡ cond (named m k ts) true (named m k us)
named_append m k [] us = refl
named_append m k (x ∷ ts) us = go (cond (same_standing m x.standing) (same_token x.token k) false) (named_append m k ts us)
  where
    go : (b : Bool) → named m k (ts ++ us) ≡ cond (named m k ts) true (named m k us) → cond b true (named m k (ts ++ us)) ≡ cond (cond b true (named m k ts)) true (named m k us)
    go true h = refl
    go false h = h

pub named_cans : (k : Token) (ks : List Token) → named at_once k (map can ks) ≡ among k ks
named_cans k [] = refl
named_cans k (l ∷ ks) = ap (λ b. cond (same_token l k) true b) (named_cans k ks)

pub named_follows : (k : Token) (ks : List Token) → named after_comma k (map follows ks) ≡ among k ks
named_follows k [] = refl
named_follows k (l ∷ ks) = ap (λ b. cond (same_token l k) true b) (named_follows k ks)

-- tokens that are named in one way alone
pub cans_once : (m : Standing) (k : Token) (ks : List Token) → named m k (map can ks) ≡ true → (m ≡ at_once) × (among k ks ≡ true)
cans_once at_once k ks h = (refl, back (named_cans k ks) ∙ h)
cans_once closing k ks h = let e = none ks in absurd cc
  where
    none : (ks : List Token) → named closing k (map can ks) ≡ false
    none [] = refl
    none (l ∷ ks) = none ks
cans_once after_comma k ks h = let e = none ks in absurd cc
  where
    none : (ks : List Token) → named after_comma k (map can ks) ≡ false
    none [] = refl
    none (l ∷ ks) = none ks

pub follows_later : (m : Standing) (k : Token) (ks : List Token) → named m k (map follows ks) ≡ true → (m ≡ after_comma) × (among k ks ≡ true)
follows_later after_comma k ks h = (refl, back (named_follows k ks) ∙ h)
follows_later closing k ks h = let e = none ks in absurd cc
  where
    none : (ks : List Token) → named closing k (map follows ks) ≡ false
    none [] = refl
    none (l ∷ ks) = none ks
follows_later at_once k ks h = let e = none ks in absurd cc
  where
    none : (ks : List Token) → named at_once k (map follows ks) ≡ false
    none [] = refl
    none (l ∷ ks) = none ks

pub or_true : (b c : Bool) → cond b true c ≡ true → (b ≡ true) ⊎ (c ≡ true)
or_true true c h = inl refl
or_true false c h = inr h

pub named_split : (m : Standing) (k : Token) (ts us : List Tried) → named m k (ts ++ us) ≡ true → (named m k ts ≡ true) ⊎ (named m k us ≡ true)
named_split m k ts us h = or_true (named m k ts) (named m k us) (back (named_append m k ts us) ∙ h)

among_append : (k : Token) (ks ls : List Token) → among k (ks ++ ls) ≡ cond (among k ks) true (among k ls)
among_append k [] ls = refl
among_append k (l ∷ ks) ls = go (same_token l k) (among_append k ks ls)
  where
    go : (b : Bool) → among k (ks ++ ls) ≡ cond (among k ks) true (among k ls) → cond b true (among k (ks ++ ls)) ≡ cond (cond b true (among k ks)) true (among k ls)
    go true h = refl
    go false h = h

among_split : (k : Token) (ks ls : List Token) → among k (ks ++ ls) ≡ true → (among k ks ≡ true) ⊎ (among k ls ≡ true)
among_split k ks ls h = or_true (among k ks) (among k ls) (back (among_append k ks ls) ∙ h)

pub one_only : (b : Bool) → cond b true false ≡ true → b ≡ true
one_only true h = refl
one_only false h = h

-- ---- the depth of a derivation

derives_map : (D E : Family) → ((s : Sym) (xs : List Item) (t : TreeOf s) → D s xs t → E s xs t) → (g : Grammar) (xs : List Item) (p : Parts g) → DerivesIn D g xs p → DerivesIn E g xs p
derives_map D E h (token k) xs p d = d
derives_map D E h (sym s) xs p d = h s xs p d
derives_map D E h (then g k) xs p d = (d.0, d.1, d.2, derives_map D E h g d.0 p.0 d.3, derives_map D E h k d.1 p.1 d.4)
derives_map D E h (either loud g k) xs (inl p) d = derives_map D E h g xs p d
derives_map D E h (either loud g k) xs (inr p) d = derives_map D E h k xs p d
derives_map D E h (nothing b) xs p d = d
derives_map D E h (to_end g) xs (inl p) d = d
derives_map D E h (to_end g) xs (inr p) d = derives_map D E h g xs p d
derives_map D E h (docs g) xs p d = (d.0, derives_map D E h g xs p.1 d.1)
derives_map D E h (not_empty e k g) xs p d = derives_map D E h g xs p d
derives_map D E h (more k s g) xs p d = derives_map D E h g xs p d
derives_map D E h (or_told g k l) xs (inl p) d = derives_map D E h g xs p d
derives_map D E h (or_told g k l) xs (inr p) d = (d.0, d.1, d.2, d.3, derives_map D E h l d.0 p.1 d.4)

deeper : (n : ℕ) (s : Sym) (xs : List Item) (t : TreeOf s) → DerivesBy n s xs t → DerivesBy (suc n) s xs t
deeper zero s xs t d = absurd d
deeper (suc n) s xs t d = (d.0, derives_map (DerivesBy n) (DerivesBy (suc n)) (deeper n) (rule s) xs d.0 d.1, d.2)

pub deep : (d n : ℕ) (s : Sym) (xs : List Item) (t : TreeOf s) → DerivesBy n s xs t → DerivesBy (d + n) s xs t
deep zero n s xs t h = let e : n ≡ 0 + n = omega arith in subst (λ (k : ℕ). DerivesBy k s xs t) e h
deep (suc d) n s xs t h = let e : suc (d + n) ≡ suc d + n = omega arith in subst (λ (k : ℕ). DerivesBy k s xs t) e (deeper (d + n) s xs t (deep d n s xs t h))

gather : (g : Grammar) (xs : List Item) (p : Parts g) → DerivesIn Derives g xs p → (n : ℕ) × DerivesIn (DerivesBy n) g xs p
gather (token k) xs p d = (0, d)
gather (sym s) xs p d = d
gather (then g k) xs p d =
    let a = gather g d.0 p.0 d.3 in
    let b = gather k d.1 p.1 d.4 in
    let e : b.0 + a.0 ≡ a.0 + b.0 = omega arith in
    (a.0 + b.0, (d.0, d.1, d.2, derives_map (DerivesBy a.0) (DerivesBy (a.0 + b.0)) (λ s xs t h. subst (λ (k : ℕ). DerivesBy k s xs t) e (deep b.0 a.0 s xs t h)) g d.0 p.0 a.1, derives_map (DerivesBy b.0) (DerivesBy (a.0 + b.0)) (deep a.0 b.0) k d.1 p.1 b.1))
gather (either loud g k) xs (inl p) d = gather g xs p d
gather (either loud g k) xs (inr p) d = gather k xs p d
gather (nothing b) xs p d = (0, d)
gather (to_end g) xs (inl p) d = (0, d)
gather (to_end g) xs (inr p) d = gather g xs p d
gather (docs g) xs p d = let a = gather g xs p.1 d.1 in (a.0, (d.0, a.1))
gather (not_empty e k g) xs p d = gather g xs p d
gather (more k s g) xs p d = gather g xs p d
gather (or_told g k l) xs (inl p) d = gather g xs p d
gather (or_told g k l) xs (inr p) d = let a = gather l d.0 p.1 d.4 in (a.0, (d.0, d.1, d.2, d.3, a.1))

pub by_rule : (s : Sym) (xs : List Item) (p : Parts (rule s)) → DerivesIn Derives (rule s) xs p → Derives s xs (build s p)
by_rule s xs p d = let a = gather (rule s) xs p d in (suc a.0, (p, a.1, refl))

-- ---- what begins with a given token

abbrev pub Sample : {A : Type 0} → (List Item → A → Type 0) → Type 0
Sample {A = A} D = (ys : List Item) × (p : A) × D ys p

abbrev pub FirstOf : {A : Type 0} → (List Item → A → Type 0) → Token → Type 0
FirstOf {A = A} D k = (x : Item) → IsOf k x → (zs : List Item) × (p : A) × D (x ∷ zs) p

abbrev pub NilOf : {A : Type 0} → (List Item → A → Type 0) → Type 0
NilOf {A = A} D = (p : A) × D [] p

module _ (D : Family) (r : ℕ) (nil : (s : Sym) → rank s < r → empty s ≡ true → NilOf (D s)) where
  nil_in : (g : Grammar) → ranked r g ≡ true → is_empty g ≡ true → NilOf (DerivesIn D g)
  nil_in (token k) ok e = absurd cc
  nil_in (sym s) ok e = nil s (ltb-true _ _ ok) e
  nil_in (then g h) ok e =
      let eg = both_left (is_empty g) (is_empty h) e in
      let a = nil_in g (both_left (ranked r g) (cond (is_empty g) (ranked r h) true) ok) eg in
      let okh : cond (is_empty g) (ranked r h) true ≡ true = both_right (ranked r g) (cond (is_empty g) (ranked r h) true) ok in
      let b = nil_in h (subst (λ (c : Bool). cond c (ranked r h) true ≡ true) eg okh) (both_right (is_empty g) (is_empty h) e) in
      ((a.0, b.0), ([], [], refl, a.1, b.1))
  nil_in (either loud g h) ok e = go (or_true (is_empty g) (is_empty h) e) (nil_in g (both_left (ranked r g) (ranked r h) ok)) (nil_in h (both_right (ranked r g) (ranked r h) ok))
    where
      go : (is_empty g ≡ true) ⊎ (is_empty h ≡ true) → (is_empty g ≡ true → NilOf (DerivesIn D g)) → (is_empty h ≡ true → NilOf (DerivesIn D h)) → NilOf (DerivesIn D (either loud g h))
      go (inl e) f k = let a = f e in (inl a.0, a.1)
      go (inr e) f k = let a = k e in (inr a.0, a.1)
  nil_in (nothing b) ok e = (tt, refl)
  nil_in (to_end g) ok e = (inl tt, refl)
  nil_in (docs g) ok e = let a = nil_in g ok e in (([], a.0), (refl, a.1))
  nil_in (not_empty n k g) ok e = nil_in g ok e
  nil_in (more k s g) ok e = nil_in g ok e
  nil_in (or_told g k h) ok e = let a = nil_in g ok e in (inl a.0, a.1)

pub by_nil : (r : ℕ) (s : Sym) → rank s < r → empty s ≡ true → NilOf (Derives s)
by_nil zero s lt e = absurd (omega arith)
by_nil (suc r) s lt e =
    let a = nil_in Derives (rank s) (λ u le m. by_nil r u (omega arith) m) (rule s) (rule_ranked s) (empty_is s ∙ e) in
    (build s a.0, by_rule s [] a.0 a.1)

module _ (D : Family) (sample : (s : Sym) → Sample (D s)) (item : (k : Token) → (x : Item) × IsOf k x) where
  pub sample_in : (g : Grammar) → Sample (DerivesIn D g)
  sample_in (token k) = let i = item k in (i.0 ∷ [], i.0, of_token k k i.0 (self_token k) i.1)
  sample_in (sym s) = sample s
  sample_in (then g h) = let a = sample_in g in let b = sample_in h in (a.0 ++ b.0, (a.1, b.1), (a.0, b.0, refl, a.2, b.2))
  sample_in (either loud g h) = let a = sample_in g in (a.0, inl a.1, a.2)
  sample_in (nothing b) = ([], tt, refl)
  sample_in (to_end g) = ([], inl tt, refl)
  sample_in (docs g) = let a = sample_in g in (a.0, (docs_of a.0, a.1), (refl, a.2))
  sample_in (not_empty e k g) = sample_in g
  sample_in (more k s g) = sample_in g
  sample_in (or_told g k h) = let a = sample_in g in (a.0, inl a.1, a.2)

  module _ (r : ℕ) (nil : (s : Sym) → rank s < r → empty s ≡ true → NilOf (D s)) (firsts : (s : Sym) → rank s < r → (k : Token) → among k (begins s) ≡ true → FirstOf (D s) k) where
    pub first_in : (g : Grammar) → ranked r g ≡ true → (k : Token) → among k (first g) ≡ true → FirstOf (DerivesIn D g) k
    first_in (token l) ok k h = λ x i. ([], x, of_token l k x (one_only (same_token l k) h) i)
    first_in (sym s) ok k h = firsts s (ltb-true _ _ ok) k h
    first_in (then g l) ok k h = go (is_empty g) refl h (first_in g (both_left (ranked r g) (cond (is_empty g) (ranked r l) true) ok) k) (first_in l)
      where
        okg : ranked r g ≡ true
        okg = both_left (ranked r g) (cond (is_empty g) (ranked r l) true) ok

        okl : is_empty g ≡ true → ranked r l ≡ true
        okl e = let o : cond (is_empty g) (ranked r l) true ≡ true = both_right (ranked r g) (cond (is_empty g) (ranked r l) true) ok in subst (λ (c : Bool). cond c (ranked r l) true ≡ true) e o

        left : FirstOf (DerivesIn D g) k → FirstOf (DerivesIn D (then g l)) k
        left f = λ x i. let a = f x i in let b = sample_in l in (a.0 ++ b.0, (a.1, b.1), (x ∷ a.0, b.0, refl, a.2, b.2))

        right : is_empty g ≡ true → FirstOf (DerivesIn D l) k → FirstOf (DerivesIn D (then g l)) k
        right e f = λ x i. let a = f x i in let n = nil_in D r nil g okg e in (a.0, (n.0, a.1), ([], x ∷ a.0, refl, n.1, a.2))

        pick : is_empty g ≡ true → (among k (first g) ≡ true) ⊎ (among k (first l) ≡ true) → (among k (first g) ≡ true → FirstOf (DerivesIn D g) k) → (ranked r l ≡ true → (k : Token) → among k (first l) ≡ true → FirstOf (DerivesIn D l) k) → FirstOf (DerivesIn D (then g l)) k
        pick e (inl h) f j = left (f h)
        pick e (inr h) f j = right e (j (okl e) k h)

        go : (b : Bool) → is_empty g ≡ b → among k (cond b (first g ++ first l) (first g)) ≡ true → (among k (first g) ≡ true → FirstOf (DerivesIn D g) k) → (ranked r l ≡ true → (k : Token) → among k (first l) ≡ true → FirstOf (DerivesIn D l) k) → FirstOf (DerivesIn D (then g l)) k
        go true e h f j = pick e (among_split k (first g) (first l) h) f j
        go false e h f j = left (f h)
    first_in (either loud g l) ok k h = go (among_split k (first g) (first l) h) (first_in g (both_left (ranked r g) (ranked r l) ok) k) (first_in l (both_right (ranked r g) (ranked r l) ok) k)
      where
        go : (among k (first g) ≡ true) ⊎ (among k (first l) ≡ true) → (among k (first g) ≡ true → FirstOf (DerivesIn D g) k) → (among k (first l) ≡ true → FirstOf (DerivesIn D l) k) → FirstOf (DerivesIn D (either loud g l)) k
        go (inl h) f j = λ x i. let a = f h x i in (a.0, inl a.1, a.2)
        go (inr h) f j = λ x i. let a = j h x i in (a.0, inr a.1, a.2)
    first_in (nothing b) ok k h = absurd cc
    first_in (to_end g) ok k h = λ x i. let a = first_in g ok k h x i in (a.0, inr a.1, a.2)
    first_in (docs g) ok k h = λ x i. let a = first_in g ok k h x i in (a.0, (x.docs, a.1), (refl, a.2))
    first_in (not_empty e l g) ok k h = first_in g ok k h
    first_in (more l s g) ok k h = first_in g ok k h
    first_in (or_told g l m) ok k h = go (among_split k (first g) (l ∷ []) h) (first_in g ok k)
      where
        go : (among k (first g) ≡ true) ⊎ (among k (l ∷ []) ≡ true) → (among k (first g) ≡ true → FirstOf (DerivesIn D g) k) → FirstOf (DerivesIn D (or_told g l m)) k
        go (inl h) f = λ x i. let a = f h x i in (a.0, inl a.1, a.2)
        go (inr h) f = λ x i. let b = sample_in m in let o = of_token l k x (one_only (same_token l k) h) i in (b.0, inr (x, b.1), (b.0, refl, o.1, o.2, b.2))

pub by_first : ((s : Sym) → Sample (Derives s)) → ((k : Token) → (x : Item) × IsOf k x) → (r : ℕ) (s : Sym) → rank s < r → (k : Token) → among k (begins s) ≡ true → FirstOf (Derives s) k
by_first sample item zero s lt k h = absurd (omega arith)
by_first sample item (suc r) s lt k h = λ x i.
    let a = first_in Derives sample item (rank s) (λ u le m. by_nil r u (omega arith) m) (λ u le l m. by_first sample item r u (omega arith) l m) (rule s) (rule_ranked s) k (subst (λ (ks : List Token). among k ks ≡ true) (back (begins_is s)) h) x i in
    (a.0, build s a.1, by_rule s (x ∷ a.0) a.1 a.2)
