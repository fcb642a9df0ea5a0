-- What is read is derived.
use Rattle.std.proofs.Common.{◌≡◌, ℕ, zero, suc, List, [], ◌∷◌, ◌++◌, map, Result, Ok, Err, Bool, true, false, cond, refl, sym as back, ap, subst, ◌∙◌, inl, inr, append_assoc}
use Rattle.wac_ast_grammar.proofs.Common.{Token, Item, Doc}
use Rattle.wac_ast_grammar.specs.Tokens.{is_token, valid, at}
use Rattle.wac_ast_grammar.specs.Grammar.{Sym, rule, build, TreeOf, Parts, Grammar, token, sym, then, either, nothing, to_end, docs, not_empty, more, or_told, docs_of, DerivesIn, DerivesBy, Derives}
use Rattle.wac_ast_grammar.specs.Reading.{Tried, can, closes, Stop, version, refuse, mapped, pair_with, read, read_by, read_in, read_token, read_sym, led, two, is_empty, begins, first, at_one_of, may_leave, enough}
use Rattle.wac_ast_grammar.proofs.Fixed.{Reader, both, both_left, both_right}
use Rattle.wac_ast_grammar.proofs.Tables.{continues, negated, not_true, lawful, rule_lawful, apart, among, pickable, clash, both_lawful}
use Rattle.wac_ast_grammar.proofs.Complete.{Family, begins_in, by_begins}

-- a prefix of the items is derived
abbrev pub Fronted : {A : Type 0} → (List Item → A → Type 0) → List Item → Result (A × List Item) Stop → Type 0
Fronted D xs (Ok x) = (front : List Item) × (xs ≡ front ++ x.1) × D front x.0
Fronted D xs (Err s) = Unit {0}

fronted_map : {A B : Type 0} (D : List Item → A → Type 0) (E : List Item → B → Type 0) (f : A → B) → ((ys : List Item) (a : A) → D ys a → E ys (f a)) → (xs : List Item) (m : Result (A × List Item) Stop) → Fronted D xs m → Fronted E xs (mapped f m)
fronted_map D E f h xs (Ok x) d = (d.0, d.1, h d.0 x.0 d.2)
fronted_map D E f h xs (Err s) d = tt

fronted_cond : {A : Type 0} (D : List Item → A → Type 0) (b : Bool) (xs : List Item) (m n : Result (A × List Item) Stop) → Fronted D xs m → Fronted D xs n → Fronted D xs (cond b m n)
fronted_cond D true xs m n h k = h
fronted_cond D false xs m n h k = k

fronted_two : {A B : Type 0} (D : List Item → A → Type 0) (E : List Item → B → Type 0) (F : List Item → A × B → Type 0) → ((ys zs : List Item) (a : A) (b : B) → D ys a → E zs b → F (ys ++ zs) (a, b))
    → (xs : List Item) (m : Result (A × List Item) Stop) (f : A → List Item → Result (B × List Item) Stop) → Fronted D xs m → ((a : A) (ys : List Item) → Fronted E ys (f a ys)) → Fronted F xs (two m f)
fronted_two D E F h xs (Err s) f d e = tt
fronted_two {B = B} D E F h xs (Ok x) f d e = go (f x.0 x.1) (e x.0 x.1)
  where
    go : (n : Result (B × List Item) Stop) → Fronted E x.1 n → Fronted F xs (pair_with x.0 n)
    go (Err s) e = tt
    go (Ok y) e = (d.0 ++ e.0, d.1 ∙ ap (λ (ys : List Item). d.0 ++ ys) e.1 ∙ back (append_assoc d.0 e.0 y.1), h d.0 e.0 x.0 y.0 d.2 e.2)

abbrev pub OfToken : Token → List Item → Item → Type 0
OfToken k ys x = (ys ≡ x ∷ []) × (is_token k x.token ≡ true) × (valid k x.text ≡ true)

pub token_fronted : (tried : List Tried) (k : Token) (xs : List Item) → Fronted (OfToken k) xs (read_token tried k xs)
token_fronted tried k [] = tt
token_fronted tried k (x ∷ xs) = go (is_token k x.token) refl (valid k x.text) refl
  where
    go : (b : Bool) → is_token k x.token ≡ b → (c : Bool) → valid k x.text ≡ c → Fronted (OfToken k) (x ∷ xs) (cond b (cond c (Ok (x, xs)) (Err (record { left = x ∷ xs; expected = can k ∷ []; why = version }))) (refuse (x ∷ xs) (tried ++ (can k ∷ []))))
    go true e true v = (x ∷ [], refl, (refl, e, v))
    go true e false v = tt
    go false e c v = tt

-- the docs are those of what was read
fronted_docs : {A : Type 0} (D : List Item → A → Type 0) (F : List Item → List Doc × A → Type 0) → ((ys : List Item) (a : A) → D ys a → F ys (docs_of ys, a)) → ((a : A) → D [] a → ⊥) → (xs : List Item) (m : Result (A × List Item) Stop) → Fronted D xs m → Fronted F xs (pair_with (docs_of xs) m)
fronted_docs D F h some xs (Err s) d = tt
fronted_docs {A = A} D F h some xs (Ok x) d = go d.0 d.1 d.2
  where
    go : (front : List Item) → xs ≡ front ++ x.1 → D front x.0 → Fronted F xs (Ok ((docs_of xs, x.0), x.1))
    go [] e d = absurd (some x.0 d)
    go (y ∷ ys) e d = (y ∷ ys, e, subst (λ (ds : List Doc). F (y ∷ ys) (ds, x.0)) (ap docs_of (back e)) (h (y ∷ ys) x.0 d))

module _ (D : Family) (some : (g : Grammar) (p : Parts g) → is_empty g ≡ false → DerivesIn D g [] p → ⊥) (rec : Reader) (sound : (s : Sym) (xs : List Item) → Fronted (D s) xs (rec s xs)) where
  sym_fronted : (s : Sym) (tried : List Tried) (xs : List Item) → Fronted (D s) xs (read_sym (rec s) (begins s) tried xs)
  sym_fronted s [] xs = sound s xs
  sym_fronted s (k ∷ ks) xs = fronted_cond (D s) (at_one_of (begins s) xs) xs (rec s xs) (refuse xs ((k ∷ ks) ++ map can (begins s))) (sound s xs) tt

  pub sound_in : (g : Grammar) (tried : List Tried) (xs : List Item) → lawful g ≡ true → Fronted (DerivesIn D g) xs (read_in rec g tried xs)
  sound_in (token k) tried xs ok = token_fronted tried k xs
  sound_in (sym s) tried xs ok = sym_fronted s tried xs
  sound_in (then g h) tried xs ok =
      let oks = both_lawful (lawful g) (lawful h) (apart (first h) (clash g)) ok in
      fronted_two (DerivesIn D g) (DerivesIn D h) (DerivesIn D (then g h)) (λ ys zs a b d e. (ys, zs, refl, d, e)) xs (read_in rec g tried xs) (λ a. read_in rec h []) (sound_in g tried xs oks.0) (λ a ys. sound_in h [] ys oks.1)
  sound_in (either loud g h) tried xs ok =
      let oks = both_lawful (lawful g) (lawful h) (both (negated (is_empty g)) (both (apart (first h) (first g)) (pickable h))) ok in
      fronted_cond (DerivesIn D (either loud g h)) (at_one_of (first g) xs) xs _ _
      (fronted_map (DerivesIn D g) (DerivesIn D (either loud g h)) inl (λ ys a d. d) xs (read_in rec g [] xs) (sound_in g [] xs oks.0))
      (fronted_map (DerivesIn D h) (DerivesIn D (either loud g h)) inr (λ ys a d. d) xs (read_in rec h (tried ++ cond loud (map can (first g)) []) xs) (sound_in h (tried ++ cond loud (map can (first g)) []) xs oks.1))
  sound_in (nothing b) tried xs ok = fronted_cond (DerivesIn D (nothing b)) (may_leave b xs) xs (Ok (tt, xs)) (refuse xs tried) ([], refl, refl) tt
  sound_in (to_end g) tried [] ok = ([], refl, refl)
  sound_in (to_end g) tried (x ∷ xs) ok = fronted_map (DerivesIn D g) (DerivesIn D (to_end g)) inr (λ ys a d. d) (x ∷ xs) (read_in rec g [] (x ∷ xs)) (sound_in g [] (x ∷ xs) (both_left (lawful g) (negated (is_empty g)) ok))
  sound_in (docs g) tried xs ok = fronted_docs (DerivesIn D g) (DerivesIn D (docs g)) (λ ys a d. (refl, d)) (λ a. some g a (not_true (is_empty g) (both_right (lawful g) (negated (is_empty g)) ok))) xs (read_in rec g tried xs) (sound_in g tried xs (both_left (lawful g) (negated (is_empty g)) ok))
  sound_in (not_empty e k g) tried xs ok = fronted_cond (DerivesIn D g) (at k xs) xs _ _ tt (sound_in g (tried ++ (closes k ∷ [])) xs (both_lawful (lawful g) (negated (is_empty g)) (both (apart (first g) (k ∷ [])) (pickable g)) ok).0)
  sound_in (more k s g) tried [] ok = tt
  sound_in (more k s g) tried (x ∷ xs) ok = sound_in g tried (x ∷ xs) (both_lawful (lawful g) (negated (is_empty g)) (both (among k (first g)) (continues (k ∷ begins s) g)) ok).0
  sound_in (or_told g k h) tried xs ok =
      let oks = both_lawful (lawful g) (lawful h) (both (negated (is_empty g)) (both (apart (k ∷ []) (first g)) (negated (is_empty h)))) ok in
      fronted_cond (DerivesIn D (or_told g k h)) (at_one_of (first g) xs) xs _ _
      (fronted_map (DerivesIn D g) (DerivesIn D (or_told g k h)) inl (λ ys a d. d) xs (read_in rec g [] xs) (sound_in g [] xs oks.0))
      (fronted_map (λ (ys : List Item) (a : Item × Parts h). DerivesIn D (or_told g k h) ys (inr a)) (DerivesIn D (or_told g k h)) inr (λ ys a d. d) xs _
      (fronted_two (OfToken k) (DerivesIn D h) (λ (ys : List Item) (a : Item × Parts h). DerivesIn D (or_told g k h) ys (inr a)) (λ ys zs a b d e. (zs, ap (λ (us : List Item). us ++ zs) d.0, d.1, d.2, e)) xs
      (read_token (tried ++ map can (first g)) k xs) (led (first h) (map can (first g)) (read_in rec h [])) (token_fronted (tried ++ map can (first g)) k xs)
      (λ a ys. fronted_cond (DerivesIn D h) (at_one_of (first h) ys) ys (read_in rec h [] ys) _ (sound_in h [] ys oks.1) tt)))

pub not_nothing : (n : ℕ) (g : Grammar) (p : Parts g) → is_empty g ≡ false → DerivesIn (DerivesBy n) g [] p → ⊥
not_nothing n g p e d = let b = begins_in (DerivesBy n) (by_begins n) g [] p d in absurd cc

pub by_sound : (n : ℕ) (s : Sym) (xs : List Item) → Fronted (DerivesBy n s) xs (read_by n s xs)
by_sound zero s xs = tt
by_sound (suc n) s xs = fronted_map (DerivesIn (DerivesBy n) (rule s)) (DerivesBy (suc n) s) (build s) (λ ys p d. (p, d, refl)) xs (read_in (read_by n) (rule s) [] xs) (sound_in (DerivesBy n) (not_nothing n) (read_by n) (by_sound n) (rule s) [] xs (rule_lawful s))

-- WHAT IS READ IS DERIVED
pub sound : (s : Sym) (xs : List Item) (t : TreeOf s) (rest : List Item) → read s xs ≡ Ok (t, rest) → (front : List Item) × (xs ≡ front ++ rest) × Derives s front t
unfolding read
sound s xs t rest h =
    let d = subst (λ (m : Result (TreeOf s × List Item) Stop). Fronted (DerivesBy (suc (enough xs)) s) xs m) h (by_sound (suc (enough xs)) s xs) in
    (d.0, d.1, (suc (enough xs), d.2))
