-- Reading a symbol is reading its rule.
use Rattle.std.proofs.Common.{◌≡◌, ℕ, zero, suc, ◌+◌, ◌*◌, ◌<◌, ◌≤◌, arith, List, [], ◌∷◌, ◌++◌, length, map, Result, Ok, Err, Bool, true, false, cond, ltb, refl, sym as back, ap, subst, ◌∙◌, ◌⊎◌, inl, inr}
use Rattle.wac_ast_grammar.proofs.Common.{ltb-true, Token, Item}
use Rattle.wac_ast_grammar.specs.Tokens.{is_token, valid, at}
use Rattle.wac_ast_grammar.specs.Grammar.{Sym, rule, build, TreeOf, Parts, Grammar, token, sym, then, either, nothing, to_end, docs, not_empty, more, or_told, docs_of, list_items, more_items, arguments}
use Rattle.wac_ast_grammar.specs.Reading.{Tried, can, closes, Stop, refuse, mapped, pair_with, two, read, read_by, read_in, read_token, read_sym, led, built, empty, is_empty, begins, first, at_one_of, may_leave, enough}
use Rattle.wac_ast_grammar.proofs.Ranks.{rank, measure}

-- ---- how much is taken

abbrev pub Shrinks : {A : Type 0} → Bool → List Item → Result (A × List Item) Stop → Type 0
Shrinks e xs (Ok x) = length x.1 + cond e 0 1 ≤ length xs
Shrinks e xs (Err s) = Unit {0}

shrinks_map : {A B : Type 0} (e : Bool) (xs : List Item) (m : Result (A × List Item) Stop) (f : A → B) → Shrinks e xs m → Shrinks e xs (mapped f m)
shrinks_map e xs (Err s) f h = tt
shrinks_map e xs (Ok x) f h = h

shrinks_less : {A : Type 0} (e : Bool) (xs : List Item) (m : Result (A × List Item) Stop) → Shrinks e xs m → Shrinks true xs m
shrinks_less e xs (Err s) h = tt
shrinks_less e xs (Ok x) h = omega arith

shrinks_any : {A : Type 0} (e : Bool) (xs : List Item) (m : Result (A × List Item) Stop) → Shrinks false xs m → Shrinks e xs m
shrinks_any true xs m h = shrinks_less false xs m h
shrinks_any false xs m h = h

shrinks_two : {A B : Type 0} (e d : Bool) (xs : List Item) (m : Result (A × List Item) Stop) (f : A → List Item → Result (B × List Item) Stop)
    → Shrinks e xs m → ((a : A) (ys : List Item) → Shrinks d ys (f a ys)) → Shrinks (cond e d false) xs (two m f)
shrinks_two e d xs (Err s) f h g = tt
shrinks_two {B = B} e d xs (Ok x) f h g = go e d (f x.0 x.1) h (g x.0 x.1)
  where
    go : (e d : Bool) (m : Result (B × List Item) Stop) → length x.1 + cond e 0 1 ≤ length xs → Shrinks d x.1 m → Shrinks (cond e d false) xs (pair_with x.0 m)
    go e d (Err s) h k = tt
    go true true (Ok y) h k = omega arith
    go true false (Ok y) h k = omega arith
    go false true (Ok y) h k = omega arith
    go false false (Ok y) h k = omega arith

shrinks_both : {A : Type 0} (b e : Bool) (xs : List Item) (m n : Result (A × List Item) Stop) → Shrinks e xs m → Shrinks e xs n → Shrinks e xs (cond b m n)
shrinks_both true e xs m n h k = h
shrinks_both false e xs m n h k = k

shrinks_cond : {A : Type 0} (b e d : Bool) (xs : List Item) (m n : Result (A × List Item) Stop) → Shrinks e xs m → Shrinks d xs n → Shrinks (cond e true d) xs (cond b m n)
shrinks_cond true true d xs m n h k = h
shrinks_cond true false true xs m n h k = shrinks_less false xs m h
shrinks_cond true false false xs m n h k = h
shrinks_cond false true d xs m n h k = shrinks_less d xs n k
shrinks_cond false false d xs m n h k = k

abbrev pub Reader : Type 0
Reader = (s : Sym) → List Item → Result (TreeOf s × List Item) Stop

abbrev pub AllShrink : Reader → Type 0
AllShrink rec = (s : Sym) (xs : List Item) → Shrinks (empty s) xs (rec s xs)

pub token_shrinks : (tried : List Tried) (k : Token) (xs : List Item) → Shrinks false xs (read_token tried k xs)
token_shrinks tried k [] = tt
token_shrinks tried k (x ∷ xs) = shrinks_both {A = Item} (is_token k x.token) false (x ∷ xs) _ _ (shrinks_both {A = Item} (valid k x.text) false (x ∷ xs) _ _ (omega arith) tt) tt

sym_shrinks : {A : Type 0} (e : Bool) (f : List Item → Result (A × List Item) Stop) (ks : List Token) (tried : List Tried) (xs : List Item) → Shrinks e xs (f xs) → Shrinks e xs (read_sym f ks tried xs)
sym_shrinks e f ks [] xs h = h
sym_shrinks e f ks (t ∷ ts) xs h = shrinks_both (at_one_of ks xs) e xs (f xs) _ h tt

module _ (rec : Reader) (h : AllShrink rec) where
  pub in_shrinks : (g : Grammar) (tried : List Tried) (xs : List Item) → Shrinks (is_empty g) xs (read_in rec g tried xs)
  in_shrinks (token k) tried xs = token_shrinks tried k xs
  in_shrinks (sym s) tried xs = sym_shrinks (empty s) (rec s) (begins s) tried xs (h s xs)
  in_shrinks (then g k) tried xs = shrinks_two (is_empty g) (is_empty k) xs (read_in rec g tried xs) (λ a. read_in rec k []) (in_shrinks g tried xs) (λ a ys. in_shrinks k [] ys)
  in_shrinks (either loud g k) tried xs =
      shrinks_cond {A = Parts g ⊎ Parts k} (at_one_of (first g) xs) (is_empty g) (is_empty k) xs _ _ (shrinks_map (is_empty g) xs (read_in rec g [] xs) inl (in_shrinks g [] xs)) (shrinks_map (is_empty k) xs (read_in rec k (tried ++ cond loud (map can (first g)) []) xs) inr (in_shrinks k (tried ++ cond loud (map can (first g)) []) xs))
  in_shrinks (nothing b) tried xs = shrinks_both {A = Unit {0}} (may_leave b xs) true xs _ _ (omega arith) tt
  in_shrinks (to_end g) tried [] = omega arith
  in_shrinks (to_end g) tried (x ∷ xs) = shrinks_less (is_empty g) (x ∷ xs) _ (shrinks_map (is_empty g) (x ∷ xs) (read_in rec g [] (x ∷ xs)) inr (in_shrinks g [] (x ∷ xs)))
  in_shrinks (docs g) tried xs = shrinks_map (is_empty g) xs (read_in rec g tried xs) (λ b. (docs_of xs, b)) (in_shrinks g tried xs)
  in_shrinks (not_empty e k g) tried xs = shrinks_both {A = Parts g} (at k xs) (is_empty g) xs _ _ tt (in_shrinks g (tried ++ (closes k ∷ [])) xs)
  in_shrinks (more k s g) tried [] = tt
  in_shrinks (more k s g) tried (x ∷ xs) = in_shrinks g tried (x ∷ xs)
  in_shrinks (or_told g k l) tried xs =
      shrinks_both {A = Parts g ⊎ (Item × Parts l)} (at_one_of (first g) xs) (is_empty g) xs _ _ (shrinks_map (is_empty g) xs (read_in rec g [] xs) inl (in_shrinks g [] xs))
      (shrinks_any (is_empty g) xs _ (shrinks_map false xs _ inr (shrinks_two false (is_empty l) xs (read_token (tried ++ map can (first g)) k xs) (led (first l) (map can (first g)) (read_in rec l [])) (token_shrinks (tried ++ map can (first g)) k xs)
      (λ a ys. shrinks_both (at_one_of (first l) ys) (is_empty l) ys (read_in rec l [] ys) _ (in_shrinks l [] ys) tt))))

-- the table of the empty ones is right
pub empty_is : (s : Sym) → is_empty (rule s) ≡ empty s
empty_is (list_items arguments) = refl
empty_is (more_items arguments) = refl
empty_is _ = refl

pub by_shrinks : (n : ℕ) → AllShrink (read_by n)
by_shrinks zero s xs = tt
by_shrinks (suc n) s xs = subst (λ (e : Bool). Shrinks e xs (read_by (suc n) s xs)) (empty_is s) (shrinks_map (is_empty (rule s)) xs (read_in (read_by n) (rule s) [] xs) (build s) (in_shrinks (read_by n) (by_shrinks n) (rule s) [] xs))

-- ---- how deep it goes

abbrev pub both : Bool → Bool → Bool
both a b = cond a b false

pub both_left : (a b : Bool) → both a b ≡ true → a ≡ true
both_left true b h = refl
both_left false b h = absurd cc

pub both_right : (a b : Bool) → both a b ≡ true → b ≡ true
both_right true b h = h
both_right false b h = absurd cc

-- what comes first has a lower rank
abbrev pub ranked : ℕ → Grammar → Bool
ranked r (token k) = true
ranked r (sym s) = ltb (rank s) r
ranked r (then g h) = both (ranked r g) (cond (is_empty g) (ranked r h) true)
ranked r (either loud g h) = both (ranked r g) (ranked r h)
ranked r (nothing b) = true
ranked r (to_end g) = ranked r g
ranked r (docs g) = ranked r g
ranked r (not_empty e k g) = ranked r g
ranked r (more k s g) = ranked r g
ranked r (or_told g k h) = ranked r g

pub rule_ranked : (s : Sym) → ranked (rank s) (rule s) ≡ true
rule_ranked (list_items arguments) = refl
rule_ranked (more_items arguments) = refl
rule_ranked _ = refl

pub rank_below : (s : Sym) → ltb (rank s) 5 ≡ true
rank_below (list_items arguments) = refl
rank_below (more_items arguments) = refl
rank_below _ = refl

pub all_ranked : (g : Grammar) → ranked 5 g ≡ true
all_ranked (token k) = refl
all_ranked (sym s) = rank_below s
all_ranked (then g h) = rw (all_ranked g) (go (is_empty g) (all_ranked h))
  where
    go : (e : Bool) → ranked 5 h ≡ true → cond e (ranked 5 h) true ≡ true
    go true k = k
    go false k = refl
all_ranked (either loud g h) = rw (all_ranked g) (all_ranked h)
all_ranked (nothing b) = refl
all_ranked (to_end g) = all_ranked g
all_ranked (docs g) = all_ranked g
all_ranked (not_empty e k g) = all_ranked g
all_ranked (more k s g) = all_ranked g
all_ranked (or_told g k h) = all_ranked g

abbrev pub Agree : ℕ → Reader → Reader → Type 0
Agree k rec other = (s : Sym) (xs : List Item) → measure s xs < k → rec s xs ≡ other s xs

two_agree : {A B : Type 0} (e : Bool) (xs : List Item) (m n : Result (A × List Item) Stop) (f g : A → List Item → Result (B × List Item) Stop)
    → Shrinks e xs m → m ≡ n → ((a : A) (ys : List Item) → length ys + cond e 0 1 ≤ length xs → f a ys ≡ g a ys) → two m f ≡ two n g
two_agree e xs (Err s) n f g h eq k = ap (λ o. two o g) eq
two_agree e xs (Ok x) n f g h eq k = ap (pair_with x.0) (k x.0 x.1 h) ∙ ap (λ o. two o g) eq

cond_agree : {A : Type 0} (b : Bool) (x y z w : A) → x ≡ y → z ≡ w → cond b x z ≡ cond b y w
cond_agree true x y z w e f = e
cond_agree false x y z w e f = f

after_first : (k r n m : ℕ) (e ok : Bool) (P : Type 0) → cond e ok true ≡ true → n + cond e 0 1 ≤ m → r ≤ 5 → m * 5 + r ≤ k → (ok ≡ true → n * 5 + r ≤ k → P) → (n * 5 + 5 ≤ k → P) → P
after_first k r n m true ok P fine len small le same lower = same fine (omega arith)
after_first k r n m false ok P fine len small le same lower = lower (omega arith)

module _ (k : ℕ) (rec other : Reader) (h : Agree k rec other) (sh : AllShrink rec) where
  in_agree : (g : Grammar) (tried : List Tried) (xs : List Item) (r : ℕ) → ranked r g ≡ true → r ≤ 5 → length xs * 5 + r ≤ k → read_in rec g tried xs ≡ read_in other g tried xs
  in_agree (token t) tried xs r ok small le = refl
  in_agree (sym s) [] xs r ok small le = h s xs (let lt : rank s < r = ltb-true _ _ ok in omega arith)
  in_agree (sym s) (t ∷ ts) xs r ok small le = let lt : rank s < r = ltb-true _ _ ok in ap (λ m. cond (at_one_of (begins s) xs) m (refuse xs ((t ∷ ts) ++ map can (begins s)))) (h s xs (omega arith))
  in_agree (then g l) tried xs r ok small le =
      two_agree (is_empty g) xs (read_in rec g tried xs) (read_in other g tried xs) (λ a. read_in rec l []) (λ a. read_in other l [])
      (in_shrinks rec sh g tried xs) (in_agree g tried xs r (both_left (ranked r g) (cond (is_empty g) (ranked r l) true) ok) small le)
      (λ a ys len. after_first k r (length ys) (length xs) (is_empty g) (ranked r l) (read_in rec l [] ys ≡ read_in other l [] ys) (both_right (ranked r g) (cond (is_empty g) (ranked r l) true) ok) len small le
      (λ p q. in_agree l [] ys r p small q) (λ q. in_agree l [] ys 5 (all_ranked l) (omega arith) q))
  in_agree (either loud g l) tried xs r ok small le =
      cond_agree (at_one_of (first g) xs) _ _ _ _
      (ap (mapped inl) (in_agree g [] xs r (both_left (ranked r g) (ranked r l) ok) small le))
      (ap (mapped inr) (in_agree l (tried ++ cond loud (map can (first g)) []) xs r (both_right (ranked r g) (ranked r l) ok) small le))
  in_agree (nothing b) tried xs r ok small le = refl
  in_agree (to_end g) tried [] r ok small le = refl
  in_agree (to_end g) tried (x ∷ xs) r ok small le = ap (mapped inr) (in_agree g [] (x ∷ xs) r ok small le)
  in_agree (docs g) tried xs r ok small le = ap (pair_with (docs_of xs)) (in_agree g tried xs r ok small le)
  in_agree (not_empty e t g) tried xs r ok small le = cond_agree (at t xs) _ _ _ _ refl (in_agree g (tried ++ (closes t ∷ [])) xs r ok small le)
  in_agree (more t s g) tried [] r ok small le = refl
  in_agree (more t s g) tried (x ∷ xs) r ok small le = in_agree g tried (x ∷ xs) r ok small le
  in_agree (or_told g t l) tried xs r ok small le =
      cond_agree (at_one_of (first g) xs) _ _ _ _
      (ap (mapped inl) (in_agree g [] xs r ok small le))
      (ap (mapped inr) (two_agree false xs (read_token (tried ++ map can (first g)) t xs) (read_token (tried ++ map can (first g)) t xs) (led (first l) (map can (first g)) (read_in rec l [])) (led (first l) (map can (first g)) (read_in other l []))
      (token_shrinks (tried ++ map can (first g)) t xs) refl
      (λ a ys len. cond_agree (at_one_of (first l) ys) _ _ _ _ (in_agree l [] ys 5 (all_ranked l) (omega arith) (omega arith)) refl)))

by_agree : (n : ℕ) → Agree n (read_by n) (read_by (suc n))
by_agree zero s xs lt = absurd (omega arith)
by_agree (suc n) s xs lt = ap (built s) (in_agree n (read_by n) (read_by (suc n)) (by_agree n) (by_shrinks n) (rule s) [] xs (rank s) (rule_ranked s) (let b : rank s < 5 = ltb-true _ _ (rank_below s) in omega arith) (omega arith))

by_more : (d n : ℕ) (s : Sym) (xs : List Item) → measure s xs < n → read_by n s xs ≡ read_by (d + n) s xs
by_more zero n s xs lt = let e : n ≡ 0 + n = omega arith in ap (λ k. read_by k s xs) e
by_more (suc d) n s xs lt = let e : suc (d + n) ≡ suc d + n = omega arith in by_more d n s xs lt ∙ by_agree (d + n) s xs (omega arith) ∙ ap (λ k. read_by k s xs) e

is_enough : (s : Sym) (xs : List Item) → measure s xs < suc (enough xs)
is_enough s xs = let b : rank s < 5 = ltb-true _ _ (rank_below s) in omega arith

pub agree_read : (n : ℕ) → Agree n (read_by n) read
unfolding read
agree_read n s xs lt =
    let m : ℕ = suc (enough xs) in
    let e : m + n ≡ n + m = omega arith in
    by_more m n s xs lt ∙ ap (λ k. read_by k s xs) e ∙ back (by_more n m s xs (is_enough s xs))

pub read_is : (s : Sym) (xs : List Item) → read s xs ≡ built s (read_in read (rule s) [] xs)
unfolding read
read_is s xs = ap (built s) (in_agree (enough xs) (read_by (enough xs)) read (agree_read (enough xs)) (by_shrinks (enough xs)) (rule s) [] xs (rank s) (rule_ranked s) (let b : rank s < 5 = ltb-true _ _ (rank_below s) in omega arith) (let b : rank s < 5 = ltb-true _ _ (rank_below s) in omega arith))

shrinks : (s : Sym) (xs : List Item) → Shrinks (empty s) xs (read s xs)
unfolding read
shrinks s xs = by_shrinks (suc (enough xs)) s xs

pub takes : (s : Sym) (xs : List Item) (t : TreeOf s) (rest : List Item) → read s xs ≡ Ok (t, rest) → length rest ≤ length xs
takes s xs t rest h = let k = subst (λ (m : Result (TreeOf s × List Item) Stop). Shrinks (empty s) xs m) h (shrinks s xs) in omega arith

pub takes_some : (s : Sym) (xs : List Item) (t : TreeOf s) (rest : List Item) → read s xs ≡ Ok (t, rest) → empty s ≡ false → length rest < length xs
takes_some s xs t rest h e = let k = subst (λ (d : Bool). Shrinks {A = TreeOf s} d xs (Ok (t, rest))) e (subst (λ (m : Result (TreeOf s × List Item) Stop). Shrinks (empty s) xs m) h (shrinks s xs)) in omega arith
