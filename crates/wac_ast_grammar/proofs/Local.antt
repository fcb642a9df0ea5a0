-- Reading looks at no item past the one at which it stops.
use Rattle.std.proofs.Common.{◌≡◌, ℕ, zero, suc, ◌+◌, ◌-◌, ◌≤◌, arith, List, [], ◌∷◌, ◌++◌, length, map, Result, Ok, Err, Bool, true, false, cond, refl, sym as back, ap, subst, ◌∙◌, ◌⊎◌, inl, inr}
use Rattle.wac_ast_grammar.proofs.Common.{Token, Item, Doc, Error}
use Rattle.wac_ast_grammar.specs.Tokens.{is_token, is_bad, valid, at}
use Rattle.wac_ast_grammar.specs.Grammar.{Sym, rule, build, TreeOf, Parts, After, anything, no_fault, one_among, Grammar, token, sym, then, either, nothing, to_end, docs, not_empty, more, or_told, docs_of, Derives}
use Rattle.wac_ast_grammar.specs.Reading.{Tried, can, closes, follows, Stop, Why, other, version, empty_body, told, refuse, mapped, pair_with, read, read_by, read_in, read_token, read_sym, led, two, begins, first, at_one_of, may_leave}
use Rattle.wac_ast_grammar.proofs.Ranks.{measure}
use Rattle.wac_ast_grammar.proofs.Fixed.{Reader, agree_read}
use Rattle.wac_ast_grammar.proofs.Tables.{at_one_of_head, one_of, clashes, needs_more}
use Rattle.wac_ast_grammar.proofs.Complete.{may_follow, complete_before}

-- ---- what is left is no longer

abbrev pub Bound : {A : Type 0} → List Item → Result (A × List Item) Stop → Type 0
Bound xs (Ok x) = length x.1 ≤ length xs
Bound xs (Err s) = length s.left ≤ length xs

bound_map : {A B : Type 0} (xs : List Item) (m : Result (A × List Item) Stop) (f : A → B) → Bound xs m → Bound xs (mapped f m)
bound_map xs (Ok x) f h = h
bound_map xs (Err s) f h = h

bound_cond : {A : Type 0} (b : Bool) (xs : List Item) (m n : Result (A × List Item) Stop) → Bound xs m → Bound xs n → Bound xs (cond b m n)
bound_cond true xs m n h k = h
bound_cond false xs m n h k = k

bound_two : {A B : Type 0} (xs : List Item) (m : Result (A × List Item) Stop) (f : A → List Item → Result (B × List Item) Stop) → Bound xs m → ((a : A) (ys : List Item) → Bound ys (f a ys)) → Bound xs (two m f)
bound_two xs (Err s) f h k = h
bound_two {B = B} xs (Ok x) f h k = go (f x.0 x.1) (k x.0 x.1)
  where
    go : (n : Result (B × List Item) Stop) → Bound x.1 n → Bound xs (pair_with x.0 n)
    go (Ok y) e = omega arith
    go (Err s) e = omega arith

token_bound : (tried : List Tried) (k : Token) (xs : List Item) → Bound xs (read_token tried k xs)
token_bound tried k [] = omega arith
token_bound tried k (x ∷ xs) = bound_cond {A = Item} (is_token k x.token) (x ∷ xs) _ _ (bound_cond {A = Item} (valid k x.text) (x ∷ xs) _ _ (omega arith) (omega arith)) (omega arith)

sym_bound : {A : Type 0} (f : List Item → Result (A × List Item) Stop) (ks : List Token) (tried : List Tried) (xs : List Item) → Bound xs (f xs) → Bound xs (read_sym f ks tried xs)
sym_bound f ks [] xs h = h
sym_bound f ks (t ∷ ts) xs h = bound_cond (at_one_of ks xs) xs (f xs) (refuse xs ((t ∷ ts) ++ map can ks)) h (omega arith)

led_bound : {A : Type 0} (ks : List Token) (names : List Tried) (f : List Item → Result (A × List Item) Stop) (x : Item) (xs : List Item) → Bound xs (f xs) → Bound xs (led ks names f x xs)
led_bound ks names f x xs h = bound_cond (at_one_of ks xs) xs (f xs) _ h (omega arith)

module _ (rec : Reader) (h : (s : Sym) (xs : List Item) → Bound xs (rec s xs)) where
  in_bound : (g : Grammar) (tried : List Tried) (xs : List Item) → Bound xs (read_in rec g tried xs)
  in_bound (token k) tried xs = token_bound tried k xs
  in_bound (sym s) tried xs = sym_bound (rec s) (begins s) tried xs (h s xs)
  in_bound (then g k) tried xs = bound_two xs (read_in rec g tried xs) (λ a. read_in rec k []) (in_bound g tried xs) (λ a ys. in_bound k [] ys)
  in_bound (either loud g k) tried xs = bound_cond {A = Parts g ⊎ Parts k} (at_one_of (first g) xs) xs _ _ (bound_map xs (read_in rec g [] xs) inl (in_bound g [] xs)) (bound_map xs (read_in rec k (tried ++ cond loud (map can (first g)) []) xs) inr (in_bound k (tried ++ cond loud (map can (first g)) []) xs))
  in_bound (nothing b) tried xs = bound_cond {A = Unit {0}} (may_leave b xs) xs _ _ (omega arith) (omega arith)
  in_bound (to_end g) tried [] = omega arith
  in_bound (to_end g) tried (x ∷ xs) = bound_map (x ∷ xs) (read_in rec g [] (x ∷ xs)) inr (in_bound g [] (x ∷ xs))
  in_bound (docs g) tried xs = bound_map xs (read_in rec g tried xs) (λ b. (docs_of xs, b)) (in_bound g tried xs)
  in_bound (not_empty e k g) tried xs = bound_cond {A = Parts g} (at k xs) xs _ _ (omega arith) (in_bound g (tried ++ (closes k ∷ [])) xs)
  in_bound (more k s g) tried [] = omega arith
  in_bound (more k s g) tried (x ∷ xs) = in_bound g tried (x ∷ xs)
  in_bound (or_told g k l) tried xs = bound_cond {A = Parts g ⊎ (Item × Parts l)} (at_one_of (first g) xs) xs _ _ (bound_map xs (read_in rec g [] xs) inl (in_bound g [] xs))
      (bound_map xs _ inr (bound_two xs (read_token (tried ++ map can (first g)) k xs) (led (first l) (map can (first g)) (read_in rec l [])) (token_bound (tried ++ map can (first g)) k xs) (λ a ys. led_bound (first l) (map can (first g)) (read_in rec l []) a ys (in_bound l [] ys))))

by_bound : (n : ℕ) (s : Sym) (xs : List Item) → Bound xs (read_by n s xs)
by_bound zero s xs = omega arith
by_bound (suc n) s xs = bound_map xs (read_in (read_by n) (rule s) [] xs) (build s) (in_bound (read_by n) (by_bound n) (rule s) [] xs)

-- ---- lists that begin alike

-- The same item, or one of the same token, with another text and span.
abbrev pub Nearly : Bool → Item → Item → Type 0
Nearly true x y = x ≡ y
Nearly false x y = (x.token ≡ y.token) × (x.docs ≡ y.docs)

-- The first n items are the same, the last of them nearly; or both lists end before.
abbrev pub Alike : Bool → ℕ → List Item → List Item → Type 0
Alike whole zero xs ys = Unit {0}
Alike whole (suc n) [] [] = Unit {0}
Alike whole (suc n) [] (y ∷ ys) = ⊥
Alike whole (suc n) (x ∷ xs) [] = ⊥
Alike whole (suc zero) (x ∷ xs) (y ∷ ys) = Nearly whole x y
Alike whole (suc (suc n)) (x ∷ xs) (y ∷ ys) = (x ≡ y) × Alike whole (suc n) xs ys

-- The rejection does not depend on the text of the last of the items that are nearly the same.
abbrev pub Seen : Bool → Why → ℕ → Type 0
Seen true w j = Unit {0}
Seen false version zero = ⊥
Seen false w j = Unit {0}

nearly : (whole : Bool) (n : ℕ) (x y : Item) (xs ys : List Item) → Alike whole (suc n) (x ∷ xs) (y ∷ ys) → Nearly false x y
nearly true zero x y xs ys h = (ap (λ (z : Item). z.token) h, ap (λ (z : Item). z.docs) h)
nearly false zero x y xs ys h = h
nearly true (suc n) x y xs ys h = (ap (λ (z : Item). z.token) h.0, ap (λ (z : Item). z.docs) h.0)
nearly false (suc n) x y xs ys h = (ap (λ (z : Item). z.token) h.0, ap (λ (z : Item). z.docs) h.0)

abbrev pub checked : Token → Item → List Item → Result (Item × List Item) Stop
checked k x xs = cond (valid k x.text) (Ok (x, xs)) (Err (record { left = x ∷ xs; expected = can k ∷ []; why = version }))

module _ (whole : Bool) where
  -- the other reading ends as this one does, where this one ends within the first n items
  abbrev pub Ends : {A : Type 0} → ℕ → List Item → Result (A × List Item) Stop → Result (A × List Item) Stop → Type 0
  Ends n xs (Ok x) m = (j : ℕ) → n + length x.1 ≡ length xs + suc j → (rest : List Item) × (m ≡ Ok (x.0, rest)) × Alike whole (suc j) x.1 rest
  Ends n xs (Err s) m = (j : ℕ) → n + length s.left ≡ length xs + suc j → Seen whole s.why j → (rest : List Item) × (m ≡ Err (record { left = rest; expected = s.expected; why = s.why })) × Alike whole (suc j) s.left rest

  ends_zero : {A : Type 0} (xs : List Item) (m n : Result (A × List Item) Stop) → Bound xs m → Ends 0 xs m n
  ends_zero xs (Ok x) n b = λ j e. absurd (omega arith)
  ends_zero xs (Err s) n b = λ j e v. absurd (omega arith)

  ends_map : {A B : Type 0} (n : ℕ) (xs : List Item) (m k : Result (A × List Item) Stop) (f : A → B) → Ends n xs m k → Ends n xs (mapped f m) (mapped f k)
  ends_map n xs (Ok x) k f h = λ j e. let r = h j e in (r.0, ap (mapped f) r.1, r.2)
  ends_map n xs (Err s) k f h = λ j e v. let r = h j e v in (r.0, ap (mapped f) r.1, r.2)

  ends_two : {A B : Type 0} (n : ℕ) (xs : List Item) (m k : Result (A × List Item) Stop) (f : A → List Item → Result (B × List Item) Stop) → Ends n xs m k → ((a : A) (ys : List Item) → Bound ys (f a ys))
      → ((a : A) (i : ℕ) (ys zs : List Item) → Alike whole i ys zs → Ends i ys (f a ys) (f a zs)) → Ends n xs (two m f) (two k f)
  ends_two n xs (Err s) k f h b g = λ j e v. let r = h j e v in (r.0, ap (λ o. two o f) r.1, r.2)
  ends_two {A = A} {B = B} n xs (Ok x) k f h b g = go (f x.0 x.1) refl (b x.0 x.1)
    where
      go : (o : Result (B × List Item) Stop) → f x.0 x.1 ≡ o → Bound x.1 o → Ends n xs (pair_with x.0 o) (two k f)
      go (Ok y) eq le = λ j e.
          let i : ℕ = j + (length x.1 - length y.1) in
          let r = h i (omega arith) in
          let s = subst (λ (o : Result (B × List Item) Stop). Ends (suc i) x.1 o (f x.0 r.0)) eq (g x.0 (suc i) x.1 r.0 r.2) j (omega arith) in
          (s.0, ap (λ o. two o f) r.1 ∙ ap (pair_with x.0) s.1, s.2)
      go (Err q) eq le = λ j e v.
          let i : ℕ = j + (length x.1 - length q.left) in
          let r = h i (omega arith) in
          let s = subst (λ (o : Result (B × List Item) Stop). Ends (suc i) x.1 o (f x.0 r.0)) eq (g x.0 (suc i) x.1 r.0 r.2) j (omega arith) v in
          (s.0, ap (λ o. two o f) r.1 ∙ ap (pair_with x.0) s.1, s.2)

  one_of_same : (ks : List Token) (x y : Item) → x.token ≡ y.token → one_of ks x ≡ one_of ks y
  one_of_same [] x y h = refl
  one_of_same (k ∷ ks) x y h = ap (λ (r : Result Token Error). cond (is_token k r) true (one_of ks x)) h ∙ ap (λ b. cond (is_token k y.token) true b) (one_of_same ks x y h)

  same_test : (n : ℕ) (ks : List Token) (xs ys : List Item) → Alike whole (suc n) xs ys → at_one_of ks xs ≡ at_one_of ks ys
  same_test n ks [] [] h = refl
  same_test n ks [] (y ∷ ys) h = absurd h
  same_test n ks (x ∷ xs) [] h = absurd h
  same_test n ks (x ∷ xs) (y ∷ ys) h = at_one_of_head ks x xs ∙ one_of_same ks x y (nearly whole n x y xs ys h).0 ∙ back (at_one_of_head ks y ys)

  same_at : (n : ℕ) (k : Token) (xs ys : List Item) → Alike whole (suc n) xs ys → at k xs ≡ at k ys
  same_at n k [] [] h = refl
  same_at n k [] (y ∷ ys) h = absurd h
  same_at n k (x ∷ xs) [] h = absurd h
  same_at n k (x ∷ xs) (y ∷ ys) h = ap (is_token k) (nearly whole n x y xs ys h).0

  same_leave : (n : ℕ) (b : After) (xs ys : List Item) → Alike whole (suc n) xs ys → may_leave b xs ≡ may_leave b ys
  same_leave n anything xs ys h = refl
  same_leave n no_fault [] [] h = refl
  same_leave n no_fault [] (y ∷ ys) h = absurd h
  same_leave n no_fault (x ∷ xs) [] h = absurd h
  same_leave n no_fault (x ∷ xs) (y ∷ ys) h = ap (λ (r : Result Token Error). cond (is_bad r) false true) (nearly whole n x y xs ys h).0
  same_leave n (one_among ks) xs ys h = same_test n ks xs ys h

  same_docs : (n : ℕ) (xs ys : List Item) → Alike whole (suc n) xs ys → docs_of xs ≡ docs_of ys
  same_docs n [] [] h = refl
  same_docs n [] (y ∷ ys) h = absurd h
  same_docs n (x ∷ xs) [] h = absurd h
  same_docs n (x ∷ xs) (y ∷ ys) h = (nearly whole n x y xs ys h).1

  ends_cond : {A : Type 0} (n : ℕ) (b c : Bool) (xs : List Item) (m o p q : Result (A × List Item) Stop) → b ≡ c → Ends n xs m p → Ends n xs o q → Ends n xs (cond b m o) (cond c p q)
  ends_cond n b c xs m o p q e h k = subst (λ (d : Bool). Ends n xs (cond b m o) (cond d p q)) e (go b)
    where
      go : (b : Bool) → Ends n xs (cond b m o) (cond b p q)
      go true = h
      go false = k

  ends_stop : {A : Type 0} (n : ℕ) (xs ys : List Item) (ks : List Tried) (w : Why) → Alike whole n xs ys → Ends {A = A} n xs (Err (record { left = xs; expected = ks; why = w })) (Err (record { left = ys; expected = ks; why = w }))
  ends_stop n xs ys ks w h = λ j e v. let k : n ≡ suc j = omega arith in (ys, refl, subst (λ (i : ℕ). Alike whole i xs ys) k h)

  ends_here : {A : Type 0} (n : ℕ) (xs ys : List Item) (a : A) → Alike whole n xs ys → Ends n xs (Ok (a, xs)) (Ok (a, ys))
  ends_here n xs ys a h = λ j e. let k : n ≡ suc j = omega arith in (ys, refl, subst (λ (i : ℕ). Alike whole i xs ys) k h)

  same_checked : (n : ℕ) (k : Token) (x y : Item) (xs ys : List Item) → x ≡ y → ((j : ℕ) → n ≡ suc j → Alike whole (suc j) xs ys) → Alike whole (suc n) (x ∷ xs) (y ∷ ys) → Ends (suc n) (x ∷ xs) (checked k x xs) (checked k y ys)
  same_checked n k x y xs ys e rest h =
      ends_cond {A = Item} (suc n) (valid k x.text) (valid k y.text) (x ∷ xs) (Ok (x, xs)) (Err (record { left = x ∷ xs; expected = can k ∷ []; why = version })) (Ok (y, ys)) (Err (record { left = y ∷ ys; expected = can k ∷ []; why = version }))
      (ap (λ (z : Item). valid k z.text) e)
      (λ j q. let i : n ≡ suc j = omega arith in (ys, ap (λ (z : Item). Ok (z, ys)) (back e), rest j i))
      (ends_stop (suc n) (x ∷ xs) (y ∷ ys) (can k ∷ []) version h)

  last_checked : (k : Token) (x y : Item) (xs ys : List Item) → whole ≡ false → Ends 1 (x ∷ xs) (checked k x xs) (checked k y ys)
  last_checked k x y xs ys w = go (valid k x.text)
    where
      go : (c : Bool) → Ends 1 (x ∷ xs) (cond c (Ok (x, xs)) (Err (record { left = x ∷ xs; expected = can k ∷ []; why = version }))) (checked k y ys)
      go true = λ j e. absurd (omega arith)
      go false = λ j e v. absurd (unseen j (omega arith) v)
        where
          unseen : (j : ℕ) → j ≡ 0 → Seen whole version j → ⊥
          unseen zero e v = subst (λ (b : Bool). Seen b version zero) w v
          unseen (suc j) e v = absurd (omega arith)

  checked_ends : (b : Bool) → whole ≡ b → (n : ℕ) (k : Token) (x y : Item) (xs ys : List Item) → Alike whole (suc n) (x ∷ xs) (y ∷ ys) → Ends (suc n) (x ∷ xs) (checked k x xs) (checked k y ys)
  checked_ends true w zero k x y xs ys h = same_checked zero k x y xs ys (subst (λ (b : Bool). Nearly b x y) w h) (λ j e. absurd (omega arith)) h
  checked_ends false w zero k x y xs ys h = last_checked k x y xs ys w
  checked_ends b w (suc n) k x y xs ys h = same_checked (suc n) k x y xs ys h.0 (λ j e. let i : n ≡ j = omega arith in subst (λ (i : ℕ). Alike whole (suc i) xs ys) i h.1) h

  token_ends : (tried : List Tried) (k : Token) (n : ℕ) (xs ys : List Item) → Alike whole n xs ys → Ends n xs (read_token tried k xs) (read_token tried k ys)
  token_ends tried k zero xs ys h = ends_zero xs (read_token tried k xs) (read_token tried k ys) (token_bound tried k xs)
  token_ends tried k (suc n) [] [] h = ends_stop (suc n) [] [] (tried ++ (can k ∷ [])) other h
  token_ends tried k (suc n) [] (y ∷ ys) h = absurd h
  token_ends tried k (suc n) (x ∷ xs) [] h = absurd h
  token_ends tried k (suc n) (x ∷ xs) (y ∷ ys) h =
      ends_cond {A = Item} (suc n) (is_token k x.token) (is_token k y.token) (x ∷ xs) _ _ _ _ (ap (is_token k) (nearly whole n x y xs ys h).0)
      (checked_ends whole refl n k x y xs ys h)
      (ends_stop (suc n) (x ∷ xs) (y ∷ ys) (tried ++ (can k ∷ [])) other h)

  sym_ends : {A : Type 0} (f : List Item → Result (A × List Item) Stop) (ks : List Token) (tried : List Tried) (n : ℕ) (xs ys : List Item) → Bound xs (f xs) → Alike whole n xs ys → Ends n xs (f xs) (f ys) → Ends n xs (read_sym f ks tried xs) (read_sym f ks tried ys)
  sym_ends f ks [] n xs ys b h e = e
  sym_ends f ks (t ∷ ts) zero xs ys b h e = ends_zero xs (read_sym f ks (t ∷ ts) xs) (read_sym f ks (t ∷ ts) ys) (sym_bound f ks (t ∷ ts) xs b)
  sym_ends f ks (t ∷ ts) (suc n) xs ys b h e = ends_cond (suc n) (at_one_of ks xs) (at_one_of ks ys) xs _ _ _ _ (same_test n ks xs ys h) e (ends_stop (suc n) xs ys ((t ∷ ts) ++ map can ks) other h)

  led_ends : {A : Type 0} (ks : List Token) (names : List Tried) (f : List Item → Result (A × List Item) Stop) (x : Item) (n : ℕ) (xs ys : List Item) → Bound xs (f xs) → Alike whole n xs ys → Ends n xs (f xs) (f ys) → Ends n xs (led ks names f x xs) (led ks names f x ys)
  led_ends ks names f x zero xs ys b h e = ends_zero xs (led ks names f x xs) (led ks names f x ys) (led_bound ks names f x xs b)
  led_ends ks names f x (suc n) xs ys b h e = ends_cond (suc n) (at_one_of ks xs) (at_one_of ks ys) xs _ _ _ _ (same_test n ks xs ys h) e (ends_stop (suc n) xs ys names (told x) h)

  module _ (rec : Reader) (bound : (s : Sym) (xs : List Item) → Bound xs (rec s xs)) (local : (s : Sym) (n : ℕ) (xs ys : List Item) → Alike whole n xs ys → Ends n xs (rec s xs) (rec s ys)) where
    nil_ends : (g : Grammar) (tried : List Tried) (xs ys : List Item) → Ends 0 xs (read_in rec g tried xs) (read_in rec g tried ys)
    nil_ends g tried xs ys = ends_zero xs (read_in rec g tried xs) (read_in rec g tried ys) (in_bound rec bound g tried xs)

    local_in : (g : Grammar) (tried : List Tried) (n : ℕ) (xs ys : List Item) → Alike whole n xs ys → Ends n xs (read_in rec g tried xs) (read_in rec g tried ys)
    local_in (token k) tried n xs ys h = token_ends tried k n xs ys h
    local_in (sym s) tried n xs ys h = sym_ends (rec s) (begins s) tried n xs ys (bound s xs) h (local s n xs ys h)
    local_in (then g l) tried n xs ys h = ends_two n xs (read_in rec g tried xs) (read_in rec g tried ys) (λ a. read_in rec l []) (local_in g tried n xs ys h) (λ a zs. in_bound rec bound l [] zs) (λ a i us vs e. local_in l [] i us vs e)
    local_in (either loud g l) tried zero xs ys h = nil_ends (either loud g l) tried xs ys
    local_in (either loud g l) tried (suc n) xs ys h = ends_cond {A = Parts g ⊎ Parts l} (suc n) (at_one_of (first g) xs) (at_one_of (first g) ys) xs _ _ _ _ (same_test n (first g) xs ys h)
        (ends_map (suc n) xs (read_in rec g [] xs) (read_in rec g [] ys) inl (local_in g [] (suc n) xs ys h))
        (ends_map (suc n) xs (read_in rec l (tried ++ cond loud (map can (first g)) []) xs) (read_in rec l (tried ++ cond loud (map can (first g)) []) ys) inr (local_in l (tried ++ cond loud (map can (first g)) []) (suc n) xs ys h))
    local_in (nothing b) tried zero xs ys h = nil_ends (nothing b) tried xs ys
    local_in (nothing b) tried (suc n) xs ys h = ends_cond {A = Unit {0}} (suc n) (may_leave b xs) (may_leave b ys) xs _ _ _ _ (same_leave n b xs ys h) (ends_here (suc n) xs ys tt h) (ends_stop (suc n) xs ys tried other h)
    local_in (to_end g) tried zero xs ys h = nil_ends (to_end g) tried xs ys
    local_in (to_end g) tried (suc n) [] [] h = ends_here (suc n) [] [] (inl tt) h
    local_in (to_end g) tried (suc n) [] (y ∷ ys) h = absurd h
    local_in (to_end g) tried (suc n) (x ∷ xs) [] h = absurd h
    local_in (to_end g) tried (suc n) (x ∷ xs) (y ∷ ys) h = ends_map (suc n) (x ∷ xs) (read_in rec g [] (x ∷ xs)) (read_in rec g [] (y ∷ ys)) inr (local_in g [] (suc n) (x ∷ xs) (y ∷ ys) h)
    local_in (docs g) tried zero xs ys h = nil_ends (docs g) tried xs ys
    local_in (docs g) tried (suc n) xs ys h =
        subst (λ (ds : List Doc). Ends (suc n) xs (pair_with (docs_of xs) (read_in rec g tried xs)) (pair_with ds (read_in rec g tried ys))) (same_docs n xs ys h)
        (ends_map (suc n) xs (read_in rec g tried xs) (read_in rec g tried ys) (λ b. (docs_of xs, b)) (local_in g tried (suc n) xs ys h))
    local_in (not_empty e k g) tried zero xs ys h = nil_ends (not_empty e k g) tried xs ys
    local_in (not_empty e k g) tried (suc n) xs ys h = ends_cond {A = Parts g} (suc n) (at k xs) (at k ys) xs _ _ _ _ (same_at n k xs ys h) (ends_stop (suc n) xs ys [] (empty_body e) h) (local_in g (tried ++ (closes k ∷ [])) (suc n) xs ys h)
    local_in (more k s g) tried zero xs ys h = nil_ends (more k s g) tried xs ys
    local_in (more k s g) tried (suc n) [] [] h = ends_stop (suc n) [] [] (can k ∷ map follows (begins s)) other h
    local_in (more k s g) tried (suc n) [] (y ∷ ys) h = absurd h
    local_in (more k s g) tried (suc n) (x ∷ xs) [] h = absurd h
    local_in (more k s g) tried (suc n) (x ∷ xs) (y ∷ ys) h = local_in g tried (suc n) (x ∷ xs) (y ∷ ys) h
    local_in (or_told g k l) tried zero xs ys h = nil_ends (or_told g k l) tried xs ys
    local_in (or_told g k l) tried (suc n) xs ys h = ends_cond {A = Parts g ⊎ (Item × Parts l)} (suc n) (at_one_of (first g) xs) (at_one_of (first g) ys) xs _ _ _ _ (same_test n (first g) xs ys h)
        (ends_map (suc n) xs (read_in rec g [] xs) (read_in rec g [] ys) inl (local_in g [] (suc n) xs ys h))
        (ends_map (suc n) xs _ _ inr (ends_two (suc n) xs (read_token (tried ++ map can (first g)) k xs) (read_token (tried ++ map can (first g)) k ys) (led (first l) (map can (first g)) (read_in rec l [])) (token_ends (tried ++ map can (first g)) k (suc n) xs ys h)
        (λ a zs. led_bound (first l) (map can (first g)) (read_in rec l []) a zs (in_bound rec bound l [] zs))
        (λ a i us vs e. led_ends (first l) (map can (first g)) (read_in rec l []) a i us vs (in_bound rec bound l [] us) e (local_in l [] i us vs e))))

  by_local : (d : ℕ) (s : Sym) (n : ℕ) (xs ys : List Item) → Alike whole n xs ys → Ends n xs (read_by d s xs) (read_by d s ys)
  by_local zero s n xs ys h = ends_stop n xs ys [] other h
  by_local (suc d) s n xs ys h = ends_map n xs (read_in (read_by d) (rule s) [] xs) (read_in (read_by d) (rule s) [] ys) (build s) (local_in (read_by d) (by_bound d) (by_local d) (rule s) [] n xs ys h)

  pub reads_alike : (s : Sym) (n : ℕ) (xs ys : List Item) → Alike whole n xs ys → Ends n xs (read s xs) (read s ys)
  reads_alike s n xs ys h =
      let d : ℕ = suc (measure s xs + measure s ys) in
      let one : read_by d s xs ≡ read s xs = agree_read d s xs (omega arith) in
      let two : read_by d s ys ≡ read s ys = agree_read d s ys (omega arith) in
      subst (λ (m : Result (TreeOf s × List Item) Stop). Ends n xs m (read s ys)) one (subst (λ (m : Result (TreeOf s × List Item) Stop). Ends n xs (read_by d s xs) m) two (by_local d s n xs ys h))

  -- no list that begins with these very items, the one included at which reading stopped, is derived
  pub not_derived : (s : Sym) (xs : List Item) (stop : Stop) (j : ℕ) (ys tail : List Item) (t : TreeOf s) → may_follow (needs_more s) (clashes s) tail ≡ true → read s xs ≡ Err stop → Alike whole (suc j + (length xs - length stop.left)) xs (ys ++ tail) → Seen whole stop.why j → length stop.left ≤ length xs → Derives s ys t → ⊥
  not_derived s xs stop j ys tail t f h alike v le d =
      let e = subst (λ (m : Result (TreeOf s × List Item) Stop). Ends (suc j + (length xs - length stop.left)) xs m (read s (ys ++ tail))) h (reads_alike s (suc j + (length xs - length stop.left)) xs (ys ++ tail) alike) in
      let r = e j (omega arith) v in
      let k = back (complete_before s ys t tail d f) ∙ r.1 in
      absurd cc
