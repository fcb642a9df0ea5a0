-- What the grammar derives is read, whatever follows that does not continue it.
use Rattle.std.proofs.Common.{◌≡◌, ℕ, zero, suc, List, [], ◌∷◌, ◌++◌, map, Result, Ok, Err, Bool, true, false, cond, refl, sym as back, ap, subst, ◌∙◌, inl, inr, append_assoc, eq-eqb}
use Rattle.wac_ast_grammar.proofs.Common.{append-nil, Error, Token, Item, Doc}
use Rattle.wac_ast_grammar.specs.Tokens.{is_token, is_bad, is_fault, at, kind, valid}
use Rattle.wac_ast_grammar.proofs.Tables.{continues, all_tokens, one_of, at_one_of_head, at_one_of_nil, one_of_append, among, negated, apart, always, among_is, not_true, apart_not, away_from, others, clashes, needs_more, clash_after, needs_after, clash, needs, pickable, lawful, within, rule_lawful, begins_is, clashes_is, needs_is, every_token}
use Rattle.wac_ast_grammar.specs.Grammar.{Sym, rule, TreeOf, Parts, After, anything, no_fault, one_among, Grammar, token, sym, then, either, nothing, to_end, docs, not_empty, more, or_told, docs_of, DerivesIn, DerivesBy, Derives}
use Rattle.wac_ast_grammar.specs.Reading.{Tried, can, closes, Stop, mapped, pair_with, read, read_in, read_token, led, two, built, empty, is_empty, begins, first, at_one_of, may_leave}
use Rattle.wac_ast_grammar.proofs.Fixed.{read_is, empty_is, both, both_left, both_right, Reader}

-- ---- its first tokens

abbrev pub Begins : Bool → List Token → List Item → Type 0
Begins e ks [] = e ≡ true
Begins e ks (x ∷ xs) = one_of ks x ≡ true

begins_then : (e d : Bool) (ks ls : List Token) (front back : List Item) → Begins e ks front → Begins d ls back → Begins (cond e d false) (cond e (ks ++ ls) ks) (front ++ back)
begins_then true d ks ls [] [] h k = k
begins_then true d ks ls [] (x ∷ xs) h k = one_of_append ks ls x ∙ rw k (always (one_of ks x))
begins_then false d ks ls [] back h k = absurd cc
begins_then true d ks ls (x ∷ front) back h k = one_of_append ks ls x ∙ rw h refl
begins_then false d ks ls (x ∷ front) back h k = h

begins_left : (e d : Bool) (ks ls : List Token) (xs : List Item) → Begins e ks xs → Begins (cond e true d) (ks ++ ls) xs
begins_left e d ks ls [] h = rw h refl
begins_left e d ks ls (x ∷ xs) h = one_of_append ks ls x ∙ rw h refl

begins_right : (e d : Bool) (ks ls : List Token) (xs : List Item) → Begins d ls xs → Begins (cond e true d) (ks ++ ls) xs
begins_right true d ks ls [] h = refl
begins_right false d ks ls [] h = h
begins_right e d ks ls (x ∷ xs) h = one_of_append ks ls x ∙ rw h (always (one_of ks x))

begins_more : (e : Bool) (ks ls : List Token) (xs : List Item) → Begins e ks xs → Begins e (ks ++ ls) xs
begins_more e ks ls [] h = h
begins_more e ks ls (x ∷ xs) h = one_of_append ks ls x ∙ rw h refl

begins_any : (e : Bool) (ks : List Token) (xs : List Item) → Begins e ks xs → Begins true ks xs
begins_any e ks [] h = refl
begins_any e ks (x ∷ xs) h = h

abbrev pub Family : Type 1
Family = (s : Sym) → List Item → TreeOf s → Type 0

module _ (D : Family) (h : (s : Sym) (xs : List Item) (t : TreeOf s) → D s xs t → Begins (empty s) (begins s) xs) where
  pub begins_in : (g : Grammar) (xs : List Item) (p : Parts g) → DerivesIn D g xs p → Begins (is_empty g) (first g) xs
  begins_in (token k) xs x d = subst (λ (ys : List Item). Begins false (k ∷ []) ys) (back d.0) (rw d.1 refl)
  begins_in (sym s) xs t d = h s xs t d
  begins_in (then g k) xs p d = subst (λ (ys : List Item). Begins (is_empty (then g k)) (first (then g k)) ys) (back d.2) (begins_then (is_empty g) (is_empty k) (first g) (first k) d.0 d.1 (begins_in g d.0 p.0 d.3) (begins_in k d.1 p.1 d.4))
  begins_in (either loud g k) xs (inl p) d = begins_left (is_empty g) (is_empty k) (first g) (first k) xs (begins_in g xs p d)
  begins_in (either loud g k) xs (inr p) d = begins_right (is_empty g) (is_empty k) (first g) (first k) xs (begins_in k xs p d)
  begins_in (nothing b) xs p d = subst (λ (ys : List Item). Begins true [] ys) (back d) refl
  begins_in (to_end g) xs (inl p) d = subst (λ (ys : List Item). Begins true (first g) ys) (back d) refl
  begins_in (to_end g) xs (inr p) d = begins_any (is_empty g) (first g) xs (begins_in g xs p d)
  begins_in (docs g) xs p d = begins_in g xs p.1 d.1
  begins_in (not_empty e k g) xs p d = begins_in g xs p d
  begins_in (more k s g) xs p d = begins_in g xs p d
  begins_in (or_told g k l) xs (inl p) d = begins_more (is_empty g) (first g) (k ∷ []) xs (begins_in g xs p d)
  begins_in (or_told g k l) xs (inr p) d = subst (λ (ys : List Item). Begins (is_empty g) (first g ++ (k ∷ [])) ys) (back d.1) (one_of_append (first g) (k ∷ []) p.0 ∙ rw d.2 (always (one_of (first g) p.0)))

pub by_begins : (n : ℕ) (s : Sym) (xs : List Item) (t : TreeOf s) → DerivesBy n s xs t → Begins (empty s) (begins s) xs
by_begins zero s xs t d = absurd d
by_begins (suc n) s xs t d = subst (λ (ks : List Token). Begins (empty s) ks xs) (begins_is s) (subst (λ (e : Bool). Begins e (first (rule s)) xs) (empty_is s) (begins_in (DerivesBy n) (by_begins n) (rule s) xs d.0 d.1))

-- ---- what may follow

-- no fault, and none of these tokens; and not the end where something must follow
abbrev pub may_follow : Bool → List Token → List Item → Bool
may_follow n ks [] = negated n
may_follow n ks (x ∷ xs) = both (negated (is_fault x)) (negated (one_of ks x))

follow_left : (l : Bool) (ks ls : List Token) (rest : List Item) → may_follow l (ks ++ ls) rest ≡ true → may_follow l ks rest ≡ true
follow_left l ks ls [] h = h
follow_left l ks ls (x ∷ xs) h = go (negated (is_fault x)) (one_of ks x) (one_of ls x) (subst (λ (b : Bool). both (negated (is_fault x)) (negated b) ≡ true) (one_of_append ks ls x) h)
  where
    go : (a b c : Bool) → both a (negated (cond b true c)) ≡ true → both a (negated b) ≡ true
    go true true c h = h
    go true false c h = refl
    go false b c h = h

follow_right : (l : Bool) (ks ls : List Token) (rest : List Item) → may_follow l (ks ++ ls) rest ≡ true → may_follow l ls rest ≡ true
follow_right l ks ls [] h = h
follow_right l ks ls (x ∷ xs) h = go (negated (is_fault x)) (one_of ks x) (one_of ls x) (subst (λ (b : Bool). both (negated (is_fault x)) (negated b) ≡ true) (one_of_append ks ls x) h)
  where
    go : (a b c : Bool) → both a (negated (cond b true c)) ≡ true → both a (negated c) ≡ true
    go true true c h = absurd cc
    go true false c h = h
    go false b c h = absurd cc

follow_less : (l m : Bool) (ks : List Token) (rest : List Item) → may_follow (cond l true m) ks rest ≡ true → (may_follow l ks rest ≡ true) × (may_follow m ks rest ≡ true)
follow_less true m ks [] h = absurd cc
follow_less false m ks [] h = (refl, h)
follow_less l m ks (x ∷ xs) h = (h, h)

starts : (e : Bool) (ks : List Token) (xs rest : List Item) → e ≡ false → Begins e ks xs → at_one_of ks (xs ++ rest) ≡ true
starts e ks [] rest ne h = absurd cc
starts e ks (x ∷ xs) rest ne h = at_one_of_head ks x (xs ++ rest) ∙ h

pub no_fault_of : (ks : List Token) (x : Item) → one_of ks x ≡ true → is_fault x ≡ false
no_fault_of [] x h = absurd cc
no_fault_of (k ∷ ks) x h = go (is_token k x.token) refl h (no_fault_of ks x)
  where
    token_sound : (r : Result Token Error) → is_token k r ≡ true → is_bad r ≡ false
    token_sound (Ok a) e = refl
    token_sound (Err f) e = absurd cc

    go : (b : Bool) → is_token k x.token ≡ b → cond b true (one_of ks x) ≡ true → (one_of ks x ≡ true → is_fault x ≡ false) → is_fault x ≡ false
    go true e h r = token_sound x.token e
    go false e h r = r h

-- what follows a first part: the second part, or what follows both
follow_then : (n m e : Bool) (cs ks ls : List Token) (ys rest : List Item) → Begins e ls ys → apart ls cs ≡ true → may_follow (cond m true (both e n)) (ks ++ cond e cs []) rest ≡ true → may_follow n cs (ys ++ rest) ≡ true
follow_then n m true cs ks ls [] [] b sep f = go m f
  where
    go : (m : Bool) → negated (cond m true n) ≡ true → negated n ≡ true
    go true h = absurd cc
    go false h = h
follow_then n m true cs ks ls [] (x ∷ xs) b sep f = follow_right n ks cs (x ∷ xs) f
follow_then n m false cs ks ls [] rest b sep f = absurd cc
follow_then n m e cs ks ls (y ∷ ys) rest b sep f = rw (no_fault_of ls y b, apart_not ls cs y sep b) refl

among_away : (k : Token) (ls : List Token) (x : Item) → among k ls ≡ true → one_of ls x ≡ false → is_token k x.token ≡ false
among_away k ls x a n = go (is_token k x.token) refl
  where
    go : (b : Bool) → is_token k x.token ≡ b → is_token k x.token ≡ false
    go true e = let h = among_is k ls x a e in absurd cc
    go false e = e

not_first : (n e : Bool) (ks ls : List Token) (xs rest : List Item) → Begins e ls xs → apart ls ks ≡ true → may_follow n (cond e ks []) rest ≡ true → at_one_of ks (xs ++ rest) ≡ false
not_first n e ks ls [] [] b sep f = at_one_of_nil ks
not_first n true ks ls [] (x ∷ xs) b sep f = at_one_of_head ks x xs ∙ not_true (one_of ks x) (both_right (negated (is_fault x)) (negated (one_of ks x)) f)
not_first n false ks ls [] (x ∷ xs) b sep f = absurd cc
not_first n e ks ls (x ∷ xs) rest b sep f = at_one_of_head ks x (xs ++ rest) ∙ apart_not ls ks x sep b

-- an item that is no fault is one of all tokens
is_some : (x : Item) → is_fault x ≡ false → one_of all_tokens x ≡ true
is_some x h = go x.token refl h
  where
    go : (r : Result Token Error) → x.token ≡ r → is_bad r ≡ false → one_of all_tokens x ≡ true
    go (Ok a) e h = among_is a all_tokens x (every_token a) (rw e (eq-eqb (kind a) (kind a) refl))
    go (Err f) e h = absurd cc

remains : (ks ls : List Token) (x : Item) → one_of ls x ≡ true → one_of (away_from ks ls) x ≡ false → one_of ks x ≡ true
remains ks [] x h n = absurd cc
remains ks (l ∷ ls) x h n = go (is_token l x.token) refl h (among l ks) refl n (remains ks ls x)
  where
    go : (b : Bool) → is_token l x.token ≡ b → cond b true (one_of ls x) ≡ true → (c : Bool) → among l ks ≡ c → one_of (cond c (away_from ks ls) (l ∷ away_from ks ls)) x ≡ false → (one_of ls x ≡ true → one_of (away_from ks ls) x ≡ false → one_of ks x ≡ true) → one_of ks x ≡ true
    go true e h true a n r = among_is l ks x a e
    go false e h true a n r = r h n
    go true e h false a n r = let k : one_of (l ∷ away_from ks ls) x ≡ true = rw e refl in absurd cc
    go false e h false a n r = r h (ap (λ b. cond b true (one_of (away_from ks ls) x)) (back e) ∙ n)

may_stay : (b : After) (rest : List Item) → may_follow (needs_after b) (clash_after b) rest ≡ true → may_leave b rest ≡ true
may_stay anything rest f = refl
may_stay no_fault [] f = refl
may_stay no_fault (x ∷ xs) f = both_left (negated (is_fault x)) (negated false) f
may_stay (one_among ks) [] f = absurd cc
may_stay (one_among ks) (x ∷ xs) f =
    at_one_of_head ks x xs ∙ remains ks all_tokens x (is_some x (not_true (is_fault x) (both_left (negated (is_fault x)) (negated (one_of (others ks) x)) f))) (not_true (one_of (others ks) x) (both_right (negated (is_fault x)) (negated (one_of (others ks) x)) f))

only_end : (n : Bool) (rest : List Item) → may_follow n all_tokens rest ≡ true → (rest ≡ []) × (negated n ≡ true)
only_end n [] f = (refl, f)
only_end n (x ∷ xs) f = let h = is_some x (not_true (is_fault x) (both_left (negated (is_fault x)) (negated (one_of all_tokens x)) f)) in let k = not_true (one_of all_tokens x) (both_right (negated (is_fault x)) (negated (one_of all_tokens x)) f) in absurd cc

-- ---- reading

abbrev is_nil : List Tried → Bool
is_nil [] = true
is_nil (k ∷ ks) = false

abbrev Picks : List Tried → Grammar → Type 0
Picks tried g = cond (is_nil tried) true (pickable g) ≡ true

token_read : (tried : List Tried) (k : Token) (x : Item) (rest : List Item) → is_token k x.token ≡ true → valid k x.text ≡ true → read_token tried k (x ∷ rest) ≡ Ok (x, rest)
token_read tried k x rest h v = rw (h, v) refl

abbrev pub Completes : Family → Reader → Type 0
Completes D rec = (s : Sym) (xs : List Item) (t : TreeOf s) (rest : List Item) → D s xs t → may_follow (needs_more s) (clashes s) rest ≡ true → rec s (xs ++ rest) ≡ Ok (t, rest)

picks_then : (tried : List Tried) (g h : Grammar) → Picks tried (then g h) → Picks tried g
picks_then [] g h k = refl
picks_then (t ∷ ts) g h k = both_right (negated (is_empty g)) (pickable g) k

picks_any : (tried : List Tried) (g : Grammar) → pickable g ≡ true → Picks tried g
picks_any [] g h = refl
picks_any (t ∷ ts) g h = h

then_read : {A B : Type 0} (m : Result (A × List Item) Stop) (f : A → List Item → Result (B × List Item) Stop) (a : A) (b : B) (mid rest : List Item) → m ≡ Ok (a, mid) → f a mid ≡ Ok (b, rest) → two m f ≡ Ok ((a, b), rest)
then_read m f a b mid rest h k = rw (h, k) refl

led_read : {A : Type 0} (ks : List Token) (names : List Tried) (f : List Item → Result (A × List Item) Stop) (x : Item) (xs : List Item) → at_one_of ks xs ≡ true → led ks names f x xs ≡ f xs
led_read ks names f x xs h = rw h refl

single : (k : Token) (xs : List Item) → at_one_of (k ∷ []) xs ≡ false → at k xs ≡ false
single k xs h = go (at k xs) h
  where
    go : (b : Bool) → cond b true false ≡ false → b ≡ false
    go true h = h
    go false h = h

docs_front : (e : Bool) (ks : List Token) (xs rest : List Item) → e ≡ false → Begins e ks xs → docs_of (xs ++ rest) ≡ docs_of xs
docs_front e ks [] rest ne b = absurd cc
docs_front e ks (x ∷ xs) rest ne b = refl

module _ (D : Family) (rec : Reader) (beginning : (s : Sym) (xs : List Item) (t : TreeOf s) → D s xs t → Begins (empty s) (begins s) xs) (completes : Completes D rec) where
  not_nil : (k : Token) (s : Sym) (g : Grammar) (tried : List Tried) (xs rest : List Item) → is_empty g ≡ false → Begins (is_empty g) (first g) xs → read_in rec (more k s g) tried (xs ++ rest) ≡ read_in rec g tried (xs ++ rest)
  not_nil k s g tried [] rest ne b = absurd cc
  not_nil k s g tried (x ∷ xs) rest ne b = refl

  some_read : (g : Grammar) (tried : List Tried) (xs rest : List Item) → is_empty g ≡ false → Begins (is_empty g) (first g) xs → read_in rec (to_end g) tried (xs ++ rest) ≡ mapped inr (read_in rec g [] (xs ++ rest))
  some_read g tried [] rest ne b = absurd cc
  some_read g tried (x ∷ xs) rest ne b = refl

  pub complete_in : (g : Grammar) (tried : List Tried) (xs : List Item) (p : Parts g) (rest : List Item) → lawful g ≡ true → Picks tried g → DerivesIn D g xs p → may_follow (needs g) (clash g) rest ≡ true → read_in rec g tried (xs ++ rest) ≡ Ok (p, rest)
  complete_in (token k) tried xs x rest ok pick d f = ap (λ ys. read_token tried k (ys ++ rest)) d.0 ∙ token_read tried k x rest d.1 d.2
  complete_in (sym s) [] xs t rest ok pick d f = completes s xs t rest d f
  complete_in (sym s) (k ∷ ks) xs t rest ok pick d f = rw (starts (empty s) (begins s) xs rest (not_true (empty s) pick) (beginning s xs t d)) (completes s xs t rest d f)
  complete_in (then g h) tried xs p rest ok pick d f =
      let ok_parts = both_left (both (lawful g) (lawful h)) (apart (first h) (clash g)) ok in
      let ok_apart = both_right (both (lawful g) (lawful h)) (apart (first h) (clash g)) ok in
      let whole : xs ++ rest ≡ d.0 ++ (d.1 ++ rest) = ap (λ (ys : List Item). ys ++ rest) d.2 ∙ append_assoc d.0 d.1 rest in
      ap (read_in rec (then g h) tried) whole
      ∙ then_read (read_in rec g tried (d.0 ++ (d.1 ++ rest))) (λ a. read_in rec h []) p.0 p.1 (d.1 ++ rest) rest
      (complete_in g tried d.0 p.0 (d.1 ++ rest) (both_left (lawful g) (lawful h) ok_parts) (picks_then tried g h pick) d.3
      (follow_then (needs g) (needs h) (is_empty h) (clash g) (clash h) (first h) d.1 rest (begins_in D beginning h d.1 p.1 d.4) ok_apart f))
      (complete_in h [] d.1 p.1 rest (both_right (lawful g) (lawful h) ok_parts) refl d.4
      (follow_left (needs h) (clash h) (cond (is_empty h) (clash g) []) rest (follow_less (needs h) (both (is_empty h) (needs g)) (clash (then g h)) rest f).0))
  complete_in (either loud g h) tried xs (inl p) rest ok pick d f =
      let ok_both = both_right (both (lawful g) (lawful h)) (both (negated (is_empty g)) (both (apart (first h) (first g)) (pickable h))) ok in
      let not_empty = not_true (is_empty g) (both_left (negated (is_empty g)) (both (apart (first h) (first g)) (pickable h)) ok_both) in
      let ok_g = both_left (lawful g) (lawful h) (both_left (both (lawful g) (lawful h)) (both (negated (is_empty g)) (both (apart (first h) (first g)) (pickable h))) ok) in
      let one = starts (is_empty g) (first g) xs rest not_empty (begins_in D beginning g xs p d) in
      let follow = follow_left (needs g) (clash g) (clash h) rest (follow_left (needs g) (clash g ++ clash h) (cond (is_empty h) (first g) []) rest (follow_less (needs g) (needs h) (clash (either loud g h)) rest f).0) in
      rw (one, complete_in g [] xs p rest ok_g refl d follow) refl
  complete_in (either loud g h) tried xs (inr p) rest ok pick d f =
      let ok_both = both_right (both (lawful g) (lawful h)) (both (negated (is_empty g)) (both (apart (first h) (first g)) (pickable h))) ok in
      let ok_rest = both_right (negated (is_empty g)) (both (apart (first h) (first g)) (pickable h)) ok_both in
      let sep = both_left (apart (first h) (first g)) (pickable h) ok_rest in
      let pick_h = picks_any (tried ++ cond loud (map can (first g)) []) h (both_right (apart (first h) (first g)) (pickable h) ok_rest) in
      let ok_h = both_right (lawful g) (lawful h) (both_left (both (lawful g) (lawful h)) (both (negated (is_empty g)) (both (apart (first h) (first g)) (pickable h))) ok) in
      let less = (follow_less (needs g) (needs h) (clash (either loud g h)) rest f).1 in
      let follow = follow_right (needs h) (clash g) (clash h) rest (follow_left (needs h) (clash g ++ clash h) (cond (is_empty h) (first g) []) rest less) in
      let none = not_first (needs h) (is_empty h) (first g) (first h) xs rest (begins_in D beginning h xs p d) sep (follow_right (needs h) (clash g ++ clash h) (cond (is_empty h) (first g) []) rest less) in
      rw (none, complete_in h (tried ++ cond loud (map can (first g)) []) xs p rest ok_h pick_h d follow) refl
  complete_in (nothing b) tried xs p rest ok pick d f = ap (λ (ys : List Item). read_in rec (nothing b) tried (ys ++ rest)) d ∙ rw (may_stay b rest f) refl
  complete_in (to_end g) tried xs (inl p) rest ok pick d f = let e = (only_end (needs g) rest f).0 in ap (λ (ys : List Item). read_in rec (to_end g) tried (ys ++ rest)) d ∙ ap (read_in rec (to_end g) tried) e ∙ ap (λ (ys : List Item). Ok (inl tt, ys)) (back e)
  complete_in (to_end g) tried xs (inr p) rest ok pick d f =
      let e = only_end (needs g) rest f in
      let follow : may_follow (needs g) (clash g) rest ≡ true = subst (λ (ys : List Item). may_follow (needs g) (clash g) ys ≡ true) (back e.0) e.1 in
      some_read g tried xs rest (not_true (is_empty g) (both_right (lawful g) (negated (is_empty g)) ok)) (begins_in D beginning g xs p d)
      ∙ ap (mapped inr) (complete_in g [] xs p rest (both_left (lawful g) (negated (is_empty g)) ok) refl d follow)
  complete_in (docs g) tried xs p rest ok pick d f =
      ap (pair_with (docs_of (xs ++ rest))) (complete_in g tried xs p.1 rest (both_left (lawful g) (negated (is_empty g)) ok) pick d.1 f)
      ∙ ap (λ (ds : List Doc). Ok ((ds, p.1), rest)) (docs_front (is_empty g) (first g) xs rest (not_true (is_empty g) (both_right (lawful g) (negated (is_empty g)) ok)) (begins_in D beginning g xs p.1 d.1) ∙ back d.0)
  complete_in (not_empty e k g) tried xs p rest ok pick d f =
      let ok_rest = both_right (both (lawful g) (negated (is_empty g))) (both (apart (first g) (k ∷ [])) (pickable g)) ok in
      let ok_g = both_left (both (lawful g) (negated (is_empty g))) (both (apart (first g) (k ∷ [])) (pickable g)) ok in
      let some = not_true (is_empty g) (both_right (lawful g) (negated (is_empty g)) ok_g) in
      let b = begins_in D beginning g xs p d in
      let none = single k (xs ++ rest) (not_first (needs g) (is_empty g) (k ∷ []) (first g) xs rest b (both_left (apart (first g) (k ∷ [])) (pickable g) ok_rest) (subst (λ (e : Bool). may_follow (needs g) (cond e (k ∷ []) []) rest ≡ true) (back some) (follow_right (needs g) (clash g) [] rest (subst (λ (ks : List Token). may_follow (needs g) ks rest ≡ true) (back (append-nil (clash g))) f)))) in
      rw (none, complete_in g (tried ++ (closes k ∷ [])) xs p rest (both_left (lawful g) (negated (is_empty g)) ok_g) (picks_any (tried ++ (closes k ∷ [])) g (both_right (apart (first g) (k ∷ [])) (pickable g) ok_rest)) d f) refl
  complete_in (more k s g) tried xs p rest ok pick d f =
      let ok_g = both_left (both (lawful g) (negated (is_empty g))) (both (among k (first g)) (continues (k ∷ begins s) g)) ok in
      not_nil k s g tried xs rest (not_true (is_empty g) (both_right (lawful g) (negated (is_empty g)) ok_g)) (begins_in D beginning g xs p d)
      ∙ complete_in g tried xs p rest (both_left (lawful g) (negated (is_empty g)) ok_g) pick d f
  complete_in (or_told g k h) tried xs (inl p) rest ok pick d f =
      let ok_rest = both_right (both (lawful g) (lawful h)) (both (negated (is_empty g)) (both (apart (k ∷ []) (first g)) (negated (is_empty h)))) ok in
      let some = not_true (is_empty g) (both_left (negated (is_empty g)) (both (apart (k ∷ []) (first g)) (negated (is_empty h))) ok_rest) in
      let ok_g = both_left (lawful g) (lawful h) (both_left (both (lawful g) (lawful h)) (both (negated (is_empty g)) (both (apart (k ∷ []) (first g)) (negated (is_empty h)))) ok) in
      let one = starts (is_empty g) (first g) xs rest some (begins_in D beginning g xs p d) in
      let follow = follow_left (needs g) (clash g) (clash h) rest (follow_less (needs g) (needs h) (clash (or_told g k h)) rest f).0 in
      rw (one, complete_in g [] xs p rest ok_g refl d follow) refl
  complete_in (or_told g k h) tried xs (inr p) rest ok pick d f =
      let ok_rest = both_right (both (lawful g) (lawful h)) (both (negated (is_empty g)) (both (apart (k ∷ []) (first g)) (negated (is_empty h)))) ok in
      let ok_two = both_right (negated (is_empty g)) (both (apart (k ∷ []) (first g)) (negated (is_empty h))) ok_rest in
      let some = not_true (is_empty h) (both_right (apart (k ∷ []) (first g)) (negated (is_empty h)) ok_two) in
      let ok_h = both_right (lawful g) (lawful h) (both_left (both (lawful g) (lawful h)) (both (negated (is_empty g)) (both (apart (k ∷ []) (first g)) (negated (is_empty h)))) ok) in
      let follow = follow_right (needs h) (clash g) (clash h) rest (follow_less (needs g) (needs h) (clash (or_told g k h)) rest f).1 in
      let there : one_of (k ∷ []) p.0 ≡ true = rw d.2 refl in
      let none : at_one_of (first g) (p.0 ∷ (d.0 ++ rest)) ≡ false = at_one_of_head (first g) p.0 (d.0 ++ rest) ∙ apart_not (k ∷ []) (first g) p.0 (both_left (apart (k ∷ []) (first g)) (negated (is_empty h)) ok_two) there in
      let one = starts (is_empty h) (first h) d.0 rest some (begins_in D beginning h d.0 p.1 d.4) in
      ap (λ (ys : List Item). read_in rec (or_told g k h) tried (ys ++ rest)) d.1
      ∙ rw none (ap (mapped inr) (then_read (read_token (tried ++ map can (first g)) k (p.0 ∷ (d.0 ++ rest))) (led (first h) (map can (first g)) (read_in rec h [])) p.0 p.1 (d.0 ++ rest) rest
      (token_read (tried ++ map can (first g)) k p.0 (d.0 ++ rest) d.2 d.3)
      (led_read (first h) (map can (first g)) (read_in rec h []) p.0 (d.0 ++ rest) one ∙ complete_in h [] d.0 p.1 rest ok_h refl d.4 follow)))

follow_within : (l : Bool) (ks ls : List Token) (rest : List Item) → within ks ls ≡ true → may_follow l ls rest ≡ true → may_follow l ks rest ≡ true
follow_within l ks ls [] w f = f
follow_within l ks ls (x ∷ xs) w f = rw (both_left (negated (is_fault x)) (negated (one_of ls x)) f) (ap negated (none ks w))
  where
    away : (k : Token) → among k ls ≡ true → is_token k x.token ≡ false
    away k a = among_away k ls x a (not_true (one_of ls x) (both_right (negated (is_fault x)) (negated (one_of ls x)) f))

    none : (ks : List Token) → within ks ls ≡ true → one_of ks x ≡ false
    none [] w = refl
    none (k ∷ ks) w = rw (away k (both_left (among k ls) (within ks ls) w)) (none ks (both_right (among k ls) (within ks ls) w))

pub by_completes : (n : ℕ) → Completes (DerivesBy n) read
by_completes zero s xs t rest d f = absurd d
by_completes (suc n) s xs t rest d f =
    let f_rule = subst (λ (l : Bool). may_follow l (clash (rule s)) rest ≡ true) (back (needs_is s)) (follow_within (needs_more s) (clash (rule s)) (clashes s) rest (clashes_is s) f) in
    read_is s (xs ++ rest)
    ∙ ap (built s) (complete_in (DerivesBy n) read (by_begins n) (by_completes n) (rule s) [] xs d.0 rest (rule_lawful s) refl d.1 f_rule)
    ∙ ap (λ u. Ok (u, rest)) d.2

-- WHAT IS DERIVED IS READ, before anything that does not continue it
pub complete_before : (s : Sym) (xs : List Item) (t : TreeOf s) (rest : List Item) → Derives s xs t → may_follow (needs_more s) (clashes s) rest ≡ true → read s (xs ++ rest) ≡ Ok (t, rest)
complete_before s xs t rest d f = by_completes d.0 s xs t rest d.1 f

pub complete : (s : Sym) (xs : List Item) (t : TreeOf s) → needs_more s ≡ false → Derives s xs t → read s xs ≡ Ok (t, [])
complete s xs t n d = ap (read s) (back (append-nil xs)) ∙ by_completes d.0 s xs t [] d.1 (ap negated n)

abbrev pub tree_or : {A : Type 0} → A → Result (A × List Item) Stop → A
tree_or d (Ok x) = x.0
tree_or d (Err s) = d

-- at most one tree
pub one_tree : (s : Sym) (xs : List Item) (t u : TreeOf s) → needs_more s ≡ false → Derives s xs t → Derives s xs u → t ≡ u
one_tree s xs t u n d e = ap (tree_or t) (back (complete s xs t n d) ∙ complete s xs u n e)
