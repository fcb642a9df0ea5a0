-- Why reading stopped: what is known where it is for a version's text, or reported at the item before.
use Rattle.std.proofs.Common.{◌≡◌, ℕ, zero, suc, List, [], ◌∷◌, ◌++◌, map, Result, Ok, Err, Bool, true, false, cond, refl, sym as back, ap, subst, ◌⊎◌, inl, inr}
use Rattle.wac_ast_grammar.proofs.Common.{Token, Item}
use Rattle.wac_lexer.specs.declared.token.Token.TheVariants as t
use Rattle.wac_ast_grammar.specs.Tokens.{is_token, valid, at}
use Rattle.wac_ast_grammar.specs.Grammar.{Sym, rule, build, TreeOf, Parts, Grammar, token, sym, then, either, nothing, to_end, docs, not_empty, more, or_told, docs_of, list_items, more_items, arguments}
use Rattle.wac_ast_grammar.specs.Reading.{Tried, can, closes, Stop, Why, other, version, empty_body, told, refuse, mapped, two, read, read_by, read_in, read_token, read_sym, led, begins, first, at_one_of, may_leave, enough}
use Rattle.wac_ast_grammar.proofs.Fixed.{Reader, both, both_left, both_right}
use Rattle.wac_ast_grammar.proofs.Tables.{same_token}
use Rattle.wac_ast_grammar.proofs.Completed.{same_is}

abbrev pub Reason : Why → List Item → List Tried → Type 0
Reason other left ts = Unit {0}
Reason (empty_body b) left ts = Unit {0}
Reason version left ts = (k : Token) × (x : Item) × (others : List Item) × (left ≡ x ∷ others) × (is_token k x.token ≡ true) × (valid k x.text ≡ false) × (ts ≡ can k ∷ [])
Reason (told x) left ts = (is_token t.String x.token ≡ true) × (ts ≡ can t.Ident ∷ [])

abbrev pub Reasoned : {A : Type 0} → Result (A × List Item) Stop → Type 0
Reasoned (Ok x) = Unit {0}
Reasoned (Err s) = Reason s.why s.left s.expected

abbrev pub only_identifier : List Token → Bool
only_identifier (k ∷ []) = same_token t.Ident k
only_identifier _ = false

-- what is reported at an item is reported at a string, and names an identifier
abbrev pub tells_well : Grammar → Bool
tells_well (token k) = true
tells_well (sym s) = true
tells_well (then g h) = both (tells_well g) (tells_well h)
tells_well (either loud g h) = both (tells_well g) (tells_well h)
tells_well (nothing b) = true
tells_well (to_end g) = tells_well g
tells_well (docs g) = tells_well g
tells_well (not_empty b k g) = tells_well g
tells_well (more k s g) = tells_well g
tells_well (or_told g k h) = both (both (tells_well g) (tells_well h)) (both (same_token t.String k) (only_identifier (first g)))

pub rule_tells : (s : Sym) → tells_well (rule s) ≡ true
rule_tells (list_items arguments) = refl
rule_tells (more_items arguments) = refl
rule_tells _ = refl

one_identifier : (ks : List Token) → only_identifier ks ≡ true → map can ks ≡ can t.Ident ∷ []
one_identifier [] h = absurd cc
one_identifier (k ∷ []) h = ap (λ (l : Token). can l ∷ []) (back (same_is t.Ident k h))
one_identifier (k ∷ l ∷ ks) h = absurd cc

reason_map : {A B : Type 0} (m : Result (A × List Item) Stop) (f : A → B) → Reasoned m → Reasoned (mapped f m)
reason_map (Ok x) f h = tt
reason_map (Err s) f h = h

reason_cond : {A : Type 0} (b : Bool) (m n : Result (A × List Item) Stop) → Reasoned m → Reasoned n → Reasoned (cond b m n)
reason_cond true m n h k = h
reason_cond false m n h k = k

reason_two : {A B : Type 0} (m : Result (A × List Item) Stop) (f : A → List Item → Result (B × List Item) Stop) → Reasoned m → ((a : A) (xs : List Item) → m ≡ Ok (a, xs) → Reasoned (f a xs)) → Reasoned (two m f)
reason_two (Err s) f h k = h
reason_two (Ok x) f h k = reason_map (f x.0 x.1) (λ b. (x.0, b)) (k x.0 x.1 refl)

token_reason : (tried : List Tried) (k : Token) (xs : List Item) → Reasoned (read_token tried k xs)
token_reason tried k [] = tt
token_reason tried k (x ∷ xs) = go (is_token k x.token) refl (valid k x.text) refl
  where
    go : (b : Bool) → is_token k x.token ≡ b → (c : Bool) → valid k x.text ≡ c → Reasoned {A = Item} (cond b (cond c (Ok (x, xs)) (Err (record { left = x ∷ xs; expected = can k ∷ []; why = version }))) (refuse (x ∷ xs) (tried ++ (can k ∷ []))))
    go true e true v = tt
    go true e false v = (k, x, xs, refl, e, v, refl)
    go false e c v = tt

token_is : (tried : List Tried) (k : Token) (xs : List Item) (x : Item) (rest : List Item) → read_token tried k xs ≡ Ok (x, rest) → is_token k x.token ≡ true
token_is tried k [] x rest h = absurd cc
token_is tried k (y ∷ ys) x rest h = go (is_token k y.token) refl (valid k y.text) h
  where
    go : (b : Bool) → is_token k y.token ≡ b → (c : Bool) → cond {A = Result (Item × List Item) Stop} b (cond {A = Result (Item × List Item) Stop} c (Ok (y, ys)) (Err (record { left = y ∷ ys; expected = can k ∷ []; why = version }))) (refuse (y ∷ ys) (tried ++ (can k ∷ []))) ≡ Ok (x, rest) → is_token k x.token ≡ true
    go true e true h = let p : y ≡ x = ap first_of h in subst (λ (z : Item). is_token k z.token ≡ true) p e
      where
        first_of : Result (Item × List Item) Stop → Item
        first_of (Ok p) = p.0
        first_of (Err s) = y
    go true e false h = absurd cc
    go false e c h = absurd cc

sym_reason : {A : Type 0} (f : List Item → Result (A × List Item) Stop) (ks : List Token) (tried : List Tried) (xs : List Item) → Reasoned (f xs) → Reasoned (read_sym f ks tried xs)
sym_reason f ks [] xs h = h
sym_reason f ks (t ∷ ts) xs h = reason_cond (at_one_of ks xs) (f xs) (refuse xs ((t ∷ ts) ++ map can ks)) h tt

module _ (rec : Reader) (reasons : (s : Sym) (xs : List Item) → Reasoned (rec s xs)) where
  reason_in : (g : Grammar) (tried : List Tried) (xs : List Item) → tells_well g ≡ true → Reasoned (read_in rec g tried xs)
  reason_in (token k) tried xs ok = token_reason tried k xs
  reason_in (sym s) tried xs ok = sym_reason (rec s) (begins s) tried xs (reasons s xs)
  reason_in (then g h) tried xs ok = reason_two (read_in rec g tried xs) (λ a. read_in rec h []) (reason_in g tried xs (both_left (tells_well g) (tells_well h) ok)) (λ a ys e. reason_in h [] ys (both_right (tells_well g) (tells_well h) ok))
  reason_in (either loud g h) tried xs ok = reason_cond {A = Parts g ⊎ Parts h} (at_one_of (first g) xs) _ _
      (reason_map (read_in rec g [] xs) inl (reason_in g [] xs (both_left (tells_well g) (tells_well h) ok)))
      (reason_map (read_in rec h (tried ++ cond loud (map can (first g)) []) xs) inr (reason_in h (tried ++ cond loud (map can (first g)) []) xs (both_right (tells_well g) (tells_well h) ok)))
  reason_in (nothing b) tried xs ok = reason_cond {A = Unit {0}} (may_leave b xs) _ _ tt tt
  reason_in (to_end g) tried [] ok = tt
  reason_in (to_end g) tried (x ∷ xs) ok = reason_map (read_in rec g [] (x ∷ xs)) inr (reason_in g [] (x ∷ xs) ok)
  reason_in (docs g) tried xs ok = reason_map (read_in rec g tried xs) (λ b. (docs_of xs, b)) (reason_in g tried xs ok)
  reason_in (not_empty b k g) tried xs ok = reason_cond {A = Parts g} (at k xs) _ _ tt (reason_in g (tried ++ (closes k ∷ [])) xs ok)
  reason_in (more k s g) tried [] ok = tt
  reason_in (more k s g) tried (x ∷ xs) ok = reason_in g tried (x ∷ xs) ok
  reason_in (or_told g k h) tried xs ok =
      let ok_parts = both_left (both (tells_well g) (tells_well h)) (both (same_token t.String k) (only_identifier (first g))) ok in
      let ok_told = both_right (both (tells_well g) (tells_well h)) (both (same_token t.String k) (only_identifier (first g))) ok in
      reason_cond {A = Parts g ⊎ (Item × Parts h)} (at_one_of (first g) xs) _ _
      (reason_map (read_in rec g [] xs) inl (reason_in g [] xs (both_left (tells_well g) (tells_well h) ok_parts)))
      (reason_map _ inr (reason_two (read_token (tried ++ map can (first g)) k xs) (led (first h) (map can (first g)) (read_in rec h [])) (token_reason (tried ++ map can (first g)) k xs)
      (λ x ys e. reason_cond {A = Parts h} (at_one_of (first h) ys) _ _ (reason_in h [] ys (both_right (tells_well g) (tells_well h) ok_parts)) (
        subst (λ (l : Token). is_token l x.token ≡ true) (back (same_is t.String k (both_left (same_token t.String k) (only_identifier (first g)) ok_told))) (token_is (tried ++ map can (first g)) k xs x ys e),
        one_identifier (first g) (both_right (same_token t.String k) (only_identifier (first g)) ok_told),
      ))))

by_reason : (n : ℕ) (s : Sym) (xs : List Item) → Reasoned (read_by n s xs)
by_reason zero s xs = tt
by_reason (suc n) s xs = reason_map (read_in (read_by n) (rule s) [] xs) (build s) (reason_in (read_by n) (by_reason n) (rule s) [] xs (rule_tells s))

reasoned : (s : Sym) (xs : List Item) → Reasoned (read s xs)
unfolding read
reasoned s xs = by_reason (suc (enough xs)) s xs

pub reason : (s : Sym) (xs : List Item) (stop : Stop) → read s xs ≡ Err stop → Reason stop.why stop.left stop.expected
reason s xs stop h = subst (λ (m : Result (TreeOf s × List Item) Stop). Reasoned m) h (reasoned s xs)
