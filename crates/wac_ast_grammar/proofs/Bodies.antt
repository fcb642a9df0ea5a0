-- A body is rejected for being empty exactly after its opening brace and at the closing one.
use Rattle.std.proofs.Common.{◌≡◌, ℕ, zero, suc, arith, List, [], ◌∷◌, ◌++◌, length, map, Result, Ok, Err, Bool, true, false, cond, refl, sym as back, ap, subst, ◌∙◌, ◌⊎◌, inl, inr, append_assoc}
use Rattle.wac_ast_grammar.proofs.Common.{append_cancel_right, Token, Error, Item}
use Rattle.wac_lexer.specs.declared.token.Token.TheVariants as t
use Rattle.wac_ast_grammar.specs.Tokens.{is_token, valid, at}
use Rattle.wac_ast_grammar.specs.Grammar.{Sym, identifier, rule, build, TreeOf, Parts, Body, variant_body, record_body, flags_body, enum_body, Grammar, token, sym, then, either, nothing, to_end, docs, not_empty, more, or_told, docs_of, list_items, more_items, arguments}
use Rattle.wac_ast_grammar.specs.Reading.{Tried, closing, can, closes, follows, Stop, Why, other, version, empty_body, told, refuse, mapped, pair_with, two, read, read_by, read_in, read_token, read_sym, led, is_empty, begins, first, at_one_of, may_leave, enough}
use Rattle.wac_ast_grammar.specs.Possible.{named}
use Rattle.wac_ast_grammar.specs.Bodies.{keyword_of, Opens}
use Rattle.wac_ast_grammar.proofs.Fixed.{Reader, Shrinks, in_shrinks, by_shrinks, both, both_left, both_right}
use Rattle.wac_ast_grammar.proofs.Tables.{negated, not_true, same_token}
use Rattle.wac_ast_grammar.proofs.Completed.{same_is, one_only, named_split, cans_once, follows_later}

-- ---- how far the beginning of a body has been read

pub data State : Type 0 where
  outside : State
  at_keyword : Body → State
  at_name : Body → State
  inside : Body → State

-- what a token is to the beginning of a body
pub data Role : Type 0 where
  keyword : Body → Role
  name : Role
  brace : Role
  plain : Role

abbrev pub role : Token → Role
role t.VariantKeyword = keyword variant_body
role t.RecordKeyword = keyword record_body
role t.FlagsKeyword = keyword flags_body
role t.EnumKeyword = keyword enum_body
role t.Ident = name
role t.OpenBrace = brace
role k = plain

abbrev pub move : State → Role → State
move st (keyword b) = at_keyword b
move (at_keyword b) name = at_name b
move (at_name b) brace = inside b
move st r = outside

abbrev pub step : State → Token → State
step st k = move st (role k)

abbrev pub step_of : State → Result Token Error → State
step_of st (Ok k) = step st k
step_of st (Err e) = outside

abbrev pub run : State → List Item → State
run st [] = st
run st (x ∷ xs) = run (step_of st x.token) xs

run_append : (st : State) (xs ys : List Item) → run st (xs ++ ys) ≡ run (run st xs) ys
run_append st [] ys = refl
run_append st (x ∷ xs) ys = run_append (step_of st x.token) xs ys

pub is_ok_token : (k : Token) (r : Result Token Error) → is_token k r ≡ true → r ≡ Ok k
is_ok_token k (Ok a) h = ap Ok (back (same_is k a h))
is_ok_token k (Err e) h = absurd cc

step_token : (st : State) (k : Token) (x : Item) → is_token k x.token ≡ true → step_of st x.token ≡ step st k
step_token st k x h = ap (step_of st) (is_ok_token k x.token h)

step_inside : (b : Body) (k : Token) → step (inside b) k ≡ step outside k
step_inside b k = go (role k)
  where
    go : (r : Role) → move (inside b) r ≡ move outside r
    go (keyword c) = refl
    go name = refl
    go brace = refl
    go plain = refl

run_inside : (b : Body) (x : Item) (xs : List Item) → run (inside b) (x ∷ xs) ≡ run outside (x ∷ xs)
run_inside b x xs = ap (λ st. run st xs) (go x.token)
  where
    go : (r : Result Token Error) → step_of (inside b) r ≡ step_of outside r
    go (Ok k) = step_inside b k
    go (Err e) = refl

-- ---- what a grammar does with it

abbrev pub is_outside : State → Bool
is_outside outside = true
is_outside _ = false

abbrev pub not_inside : State → Bool
not_inside (inside b) = false
not_inside _ = true

abbrev pub is_identifier : Sym → Bool
is_identifier identifier = true
is_identifier _ = false

abbrev pub after_sym : State → Sym → State
after_sym st s = cond (is_identifier s) (step st t.Ident) outside

abbrev pub after : State → Grammar → State
after st (token k) = step st k
after st (sym s) = after_sym st s
after st (then g h) = after (after st g) h
after st (either loud g h) = outside
after st (nothing b) = outside
after st (to_end g) = outside
after st (docs g) = after st g
after st (not_empty b k g) = outside
after st (more k s g) = outside
after st (or_told g k h) = outside

abbrev pub same_body : Body → State → Bool
same_body variant_body (inside variant_body) = true
same_body record_body (inside record_body) = true
same_body flags_body (inside flags_body) = true
same_body enum_body (inside enum_body) = true
same_body b st = false

abbrev pub may_read : State → Sym → Bool
may_read st s = cond (is_outside st) true (both (is_identifier s) (not_inside st))

-- The grammar reads the beginning of a body whole, or nothing of one.
abbrev pub well : State → Grammar → Bool
well st (token k) = not_inside st
well st (sym s) = may_read st s
well st (then g h) = both (well st g) (well (after st g) h)
well st (either loud g h) = both (is_outside st) (both (both (well outside g) (is_outside (after outside g))) (both (well outside h) (is_outside (after outside h))))
well st (nothing b) = is_outside st
well st (to_end g) = both (is_outside st) (both (well outside g) (is_outside (after outside g)))
well st (docs g) = well st g
well st (not_empty b k g) = both (both (same_body b st) (same_token t.CloseBrace k)) (both (negated (is_empty g)) (both (well outside g) (is_outside (after outside g))))
well st (more k s g) = both (is_outside st) (both (well outside g) (is_outside (after outside g)))
well st (or_told g k h) = both (is_outside st) (both (both (well outside g) (is_outside (after outside g))) (both (is_outside (step outside k)) (both (well outside h) (is_outside (after outside h)))))

pub rule_well : (s : Sym) → well outside (rule s) ≡ true
rule_well (list_items arguments) = refl
rule_well (more_items arguments) = refl
rule_well _ = refl

pub rule_after : (s : Sym) → is_outside (after outside (rule s)) ≡ true
rule_after (list_items arguments) = refl
rule_after (more_items arguments) = refl
rule_after _ = refl

outside_is : (st : State) → is_outside st ≡ true → st ≡ outside
outside_is outside h = refl
outside_is (at_keyword b) h = absurd cc
outside_is (at_name b) h = absurd cc
outside_is (inside b) h = absurd cc

outside_not : (st : State) → is_outside st ≡ true → not_inside st ≡ true
outside_not outside h = refl
outside_not (at_keyword b) h = refl
outside_not (at_name b) h = refl
outside_not (inside b) h = absurd cc

not_inside_is : (st : State) (b : Body) → not_inside st ≡ true → st ≡ inside b → ⊥
not_inside_is st b h e = let k : not_inside (inside b) ≡ true = subst (λ (st : State). not_inside st ≡ true) e h in absurd cc

body_is : (b : Body) (st : State) → same_body b st ≡ true → st ≡ inside b
body_is variant_body (inside variant_body) h = refl
body_is record_body (inside record_body) h = refl
body_is flags_body (inside flags_body) h = refl
body_is enum_body (inside enum_body) h = refl
body_is _ _ h = absurd cc

inside_body : (b c : Body) → inside b ≡ inside c → empty_body b ≡ empty_body c
inside_body b c e = ap empty_body (ap body_in e)
  where
    body_in : State → Body
    body_in (inside d) = d
    body_in st = b

body_inside : (b c : Body) → empty_body b ≡ empty_body c → inside b ≡ inside c
body_inside b c e = ap inside (ap body_of e)
  where
    body_of : Why → Body
    body_of (empty_body d) = d
    body_of w = b

-- ---- what reading does with it

-- After the items that were read: the body is empty exactly where it was just opened and the next item closes it.
abbrev pub Marks : State → Stop → Type 0
Marks st s = ((b : Body) → s.why ≡ empty_body b → (st ≡ inside b) × (at t.CloseBrace s.left ≡ true)) × ((b : Body) → st ≡ inside b → at t.CloseBrace s.left ≡ true → s.why ≡ empty_body b)

abbrev no_items : List Item
no_items = []

-- the token closes a body that was just opened
abbrev pub Closing : State → Token → Type 0
Closing st k = (b : Body) × (st ≡ inside b) × (same_token t.CloseBrace k ≡ true)

-- Each token that would close an empty body was named before at this very place, or it closes one.
abbrev pub Closings : List Tried → List Item → State → Stop → Type 0
Closings tried front st s = (k : Token) → named closing k s.expected ≡ true → ((named closing k tried ≡ true) × (front ≡ [])) ⊎ Closing st k

abbrev pub Traced : {A : Type 0} → State → State → List Tried → List Item → Result (A × List Item) Stop → Type 0
Traced st end tried xs (Ok x) = (front : List Item) × (xs ≡ front ++ x.1) × (run st front ≡ end)
Traced st end tried xs (Err s) = (front : List Item) × (xs ≡ front ++ s.left) × Marks (run st front) s × Closings tried front (run st front) s

traced_map : {A B : Type 0} (st end : State) (tried : List Tried) (xs : List Item) (m : Result (A × List Item) Stop) (f : A → B) → Traced st end tried xs m → Traced st end tried xs (mapped f m)
traced_map st end tried xs (Ok x) f h = h
traced_map st end tried xs (Err s) f h = h

traced_cond : {A : Type 0} (st end : State) (tried : List Tried) (b : Bool) (xs : List Item) (m n : Result (A × List Item) Stop) → Traced st end tried xs m → Traced st end tried xs n → Traced st end tried xs (cond b m n)
traced_cond st end tried true xs m n h k = h
traced_cond st end tried false xs m n h k = k

traced_end : {A : Type 0} (st mid end : State) (tried : List Tried) (xs : List Item) (m : Result (A × List Item) Stop) → mid ≡ end → Traced st mid tried xs m → Traced st end tried xs m
traced_end st mid end tried xs m e h = subst (λ (u : State). Traced st u tried xs m) e h

traced_two : {A B : Type 0} (st mid end : State) (tried : List Tried) (xs : List Item) (m : Result (A × List Item) Stop) (f : A → List Item → Result (B × List Item) Stop) → Traced st mid tried xs m → ((a : A) (ys : List Item) → Traced mid end [] ys (f a ys)) → Traced st end tried xs (two m f)
traced_two st mid end tried xs (Err s) f h k = h
traced_two {B = B} st mid end tried xs (Ok x) f h k = go (f x.0 x.1) (k x.0 x.1)
  where
    whole : (front rest : List Item) → x.1 ≡ front ++ rest → xs ≡ (h.0 ++ front) ++ rest
    whole front rest e = h.1 ∙ ap (λ (ys : List Item). h.0 ++ ys) e ∙ back (append_assoc h.0 front rest)

    ran : (front : List Item) → run mid front ≡ run st (h.0 ++ front)
    ran front = back (run_append st h.0 front ∙ ap (λ (u : State). run u front) h.2)

    later : (front : List Item) (k : Token) → ((named closing k [] ≡ true) × (front ≡ [])) ⊎ Closing (run mid front) k → ((named closing k tried ≡ true) × (h.0 ++ front ≡ [])) ⊎ Closing (run st (h.0 ++ front)) k
    later front k (inl n) = let a = n.0 in absurd cc
    later front k (inr c) = inr (subst (λ (u : State). Closing u k) (ran front) c)

    go : (n : Result (B × List Item) Stop) → Traced mid end [] x.1 n → Traced st end tried xs (pair_with x.0 n)
    go (Ok y) d = (h.0 ++ d.0, whole d.0 y.1 d.1, back (ran d.0) ∙ d.2)
    go (Err s) d = (h.0 ++ d.0, whole d.0 s.left d.1, subst (λ (u : State). Marks u s) (ran d.0) d.2, λ k n. later d.0 k (d.3 k n))

-- any other rejection, where no body was just opened
calm : (st : State) (s : Stop) → not_inside st ≡ true → ((b : Body) → s.why ≡ empty_body b → ⊥) → Marks st s
calm st s h k = (λ b e. absurd (k b e), λ b e a. absurd (not_inside_is st b h e))

no_body : (b : Body) → other ≡ empty_body b → ⊥
no_body b e = absurd cc

-- the tokens that are named close nothing, but for those that were named before
abbrev Calm : List Tried → List Tried → Type 0
Calm tried ts = (k : Token) → named closing k ts ≡ true → named closing k tried ≡ true

calm_cans : (tried : List Tried) (ks : List Token) → Calm tried (tried ++ map can ks)
calm_cans tried ks k n = go (named_split closing k tried (map can ks) n)
  where
    go : (named closing k tried ≡ true) ⊎ (named closing k (map can ks) ≡ true) → named closing k tried ≡ true
    go (inl n) = n
    go (inr n) = let e = (cans_once closing k ks n).0 in absurd cc

calm_loud : (tried : List Tried) (loud : Bool) (ks : List Token) → Calm tried (tried ++ cond loud (map can ks) [])
calm_loud tried true ks = calm_cans tried ks
calm_loud tried false ks = calm_cans tried []

calm_more : (tried : List Tried) (k : Token) (ks : List Token) → Calm tried (can k ∷ map follows ks)
calm_more tried l ks k n = let e = (follows_later closing k ks n).0 in absurd cc

traced_refuse : (A : Type 0) (st end : State) (tried : List Tried) (xs : List Item) (ts : List Tried) → not_inside st ≡ true → Calm tried ts → Traced {A = A} st end tried xs (refuse xs ts)
traced_refuse A st end tried xs ts h c = ([], refl, calm st (record { left = xs; expected = ts; why = other }) h no_body, λ k n. inl (c k n, refl))

token_traced : (st : State) (tried ts : List Tried) (k : Token) (xs : List Item) → not_inside st ≡ true → Calm tried ts → Traced st (step st k) tried xs (read_token ts k xs)
token_traced st tried ts k [] h c = traced_refuse Item st (step st k) tried [] (ts ++ (can k ∷ [])) h (λ l n. c l (calm_cans ts (k ∷ []) l n))
token_traced st tried ts k (x ∷ xs) h c = go (is_token k x.token) refl
  where
    go : (b : Bool) → is_token k x.token ≡ b → Traced {A = Item} st (step st k) tried (x ∷ xs) (cond b (cond (valid k x.text) (Ok (x, xs)) (Err (record { left = x ∷ xs; expected = can k ∷ []; why = version }))) (refuse (x ∷ xs) (ts ++ (can k ∷ []))))
    go true e = traced_cond {A = Item} st (step st k) tried (valid k x.text) (x ∷ xs) _ _ (x ∷ [], refl, step_token st k x e) ([], refl, calm st (record { left = x ∷ xs; expected = can k ∷ []; why = version }) h (λ b e. absurd cc), λ l n. absurd (let e = (cans_once closing l (k ∷ []) n).0 in cc))
    go false e = traced_refuse Item st (step st k) tried (x ∷ xs) (ts ++ (can k ∷ [])) h (λ l n. c l (calm_cans ts (k ∷ []) l n))

-- what was named before comes from what was named earlier still
traced_less : {A : Type 0} (st end : State) (tried ts : List Tried) (xs : List Item) (m : Result (A × List Item) Stop) → Calm tried ts → Traced st end ts xs m → Traced st end tried xs m
traced_less st end tried ts xs (Ok x) c h = h
traced_less st end tried ts xs (Err s) c h = (h.0, h.1, h.2, λ k n. go k (h.3 k n))
  where
    go : (k : Token) → ((named closing k ts ≡ true) × (h.0 ≡ [])) ⊎ Closing (run st h.0) k → ((named closing k tried ≡ true) × (h.0 ≡ [])) ⊎ Closing (run st h.0) k
    go k (inl n) = inl (c k n.0, n.1)
    go k (inr n) = inr n

calm_none : (tried : List Tried) → Calm tried []
calm_none tried k n = absurd cc

-- a body that was just opened is as none where an item was read
entered : {A : Type 0} (b : Body) (l : Token) (tried : List Tried) (xs : List Item) (m : Result (A × List Item) Stop) → same_token t.CloseBrace l ≡ true → Shrinks false xs m → at t.CloseBrace xs ≡ false → Traced outside outside (tried ++ (closes l ∷ [])) xs m → Traced (inside b) outside tried xs m
entered {A = A} b l tried xs (Ok x) cl sh closed d = go d.0 d.1 d.2
  where
    go : (front : List Item) → xs ≡ front ++ x.1 → run outside front ≡ outside → Traced {A = A} (inside b) outside tried xs (Ok x)
    go [] e r = let n = ap length e in absurd (omega (arith, sh))
    go (y ∷ ys) e r = (y ∷ ys, e, run_inside b y ys ∙ r)
entered {A = A} b l tried xs (Err s) cl sh closed d = go d.0 d.1 d.2 d.3
  where
    at_first : (k : Token) → (named closing k tried ≡ true) ⊎ (named closing k (closes l ∷ []) ≡ true) → ((named closing k tried ≡ true) × (no_items ≡ no_items)) ⊎ Closing (inside b) k
    at_first k (inl n) = inl (n, refl)
    at_first k (inr n) = inr (b, refl, subst (λ (o : Token). same_token t.CloseBrace o ≡ true) (same_is l k (one_only (same_token l k) n)) cl)

    first_of : (k : Token) → ((named closing k (tried ++ (closes l ∷ [])) ≡ true) × (no_items ≡ no_items)) ⊎ Closing outside k → ((named closing k tried ≡ true) × (no_items ≡ no_items)) ⊎ Closing (inside b) k
    first_of k (inl n) = at_first k (named_split closing k tried (closes l ∷ []) n.0)
    first_of k (inr c) = let e = c.1 in absurd cc

    later : (y : Item) (ys : List Item) (k : Token) → ((named closing k (tried ++ (closes l ∷ [])) ≡ true) × (y ∷ ys ≡ [])) ⊎ Closing (run outside (y ∷ ys)) k → ((named closing k tried ≡ true) × (y ∷ ys ≡ [])) ⊎ Closing (run (inside b) (y ∷ ys)) k
    later y ys k (inl n) = let e = n.1 in absurd cc
    later y ys k (inr c) = inr (subst (λ (u : State). Closing u k) (back (run_inside b y ys)) c)

    go : (front : List Item) → xs ≡ front ++ s.left → Marks (run outside front) s → Closings (tried ++ (closes l ∷ [])) front (run outside front) s → Traced {A = A} (inside b) outside tried xs (Err s)
    go [] e r c = ([], e, ((λ c w. let n = (r.0 c w).0 in absurd cc), (λ c w a. let n : at t.CloseBrace xs ≡ true = ap (at t.CloseBrace) e ∙ a in absurd cc)), λ k n. first_of k (c k n))
    go (y ∷ ys) e r c = (y ∷ ys, e, subst (λ (u : State). Marks u s) (back (run_inside b y ys)) r, λ k n. later y ys k (c k n))

sym_traced : {A : Type 0} (st end : State) (f : List Item → Result (A × List Item) Stop) (ks : List Token) (tried : List Tried) (xs : List Item) → not_inside st ≡ true → Traced st end [] xs (f xs) → Traced st end tried xs (read_sym f ks tried xs)
sym_traced st end f ks [] xs n h = h
sym_traced {A = A} st end f ks (t ∷ ts) xs n h = traced_cond st end (t ∷ ts) (at_one_of ks xs) xs (f xs) (refuse xs ((t ∷ ts) ++ map can ks)) (traced_less st end (t ∷ ts) [] xs (f xs) (calm_none (t ∷ ts)) h) (traced_refuse A st end (t ∷ ts) xs ((t ∷ ts) ++ map can ks) n (calm_cans (t ∷ ts) ks))

-- what begins and ends outside
at_rest : {A : Type 0} (st : State) (tried : List Tried) (xs : List Item) (m : Result (A × List Item) Stop) → is_outside st ≡ true → Traced outside outside tried xs m → Traced st outside tried xs m
at_rest st tried xs m o h = subst (λ (u : State). Traced u outside tried xs m) (back (outside_is st o)) h

rests : {A : Type 0} (end : State) (tried ts : List Tried) (xs : List Item) (m : Result (A × List Item) Stop) → Calm tried ts → is_outside end ≡ true → Traced outside end ts xs m → Traced outside outside tried xs m
rests end tried ts xs m c o h = traced_less outside outside tried ts xs m c (traced_end outside end outside ts xs m (outside_is end o) h)

same_close : (k : Token) (xs : List Item) → same_token t.CloseBrace k ≡ true → at k xs ≡ at t.CloseBrace xs
same_close k xs h = ap (λ (l : Token). at l xs) (back (same_is t.CloseBrace k h))

module _ (rec : Reader) (shrinks : (g : Grammar) (tried : List Tried) (xs : List Item) → Shrinks (is_empty g) xs (read_in rec g tried xs)) (traces : (s : Sym) (st : State) (xs : List Item) → may_read st s ≡ true → Traced st (after_sym st s) [] xs (rec s xs)) where
  may_not_inside : (st : State) (s : Sym) → may_read st s ≡ true → not_inside st ≡ true
  may_not_inside st s h = go (is_outside st) refl h
    where
      go : (b : Bool) → is_outside st ≡ b → cond b true (both (is_identifier s) (not_inside st)) ≡ true → not_inside st ≡ true
      go true e h = outside_not st e
      go false e h = both_right (is_identifier s) (not_inside st) h

  traced_in : (g : Grammar) (st : State) (tried : List Tried) (xs : List Item) → well st g ≡ true → Traced st (after st g) tried xs (read_in rec g tried xs)
  traced_in (token k) st tried xs ok = token_traced st tried tried k xs ok (λ l n. n)
  traced_in (sym s) st tried xs ok = sym_traced st (after_sym st s) (rec s) (begins s) tried xs (may_not_inside st s ok) (traces s st xs ok)
  traced_in (then g h) st tried xs ok =
      traced_two st (after st g) (after (after st g) h) tried xs (read_in rec g tried xs) (λ a. read_in rec h [])
      (traced_in g st tried xs (both_left (well st g) (well (after st g) h) ok)) (λ a ys. traced_in h (after st g) [] ys (both_right (well st g) (well (after st g) h) ok))
  traced_in (either loud g h) st tried xs ok =
      let oks = both_right (is_outside st) (both (both (well outside g) (is_outside (after outside g))) (both (well outside h) (is_outside (after outside h)))) ok in
      let ok_g = both_left (both (well outside g) (is_outside (after outside g))) (both (well outside h) (is_outside (after outside h))) oks in
      let ok_h = both_right (both (well outside g) (is_outside (after outside g))) (both (well outside h) (is_outside (after outside h))) oks in
      at_rest st tried xs (read_in rec (either loud g h) tried xs) (both_left (is_outside st) (both (both (well outside g) (is_outside (after outside g))) (both (well outside h) (is_outside (after outside h)))) ok)
      (traced_cond {A = Parts g ⊎ Parts h} outside outside tried (at_one_of (first g) xs) xs _ _
      (traced_map outside outside tried xs (read_in rec g [] xs) inl (rests (after outside g) tried [] xs (read_in rec g [] xs) (calm_none tried) (both_right (well outside g) (is_outside (after outside g)) ok_g) (traced_in g outside [] xs (both_left (well outside g) (is_outside (after outside g)) ok_g))))
      (traced_map outside outside tried xs (read_in rec h (tried ++ cond loud (map can (first g)) []) xs) inr (rests (after outside h) tried (tried ++ cond loud (map can (first g)) []) xs (read_in rec h (tried ++ cond loud (map can (first g)) []) xs) (calm_loud tried loud (first g)) (both_right (well outside h) (is_outside (after outside h)) ok_h) (traced_in h outside (tried ++ cond loud (map can (first g)) []) xs (both_left (well outside h) (is_outside (after outside h)) ok_h)))))
  traced_in (nothing b) st tried xs ok = at_rest st tried xs (read_in rec (nothing b) tried xs) ok (traced_cond {A = Unit {0}} outside outside tried (may_leave b xs) xs _ _ ([], refl, refl) (traced_refuse (Unit {0}) outside outside tried xs tried refl (λ l n. n)))
  traced_in (to_end g) st tried xs ok =
      let ok_g = both_right (is_outside st) (both (well outside g) (is_outside (after outside g))) ok in
      at_rest st tried xs (read_in rec (to_end g) tried xs) (both_left (is_outside st) (both (well outside g) (is_outside (after outside g))) ok)
      (go xs (rests (after outside g) tried [] xs (read_in rec g [] xs) (calm_none tried) (both_right (well outside g) (is_outside (after outside g)) ok_g) (traced_in g outside [] xs (both_left (well outside g) (is_outside (after outside g)) ok_g))))
    where
      go : (xs : List Item) → Traced outside outside tried xs (read_in rec g [] xs) → Traced outside outside tried xs (read_in rec (to_end g) tried xs)
      go [] d = ([], refl, refl)
      go (x ∷ xs) d = traced_map outside outside tried (x ∷ xs) (read_in rec g [] (x ∷ xs)) inr d
  traced_in (docs g) st tried xs ok = traced_map st (after st g) tried xs (read_in rec g tried xs) (λ b. (docs_of xs, b)) (traced_in g st tried xs ok)
  traced_in (not_empty b k g) st tried xs ok =
      let ok_b = both_left (both (same_body b st) (same_token t.CloseBrace k)) (both (negated (is_empty g)) (both (well outside g) (is_outside (after outside g)))) ok in
      let ok_n = both_right (both (same_body b st) (same_token t.CloseBrace k)) (both (negated (is_empty g)) (both (well outside g) (is_outside (after outside g)))) ok in
      let ok_g = both_right (negated (is_empty g)) (both (well outside g) (is_outside (after outside g))) ok_n in
      let some = not_true (is_empty g) (both_left (negated (is_empty g)) (both (well outside g) (is_outside (after outside g))) ok_n) in
      let m = read_in rec g (tried ++ (closes k ∷ [])) xs in
      let d = rests (after outside g) (tried ++ (closes k ∷ [])) (tried ++ (closes k ∷ [])) xs m (λ l n. n) (both_right (well outside g) (is_outside (after outside g)) ok_g) (traced_in g outside (tried ++ (closes k ∷ [])) xs (both_left (well outside g) (is_outside (after outside g)) ok_g)) in
      subst (λ (u : State). Traced u outside tried xs (read_in rec (not_empty b k g) tried xs)) (back (body_is b st (both_left (same_body b st) (same_token t.CloseBrace k) ok_b)))
      (go (both_right (same_body b st) (same_token t.CloseBrace k) ok_b) (at k xs) (back (same_close k xs (both_right (same_body b st) (same_token t.CloseBrace k) ok_b))) m (subst (λ (e : Bool). Shrinks e xs m) some (shrinks g (tried ++ (closes k ∷ [])) xs)) d)
    where
      go : same_token t.CloseBrace k ≡ true → (c : Bool) → at t.CloseBrace xs ≡ c → (m : Result (Parts g × List Item) Stop) → Shrinks false xs m → Traced outside outside (tried ++ (closes k ∷ [])) xs m → Traced (inside b) outside tried xs (cond c (Err (record { left = xs; expected = []; why = empty_body b })) m)
      go cl true e m sh d = ([], refl, ((λ c w. (body_inside b c w, e)), (λ c w a. inside_body b c w)), λ l n. absurd cc)
      go cl false e m sh d = entered b k tried xs m cl sh e d
  traced_in (more k s g) st tried xs ok =
      let ok_g = both_right (is_outside st) (both (well outside g) (is_outside (after outside g))) ok in
      at_rest st tried xs (read_in rec (more k s g) tried xs) (both_left (is_outside st) (both (well outside g) (is_outside (after outside g))) ok)
      (go xs (rests (after outside g) tried tried xs (read_in rec g tried xs) (λ l n. n) (both_right (well outside g) (is_outside (after outside g)) ok_g) (traced_in g outside tried xs (both_left (well outside g) (is_outside (after outside g)) ok_g))))
    where
      go : (xs : List Item) → Traced outside outside tried xs (read_in rec g tried xs) → Traced outside outside tried xs (read_in rec (more k s g) tried xs)
      go [] d = traced_refuse (Parts g) outside outside tried [] (can k ∷ map follows (begins s)) refl (calm_more tried k (begins s))
      go (x ∷ xs) d = d
  traced_in (or_told g k h) st tried xs ok =
      let oks = both_right (is_outside st) (both (both (well outside g) (is_outside (after outside g))) (both (is_outside (step outside k)) (both (well outside h) (is_outside (after outside h))))) ok in
      let ok_g = both_left (both (well outside g) (is_outside (after outside g))) (both (is_outside (step outside k)) (both (well outside h) (is_outside (after outside h)))) oks in
      let ok_r = both_right (both (well outside g) (is_outside (after outside g))) (both (is_outside (step outside k)) (both (well outside h) (is_outside (after outside h)))) oks in
      let ok_k = both_left (is_outside (step outside k)) (both (well outside h) (is_outside (after outside h))) ok_r in
      let ok_h = both_right (is_outside (step outside k)) (both (well outside h) (is_outside (after outside h))) ok_r in
      at_rest st tried xs (read_in rec (or_told g k h) tried xs) (both_left (is_outside st) (both (both (well outside g) (is_outside (after outside g))) (both (is_outside (step outside k)) (both (well outside h) (is_outside (after outside h))))) ok)
      (traced_cond {A = Parts g ⊎ (Item × Parts h)} outside outside tried (at_one_of (first g) xs) xs _ _
      (traced_map outside outside tried xs (read_in rec g [] xs) inl (rests (after outside g) tried [] xs (read_in rec g [] xs) (calm_none tried) (both_right (well outside g) (is_outside (after outside g)) ok_g) (traced_in g outside [] xs (both_left (well outside g) (is_outside (after outside g)) ok_g))))
      (traced_map outside outside tried xs _ inr
      (traced_two outside outside outside tried xs (read_token (tried ++ map can (first g)) k xs) (led (first h) (map can (first g)) (read_in rec h []))
      (rests (step outside k) tried tried xs (read_token (tried ++ map can (first g)) k xs) (λ l n. n) ok_k (token_traced outside tried (tried ++ map can (first g)) k xs refl (calm_cans tried (first g))))
      (λ x ys. traced_cond {A = Parts h} outside outside [] (at_one_of (first h) ys) ys _ _
      (rests (after outside h) [] [] ys (read_in rec h [] ys) (λ l n. n) (both_right (well outside h) (is_outside (after outside h)) ok_h) (traced_in h outside [] ys (both_left (well outside h) (is_outside (after outside h)) ok_h)))
      ([], refl, calm outside (record { left = ys; expected = map can (first g); why = told x }) refl (λ b e. absurd cc), λ l n. absurd (let e = (cans_once closing l (first g) n).0 in cc))))))

identifier_well : (s : Sym) (st : State) → is_identifier s ≡ true → (well st (rule s) ≡ not_inside st) × (after st (rule s) ≡ after_sym st s)
identifier_well identifier st h = (refl, refl)
identifier_well _ st h = absurd cc

by_traces : (n : ℕ) (s : Sym) (st : State) (xs : List Item) → may_read st s ≡ true → Traced st (after_sym st s) [] xs (read_by n s xs)
by_traces zero s st xs h = traced_refuse (TreeOf s) st (after_sym st s) [] xs [] (go (is_outside st) refl h) (λ l n. n)
  where
    go : (b : Bool) → is_outside st ≡ b → cond b true (both (is_identifier s) (not_inside st)) ≡ true → not_inside st ≡ true
    go true e h = outside_not st e
    go false e h = both_right (is_identifier s) (not_inside st) h
by_traces (suc n) s st xs h = traced_map st (after_sym st s) [] xs (read_in (read_by n) (rule s) [] xs) (build s)
    (go (is_outside st) refl h (λ u ok. traced_in (read_by n) (in_shrinks (read_by n) (by_shrinks n)) (by_traces n) (rule s) u [] xs ok))
  where
    always_outside : (b : Bool) → outside ≡ cond b outside outside
    always_outside true = refl
    always_outside false = refl

    go : (b : Bool) → is_outside st ≡ b → cond b true (both (is_identifier s) (not_inside st)) ≡ true → ((u : State) → well u (rule s) ≡ true → Traced u (after u (rule s)) [] xs (read_in (read_by n) (rule s) [] xs)) → Traced st (after_sym st s) [] xs (read_in (read_by n) (rule s) [] xs)
    go true e h in_rule = subst (λ (u : State). Traced u (after_sym u s) [] xs (read_in (read_by n) (rule s) [] xs)) (back (outside_is st e))
        (traced_end outside outside (after_sym outside s) [] xs (read_in (read_by n) (rule s) [] xs) (always_outside (is_identifier s)) (rests (after outside (rule s)) [] [] xs (read_in (read_by n) (rule s) [] xs) (λ l n. n) (rule_after s) (in_rule outside (rule_well s))))
    go false e h in_rule =
        let i = identifier_well s st (both_left (is_identifier s) (not_inside st) h) in
        traced_end st (after st (rule s)) (after_sym st s) [] xs (read_in (read_by n) (rule s) [] xs) i.1 (in_rule st (i.0 ∙ both_right (is_identifier s) (not_inside st) h))

traced : (s : Sym) (xs : List Item) → Traced outside (after_sym outside s) [] xs (read s xs)
unfolding read
traced s xs = by_traces (suc (enough xs)) s outside xs refl

-- ---- in words

opened : (b : Body) (xs : List Item) → Opens b xs → run outside xs ≡ inside b
opened b xs o =
    let k = step_token (run outside o.before) (keyword_of b) o.keyword o.is_keyword in
    ap (run outside) o.ends
    ∙ run_append outside o.before (o.keyword ∷ o.name ∷ o.brace ∷ [])
    ∙ ap (λ st. step_of (step_of st o.name.token) o.brace.token) (k ∙ keyword_step (run outside o.before) b)
    ∙ ap (λ st. step_of st o.brace.token) (step_token (at_keyword b) t.Ident o.name o.is_name)
    ∙ step_token (at_name b) t.OpenBrace o.brace o.is_brace
  where
    keyword_step : (st : State) (b : Body) → step st (keyword_of b) ≡ at_keyword b
    keyword_step st variant_body = refl
    keyword_step st record_body = refl
    keyword_step st flags_body = refl
    keyword_step st enum_body = refl

-- What is read up to here ends with the keyword of the body, and so on.
abbrev Ending : Body → State → List Item → Type 0
Ending b st xs = Opens b xs ⊎ ((st ≡ inside b) × (xs ≡ [])) ⊎ ((st ≡ at_name b) × (z : Item) × (xs ≡ z ∷ []) × (is_token t.OpenBrace z.token ≡ true)) ⊎ ((st ≡ at_keyword b) × (y : Item) × (z : Item) × (xs ≡ y ∷ z ∷ []) × (is_token t.Ident y.token ≡ true) × (is_token t.OpenBrace z.token ≡ true))

is_brace : (k : Token) → role k ≡ brace → same_token t.OpenBrace k ≡ true
is_brace t.OpenBrace h = refl
is_brace _ h = absurd cc

is_name : (k : Token) → role k ≡ name → same_token t.Ident k ≡ true
is_name t.Ident h = refl
is_name _ h = absurd cc

is_keyword : (b : Body) (k : Token) → role k ≡ keyword b → same_token (keyword_of b) k ≡ true
is_keyword b t.VariantKeyword h = go b h
  where
    go : (b : Body) → keyword variant_body ≡ keyword b → same_token (keyword_of b) t.VariantKeyword ≡ true
    go variant_body h = refl
    go record_body h = absurd cc
    go flags_body h = absurd cc
    go enum_body h = absurd cc
is_keyword b t.RecordKeyword h = go b h
  where
    go : (b : Body) → keyword record_body ≡ keyword b → same_token (keyword_of b) t.RecordKeyword ≡ true
    go variant_body h = absurd cc
    go record_body h = refl
    go flags_body h = absurd cc
    go enum_body h = absurd cc
is_keyword b t.FlagsKeyword h = go b h
  where
    go : (b : Body) → keyword flags_body ≡ keyword b → same_token (keyword_of b) t.FlagsKeyword ≡ true
    go variant_body h = absurd cc
    go record_body h = absurd cc
    go flags_body h = refl
    go enum_body h = absurd cc
is_keyword b t.EnumKeyword h = go b h
  where
    go : (b : Body) → keyword enum_body ≡ keyword b → same_token (keyword_of b) t.EnumKeyword ≡ true
    go variant_body h = absurd cc
    go record_body h = absurd cc
    go flags_body h = absurd cc
    go enum_body h = refl
is_keyword b _ h = absurd cc

moved_inside : (b : Body) (st : State) (r : Role) → move st r ≡ inside b → (st ≡ at_name b) × (r ≡ brace)
moved_inside b st (keyword c) h = absurd cc
moved_inside b outside name h = absurd cc
moved_inside b outside brace h = absurd cc
moved_inside b outside plain h = absurd cc
moved_inside b (at_keyword c) name h = absurd cc
moved_inside b (at_keyword c) brace h = absurd cc
moved_inside b (at_keyword c) plain h = absurd cc
moved_inside b (at_name c) name h = absurd cc
moved_inside b (at_name c) brace h = (ap at_name (ap body_in h), refl)
  where
    body_in : State → Body
    body_in (inside d) = d
    body_in st = b
moved_inside b (at_name c) plain h = absurd cc
moved_inside b (inside c) name h = absurd cc
moved_inside b (inside c) brace h = absurd cc
moved_inside b (inside c) plain h = absurd cc

moved_name : (b : Body) (st : State) (r : Role) → move st r ≡ at_name b → (st ≡ at_keyword b) × (r ≡ name)
moved_name b st (keyword c) h = absurd cc
moved_name b outside name h = absurd cc
moved_name b outside brace h = absurd cc
moved_name b outside plain h = absurd cc
moved_name b (at_keyword c) name h = (ap at_keyword (ap body_in h), refl)
  where
    body_in : State → Body
    body_in (at_name d) = d
    body_in st = b
moved_name b (at_keyword c) brace h = absurd cc
moved_name b (at_keyword c) plain h = absurd cc
moved_name b (at_name c) name h = absurd cc
moved_name b (at_name c) brace h = absurd cc
moved_name b (at_name c) plain h = absurd cc
moved_name b (inside c) name h = absurd cc
moved_name b (inside c) brace h = absurd cc
moved_name b (inside c) plain h = absurd cc

moved_keyword : (b : Body) (st : State) (r : Role) → move st r ≡ at_keyword b → r ≡ keyword b
moved_keyword b st (keyword c) h = ap keyword (ap body_in h)
  where
    body_in : State → Body
    body_in (at_keyword d) = d
    body_in st = b
moved_keyword b outside name h = absurd cc
moved_keyword b outside brace h = absurd cc
moved_keyword b outside plain h = absurd cc
moved_keyword b (at_keyword c) name h = absurd cc
moved_keyword b (at_keyword c) brace h = absurd cc
moved_keyword b (at_keyword c) plain h = absurd cc
moved_keyword b (at_name c) name h = absurd cc
moved_keyword b (at_name c) brace h = absurd cc
moved_keyword b (at_name c) plain h = absurd cc
moved_keyword b (inside c) name h = absurd cc
moved_keyword b (inside c) brace h = absurd cc
moved_keyword b (inside c) plain h = absurd cc

-- one more item before
one_more : (b : Body) (st : State) (x : Item) (ys : List Item) → Ending b (step_of st x.token) ys → Ending b st (x ∷ ys)
one_more b st x ys (inl o) = inl (record { before = x ∷ o.before; keyword = o.keyword; name = o.name; brace = o.brace; ends = ap (λ (zs : List Item). x ∷ zs) o.ends; is_keyword = o.is_keyword; is_name = o.is_name; is_brace = o.is_brace })
one_more b st x ys (inr (inl h)) = go x.token refl h.0
  where
    go : (r : Result Token Error) → x.token ≡ r → step_of st r ≡ inside b → Ending b st (x ∷ ys)
    go (Err f) e m = absurd cc
    go (Ok k) e m =
        let p = moved_inside b st (role k) m in
        inr (inr (inl (p.0, x, ap (λ (zs : List Item). x ∷ zs) h.1, ap (is_token t.OpenBrace) e ∙ is_brace k p.1)))
one_more b st x ys (inr (inr (inl h))) = go x.token refl h.0
  where
    go : (r : Result Token Error) → x.token ≡ r → step_of st r ≡ at_name b → Ending b st (x ∷ ys)
    go (Err f) e m = absurd cc
    go (Ok k) e m =
        let p = moved_name b st (role k) m in
        inr (inr (inr (p.0, x, h.1, ap (λ (zs : List Item). x ∷ zs) h.2, ap (is_token t.Ident) e ∙ is_name k p.1, h.3)))
one_more b st x ys (inr (inr (inr h))) = go x.token refl h.0
  where
    go : (r : Result Token Error) → x.token ≡ r → step_of st r ≡ at_keyword b → Ending b st (x ∷ ys)
    go (Err f) e m = absurd cc
    go (Ok k) e m =
        let p = moved_keyword b st (role k) m in
        inl (record { before = []; keyword = x; name = h.1; brace = h.2; ends = ap (λ (zs : List Item). x ∷ zs) h.3; is_keyword = ap (is_token (keyword_of b)) e ∙ is_keyword b k p; is_name = h.4; is_brace = h.5 })

ending : (b : Body) (st : State) (xs : List Item) → run st xs ≡ inside b → Ending b st xs
ending b st [] h = inr (inl (h, refl))
ending b st (x ∷ xs) h = one_more b st x xs (ending b (step_of st x.token) xs h)

opens : (b : Body) (xs : List Item) → run outside xs ≡ inside b → Opens b xs
opens b xs h = go (ending b outside xs h)
  where
    go : Ending b outside xs → Opens b xs
    go (inl o) = o
    go (inr (inl h)) = let e = h.0 in absurd cc
    go (inr (inr (inl h))) = let e = h.0 in absurd cc
    go (inr (inr (inr h))) = let e = h.0 in absurd cc

-- AN EMPTY BODY is rejected exactly where it was just opened and the next item closes it
pub empty_exactly : (s : Sym) (xs front : List Item) (stop : Stop) → read s xs ≡ Err stop → xs ≡ front ++ stop.left → (b : Body) → (stop.why ≡ empty_body b → Opens b front × (at t.CloseBrace stop.left ≡ true)) × (Opens b front → at t.CloseBrace stop.left ≡ true → stop.why ≡ empty_body b)
empty_exactly s xs front stop h e b =
    let d = subst (λ (m : Result (TreeOf s × List Item) Stop). Traced outside (after_sym outside s) [] xs m) h (traced s xs) in
    let same : d.0 ≡ front = append_cancel_right d.0 front stop.left (back d.1 ∙ e) in
    let marks : Marks (run outside front) stop = subst (λ (us : List Item). Marks (run outside us) stop) same d.2 in
    ((λ w. let m = marks.0 b w in (opens b front m.0, m.1)), (λ o a. marks.1 b (opened b front o) a))

-- A closing brace that cannot occur there would close a body that was just opened.
pub closes_body : (s : Sym) (xs front : List Item) (stop : Stop) → read s xs ≡ Err stop → xs ≡ front ++ stop.left → (k : Token) → named closing k stop.expected ≡ true → (same_token t.CloseBrace k ≡ true) × (b : Body) × Opens b front
closes_body s xs front stop h e k n =
    let d = subst (λ (m : Result (TreeOf s × List Item) Stop). Traced outside (after_sym outside s) [] xs m) h (traced s xs) in
    let same : d.0 ≡ front = append_cancel_right d.0 front stop.left (back d.1 ∙ e) in
    go (subst (λ (us : List Item). ((named closing k [] ≡ true) × (us ≡ [])) ⊎ Closing (run outside us) k) same (d.3 k n))
  where
    go : ((named closing k [] ≡ true) × (front ≡ [])) ⊎ Closing (run outside front) k → (same_token t.CloseBrace k ≡ true) × (b : Body) × Opens b front
    go (inl n) = let a = n.0 in absurd cc
    go (inr c) = (c.2, c.0, opens c.0 front c.1)
