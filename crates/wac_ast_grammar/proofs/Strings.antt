-- A rejection is reported at the item before exactly where this is a string that an argument begins with.
use Rattle.std.proofs.Common.{◌≡◌, ℕ, zero, suc, List, [], ◌∷◌, ◌++◌, map, Result, Ok, Err, Bool, true, false, cond, refl, sym as back, ap, subst, ◌∙◌, ◌⊎◌, inl, inr, append_assoc}
use Rattle.wac_ast_grammar.proofs.Common.{append_cancel_right, Token, Error, Item}
use Rattle.wac_lexer.specs.declared.token.Token.TheVariants as t
use Rattle.wac_ast_grammar.specs.Tokens.{is_token, valid, at}
use Rattle.wac_ast_grammar.specs.Grammar.{Sym, argument, arguments, rule, build, TreeOf, Parts, Grammar, token, sym, then, either, nothing, to_end, docs, not_empty, more, or_told, docs_of, list_items, more_items}
use Rattle.wac_ast_grammar.specs.Reading.{Tried, can, closes, follows, Stop, Why, other, version, empty_body, told, refuse, mapped, pair_with, two, read, read_by, read_in, read_token, read_sym, led, empty, begins, first, at_one_of, may_leave, enough}
use Rattle.wac_ast_grammar.specs.Arguments.{EndsWithArgument, IsAlone, EndsArgued}
use Rattle.wac_ast_grammar.proofs.Fixed.{Reader, both, both_left, both_right}
use Rattle.wac_ast_grammar.proofs.Tables.{negated, same_token, among}
use Rattle.wac_ast_grammar.proofs.Completed.{same_is}

-- ---- what the last items are

pub data State : Type 0 where
  plain : State
  -- an opening brace or a comma
  opened : State
  -- a string after one
  argued : State

pub data Role : Type 0 where
  opening : Role
  quoted : Role
  any : Role

abbrev pub role : Token → Role
role t.OpenBrace = opening
role t.Comma = opening
role t.String = quoted
role k = any

abbrev pub move : State → Role → State
move st opening = opened
move opened quoted = argued
move st r = plain

abbrev pub step : State → Token → State
step st k = move st (role k)

abbrev pub step_of : State → Result Token Error → State
step_of st (Ok k) = step st k
step_of st (Err e) = plain

abbrev pub run : State → List Item → State
run st [] = st
run st (x ∷ xs) = run (step_of st x.token) xs

run_append : (st : State) (xs ys : List Item) → run st (xs ++ ys) ≡ run (run st xs) ys
run_append st [] ys = refl
run_append st (x ∷ xs) ys = run_append (step_of st x.token) xs ys

is_ok_token : (k : Token) (r : Result Token Error) → is_token k r ≡ true → r ≡ Ok k
is_ok_token k (Ok a) h = ap Ok (back (same_is k a h))
is_ok_token k (Err e) h = absurd cc

step_token : (st : State) (k : Token) (x : Item) → is_token k x.token ≡ true → step_of st x.token ≡ step st k
step_token st k x h = ap (step_of st) (is_ok_token k x.token h)

-- ---- what a grammar does with it

abbrev pub is_plain : State → Bool
is_plain plain = true
is_plain st = false

abbrev pub not_argued : State → Bool
not_argued argued = false
not_argued st = true

abbrev pub is_opened : State → Bool
is_opened opened = true
is_opened st = false

-- the symbols that are read after an opening brace or a comma alone
abbrev pub of_arguments : Sym → Bool
of_arguments argument = true
of_arguments (list_items arguments) = true
of_arguments s = false

-- where the symbol may begin
abbrev pub may_begin : State → Sym → Bool
may_begin plain s = negated (of_arguments s)
may_begin opened s = cond (of_arguments s) true (both (negated (empty s)) (both (negated (among t.String (begins s))) (negated (among t.AsyncKeyword (begins s)))))
may_begin argued s = false

abbrev pub after : State → Grammar → State
after st (token k) = step st k
after st (then g h) = after (after st g) h
after st (docs g) = after st g
after st (not_empty b k g) = after st g
after st g = plain

-- The grammar keeps strings after an opening brace or a comma for arguments.
abbrev pub well : State → Grammar → Bool
well st (token k) = not_argued st
well st (sym s) = may_begin st s
well st (then g h) = both (well st g) (well (after st g) h)
well st (either loud g h) = both (not_argued st) (both (both (well st g) (is_plain (after st g))) (both (well st h) (is_plain (after st h))))
well st (nothing b) = is_plain st
well st (to_end g) = both (is_plain st) (both (well st g) (is_plain (after st g)))
well st (docs g) = well st g
well st (not_empty b k g) = both (not_argued st) (well st g)
well st (more k s g) = both (not_argued st) (both (well st g) (is_plain (after st g)))
well st (or_told g k (then (token c) h)) = both (is_opened st) (both (both (well st g) (is_plain (after st g))) (both (both (same_token t.String k) (same_token t.Colon c)) (both (well plain h) (is_plain (after plain h)))))
well st (or_told g k h) = false

abbrev pub well_from : State → Sym → Bool
well_from st s = cond (may_begin st s) (both (well st (rule s)) (is_plain (after st (rule s)))) true

rule_plain : (s : Sym) → well_from plain s ≡ true
rule_plain (list_items arguments) = refl
rule_plain (more_items arguments) = refl
rule_plain _ = refl

rule_opened : (s : Sym) → well_from opened s ≡ true
rule_opened (list_items arguments) = refl
rule_opened (more_items arguments) = refl
rule_opened _ = refl

if_true : (b c : Bool) → cond b c true ≡ true → b ≡ true → c ≡ true
if_true true c h e = h
if_true false c h e = absurd cc

rule_well : (st : State) (s : Sym) → may_begin st s ≡ true → both (well st (rule s)) (is_plain (after st (rule s))) ≡ true
rule_well plain s h = if_true (may_begin plain s) (both (well plain (rule s)) (is_plain (after plain (rule s)))) (rule_plain s) h
rule_well opened s h = if_true (may_begin opened s) (both (well opened (rule s)) (is_plain (after opened (rule s)))) (rule_opened s) h
rule_well argued s h = absurd cc

plain_is : (st : State) → is_plain st ≡ true → st ≡ plain
plain_is plain h = refl
plain_is opened h = absurd cc
plain_is argued h = absurd cc

opened_is : (st : State) → is_opened st ≡ true → st ≡ opened
opened_is opened h = refl
opened_is plain h = absurd cc
opened_is argued h = absurd cc

plain_not : (st : State) → is_plain st ≡ true → not_argued st ≡ true
plain_not plain h = refl
plain_not opened h = absurd cc
plain_not argued h = absurd cc

begin_not : (st : State) (s : Sym) → may_begin st s ≡ true → not_argued st ≡ true
begin_not plain s h = refl
begin_not opened s h = refl
begin_not argued s h = absurd cc

-- ---- what reading does with it

abbrev pub is_told : Why → Bool
is_told (told x) = true
is_told w = false

abbrev pub is_argued : State → Bool
is_argued argued = true
is_argued st = false

not_is : (st : State) → not_argued st ≡ true → is_argued st ≡ false
not_is plain h = refl
not_is opened h = refl
not_is argued h = absurd cc

-- After the items that were read: it is reported at the last of them exactly where this is the string of an argument.
abbrev pub Traced : {A : Type 0} → State → State → List Item → Result (A × List Item) Stop → Type 0
Traced st end xs (Ok x) = (front : List Item) × (xs ≡ front ++ x.1) × (run st front ≡ end)
Traced st end xs (Err s) = (front : List Item) × (xs ≡ front ++ s.left) × (is_told s.why ≡ is_argued (run st front))

traced_map : {A B : Type 0} (st end : State) (xs : List Item) (m : Result (A × List Item) Stop) (f : A → B) → Traced st end xs m → Traced st end xs (mapped f m)
traced_map st end xs (Ok x) f h = h
traced_map st end xs (Err s) f h = h

traced_cond : {A : Type 0} (st end : State) (b : Bool) (xs : List Item) (m n : Result (A × List Item) Stop) → Traced st end xs m → Traced st end xs n → Traced st end xs (cond b m n)
traced_cond st end true xs m n h k = h
traced_cond st end false xs m n h k = k

traced_end : {A : Type 0} (st mid end : State) (xs : List Item) (m : Result (A × List Item) Stop) → mid ≡ end → Traced st mid xs m → Traced st end xs m
traced_end st mid end xs m e h = subst (λ (u : State). Traced st u xs m) e h

-- after items that were read
traced_after : {A B : Type 0} (st mid end : State) (xs front rest : List Item) (m : Result (A × List Item) Stop) (f : A → B) → xs ≡ front ++ rest → run st front ≡ mid → Traced mid end rest m → Traced st end xs (mapped f m)
traced_after st mid end xs front rest (Ok y) f e r d = (front ++ d.0, e ∙ ap (λ (ys : List Item). front ++ ys) d.1 ∙ back (append_assoc front d.0 y.1), run_append st front d.0 ∙ ap (λ (u : State). run u d.0) r ∙ d.2)
traced_after st mid end xs front rest (Err s) f e r d = (front ++ d.0, e ∙ ap (λ (ys : List Item). front ++ ys) d.1 ∙ back (append_assoc front d.0 s.left), d.2 ∙ ap is_argued (back (run_append st front d.0 ∙ ap (λ (u : State). run u d.0) r)))

traced_two : {A B : Type 0} (st mid end : State) (xs : List Item) (m : Result (A × List Item) Stop) (f : A → List Item → Result (B × List Item) Stop) → Traced st mid xs m → ((a : A) (ys : List Item) → Traced mid end ys (f a ys)) → Traced st end xs (two m f)
traced_two st mid end xs (Err s) f h k = h
traced_two st mid end xs (Ok x) f h k = traced_after st mid end xs h.0 x.1 (f x.0 x.1) (λ b. (x.0, b)) h.1 h.2 (k x.0 x.1)

-- any other rejection, where the last item is no string of an argument
calm : (A : Type 0) (st end : State) (xs : List Item) (ts : List Tried) (w : Why) → not_argued st ≡ true → is_told w ≡ false → Traced {A = A} st end xs (Err (record { left = xs; expected = ts; why = w }))
calm A st end xs ts w h e = ([], refl, e ∙ back (not_is st h))

token_traced : (st : State) (tried : List Tried) (k : Token) (xs : List Item) → not_argued st ≡ true → Traced st (step st k) xs (read_token tried k xs)
token_traced st tried k [] h = calm Item st (step st k) [] (tried ++ (can k ∷ [])) other h refl
token_traced st tried k (x ∷ xs) h = go (is_token k x.token) refl
  where
    go : (b : Bool) → is_token k x.token ≡ b → Traced {A = Item} st (step st k) (x ∷ xs) (cond b (cond (valid k x.text) (Ok (x, xs)) (Err (record { left = x ∷ xs; expected = can k ∷ []; why = version }))) (refuse (x ∷ xs) (tried ++ (can k ∷ []))))
    go true e = traced_cond {A = Item} st (step st k) (valid k x.text) (x ∷ xs) _ _ (x ∷ [], refl, step_token st k x e) (calm Item st (step st k) (x ∷ xs) (can k ∷ []) version h refl)
    go false e = calm Item st (step st k) (x ∷ xs) (tried ++ (can k ∷ [])) other h refl

sym_traced : {A : Type 0} (st end : State) (f : List Item → Result (A × List Item) Stop) (ks : List Token) (tried : List Tried) (xs : List Item) → not_argued st ≡ true → Traced st end xs (f xs) → Traced st end xs (read_sym f ks tried xs)
sym_traced st end f ks [] xs n h = h
sym_traced {A = A} st end f ks (t ∷ ts) xs n h = traced_cond st end (at_one_of ks xs) xs (f xs) (refuse xs ((t ∷ ts) ++ map can ks)) h (calm A st end xs ((t ∷ ts) ++ map can ks) other n refl)

-- what ends as it should
rests : {A : Type 0} (st end : State) (xs : List Item) (m : Result (A × List Item) Stop) → is_plain end ≡ true → Traced st end xs m → Traced st plain xs m
rests st end xs m o h = traced_end st end plain xs m (plain_is end o) h

-- what follows the string of an argument
colon_valid : (c : Token) (text : List ℕ) → same_token t.Colon c ≡ true → valid c text ≡ true
colon_valid c text h = subst (λ (k : Token). valid k text ≡ true) (same_is t.Colon c h) refl

after_string : {B : Type 0} (c : Token) (ts : List Tried) (x : Item) (ys : List Item) (f : Item → List Item → Result (B × List Item) Stop) → same_token t.Colon c ≡ true → ((y : Item) (zs : List Item) → Traced plain plain zs (f y zs)) → Traced argued plain ys (led (c ∷ []) ts (λ zs. two (read_token [] c zs) f) x ys)
after_string c ts x [] f e h = ([], refl, refl)
after_string {B = B} c ts x (y ∷ ys) f e h = go (is_token c y.token) refl
  where
    after_token : is_token c y.token ≡ true → Traced argued plain (y ∷ ys) (pair_with y (f y ys))
    after_token i = traced_after argued plain plain (y ∷ ys) (y ∷ []) ys (f y ys) (λ b. (y, b)) refl (step_token argued c y i ∙ back (ap (step argued) (same_is t.Colon c e))) (h y ys)

    go : (b : Bool) → is_token c y.token ≡ b → Traced {A = Item × B} argued plain (y ∷ ys) (cond (cond b true false) (two (cond b (cond (valid c y.text) (Ok (y, ys)) (Err (record { left = y ∷ ys; expected = can c ∷ []; why = version }))) (refuse (y ∷ ys) (can c ∷ []))) f) (Err (record { left = y ∷ ys; expected = ts; why = told x })))
    go true i = rw (colon_valid c y.text e) (after_token i)
    go false i = ([], refl, refl)

module _ (rec : Reader) (traces : (s : Sym) (st : State) (xs : List Item) → may_begin st s ≡ true → Traced st plain xs (rec s xs)) where
  pub traced_in : (g : Grammar) (st : State) (tried : List Tried) (xs : List Item) → well st g ≡ true → Traced st (after st g) xs (read_in rec g tried xs)
  traced_in (token k) st tried xs ok = token_traced st tried k xs ok
  traced_in (sym s) st tried xs ok = sym_traced st plain (rec s) (begins s) tried xs (begin_not st s ok) (traces s st xs ok)
  traced_in (then g h) st tried xs ok =
      traced_two st (after st g) (after (after st g) h) xs (read_in rec g tried xs) (λ a. read_in rec h [])
      (traced_in g st tried xs (both_left (well st g) (well (after st g) h) ok)) (λ a ys. traced_in h (after st g) [] ys (both_right (well st g) (well (after st g) h) ok))
  traced_in (either loud g h) st tried xs ok =
      let oks = both_right (not_argued st) (both (both (well st g) (is_plain (after st g))) (both (well st h) (is_plain (after st h)))) ok in
      let ok_g = both_left (both (well st g) (is_plain (after st g))) (both (well st h) (is_plain (after st h))) oks in
      let ok_h = both_right (both (well st g) (is_plain (after st g))) (both (well st h) (is_plain (after st h))) oks in
      traced_cond {A = Parts g ⊎ Parts h} st plain (at_one_of (first g) xs) xs _ _
      (traced_map st plain xs (read_in rec g [] xs) inl (rests st (after st g) xs (read_in rec g [] xs) (both_right (well st g) (is_plain (after st g)) ok_g) (traced_in g st [] xs (both_left (well st g) (is_plain (after st g)) ok_g))))
      (traced_map st plain xs (read_in rec h (tried ++ cond loud (map can (first g)) []) xs) inr (rests st (after st h) xs (read_in rec h (tried ++ cond loud (map can (first g)) []) xs) (both_right (well st h) (is_plain (after st h)) ok_h) (traced_in h st (tried ++ cond loud (map can (first g)) []) xs (both_left (well st h) (is_plain (after st h)) ok_h))))
  traced_in (nothing b) st tried xs ok = traced_cond {A = Unit {0}} st plain (may_leave b xs) xs _ _ ([], refl, plain_is st ok) (calm (Unit {0}) st plain xs tried other (plain_not st ok) refl)
  traced_in (to_end g) st tried xs ok =
      let ok_g = both_right (is_plain st) (both (well st g) (is_plain (after st g))) ok in
      go xs (plain_is st (both_left (is_plain st) (both (well st g) (is_plain (after st g))) ok)) (rests st (after st g) xs (read_in rec g [] xs) (both_right (well st g) (is_plain (after st g)) ok_g) (traced_in g st [] xs (both_left (well st g) (is_plain (after st g)) ok_g)))
    where
      go : (xs : List Item) → st ≡ plain → Traced st plain xs (read_in rec g [] xs) → Traced st plain xs (read_in rec (to_end g) tried xs)
      go [] e d = ([], refl, e)
      go (x ∷ xs) e d = traced_map st plain (x ∷ xs) (read_in rec g [] (x ∷ xs)) inr d
  traced_in (docs g) st tried xs ok = traced_map st (after st g) xs (read_in rec g tried xs) (λ b. (docs_of xs, b)) (traced_in g st tried xs ok)
  traced_in (not_empty b k g) st tried xs ok = traced_cond {A = Parts g} st (after st g) (at k xs) xs _ _ (calm (Parts g) st (after st g) xs [] (empty_body b) (both_left (not_argued st) (well st g) ok) refl) (traced_in g st (tried ++ (closes k ∷ [])) xs (both_right (not_argued st) (well st g) ok))
  traced_in (more k s g) st tried xs ok =
      let ok_g = both_right (not_argued st) (both (well st g) (is_plain (after st g))) ok in
      go xs (both_left (not_argued st) (both (well st g) (is_plain (after st g))) ok) (rests st (after st g) xs (read_in rec g tried xs) (both_right (well st g) (is_plain (after st g)) ok_g) (traced_in g st tried xs (both_left (well st g) (is_plain (after st g)) ok_g)))
    where
      go : (xs : List Item) → not_argued st ≡ true → Traced st plain xs (read_in rec g tried xs) → Traced st plain xs (read_in rec (more k s g) tried xs)
      go [] n d = calm (Parts g) st plain [] (can k ∷ map follows (begins s)) other n refl
      go (x ∷ xs) n d = d
  traced_in (or_told g k (then (token c) h)) st tried xs ok =
      let oks = both_right (is_opened st) (both (both (well st g) (is_plain (after st g))) (both (both (same_token t.String k) (same_token t.Colon c)) (both (well plain h) (is_plain (after plain h))))) ok in
      let ok_g = both_left (both (well st g) (is_plain (after st g))) (both (both (same_token t.String k) (same_token t.Colon c)) (both (well plain h) (is_plain (after plain h)))) oks in
      let ok_r = both_right (both (well st g) (is_plain (after st g))) (both (both (same_token t.String k) (same_token t.Colon c)) (both (well plain h) (is_plain (after plain h)))) oks in
      let ok_k = both_left (both (same_token t.String k) (same_token t.Colon c)) (both (well plain h) (is_plain (after plain h))) ok_r in
      let ok_h = both_right (both (same_token t.String k) (same_token t.Colon c)) (both (well plain h) (is_plain (after plain h))) ok_r in
      let o : st ≡ opened = opened_is st (both_left (is_opened st) (both (both (well st g) (is_plain (after st g))) (both (both (same_token t.String k) (same_token t.Colon c)) (both (well plain h) (is_plain (after plain h))))) ok) in
      traced_cond {A = Parts g ⊎ (Item × (Item × Parts h))} st plain (at_one_of (first g) xs) xs _ _
      (traced_map st plain xs (read_in rec g [] xs) inl (rests st (after st g) xs (read_in rec g [] xs) (both_right (well st g) (is_plain (after st g)) ok_g) (traced_in g st [] xs (both_left (well st g) (is_plain (after st g)) ok_g))))
      (traced_map st plain xs _ inr
      (traced_two st argued plain xs (read_token (tried ++ map can (first g)) k xs) (led (c ∷ []) (map can (first g)) (read_in rec (then (token c) h) []))
      (traced_end st (step st k) argued xs (read_token (tried ++ map can (first g)) k xs) (ap (λ (u : State). step u k) o ∙ back (ap (step opened) (same_is t.String k (both_left (same_token t.String k) (same_token t.Colon c) ok_k)))) (token_traced st (tried ++ map can (first g)) k xs (ap not_argued o)))
      (λ x ys. after_string c (map can (first g)) x ys (λ a. read_in rec h []) (both_right (same_token t.String k) (same_token t.Colon c) ok_k)
      (λ y zs. rests plain (after plain h) zs (read_in rec h [] zs) (both_right (well plain h) (is_plain (after plain h)) ok_h) (traced_in h plain [] zs (both_left (well plain h) (is_plain (after plain h)) ok_h))))))
  traced_in (or_told g k h) st tried xs ok = absurd cc

by_traces : (n : ℕ) (s : Sym) (st : State) (xs : List Item) → may_begin st s ≡ true → Traced st plain xs (read_by n s xs)
by_traces zero s st xs h = calm (TreeOf s) st plain xs [] other (begin_not st s h) refl
by_traces (suc n) s st xs h =
    let ok = rule_well st s h in
    traced_map st plain xs (read_in (read_by n) (rule s) [] xs) (build s)
    (rests st (after st (rule s)) xs (read_in (read_by n) (rule s) [] xs) (both_right (well st (rule s)) (is_plain (after st (rule s))) ok)
    (traced_in (read_by n) (by_traces n) (rule s) st [] xs (both_left (well st (rule s)) (is_plain (after st (rule s))) ok)))

-- where a symbol may begin: an argument after an opening brace or a comma
abbrev begun : Sym → State
begun argument = opened
begun (list_items arguments) = opened
begun _ = plain

begun_well : (s : Sym) → may_begin (begun s) s ≡ true
begun_well (list_items arguments) = refl
begun_well (more_items arguments) = refl
begun_well _ = refl

traced : (s : Sym) (xs : List Item) → Traced (begun s) plain xs (read s xs)
unfolding read
traced s xs = by_traces (suc (enough xs)) s (begun s) xs (begun_well s)

-- ---- in words

is_quoted : (k : Token) → role k ≡ quoted → same_token t.String k ≡ true
is_quoted t.String h = refl
is_quoted _ h = absurd cc

is_opening : (k : Token) → role k ≡ opening → (same_token t.OpenBrace k ≡ true) ⊎ (same_token t.Comma k ≡ true)
is_opening t.OpenBrace h = inl refl
is_opening t.Comma h = inr refl
is_opening _ h = absurd cc

moved_argued : (st : State) (r : Role) → move st r ≡ argued → (st ≡ opened) × (r ≡ quoted)
moved_argued st opening h = absurd cc
moved_argued plain quoted h = absurd cc
moved_argued opened quoted h = (refl, refl)
moved_argued argued quoted h = absurd cc
moved_argued plain any h = absurd cc
moved_argued opened any h = absurd cc
moved_argued argued any h = absurd cc

moved_opened : (st : State) (r : Role) → move st r ≡ opened → r ≡ opening
moved_opened st opening h = refl
moved_opened plain quoted h = absurd cc
moved_opened opened quoted h = absurd cc
moved_opened argued quoted h = absurd cc
moved_opened plain any h = absurd cc
moved_opened opened any h = absurd cc
moved_opened argued any h = absurd cc

opened_by : (x : Item) → (is_token t.OpenBrace x.token ≡ true) ⊎ (is_token t.Comma x.token ≡ true) → (st : State) → step_of st x.token ≡ opened
opened_by x (inl h) st = step_token st t.OpenBrace x h
opened_by x (inr h) st = step_token st t.Comma x h

abbrev Ending : State → List Item → Type 0
Ending st xs = EndsWithArgument xs ⊎ ((st ≡ argued) × (xs ≡ [])) ⊎ ((st ≡ opened) × (z : Item) × (xs ≡ z ∷ []) × (is_token t.String z.token ≡ true))

-- one more item before
one_more : (st : State) (x : Item) (ys : List Item) → Ending (step_of st x.token) ys → Ending st (x ∷ ys)
one_more st x ys (inl o) = inl (record { before = x ∷ o.before; opening = o.opening; string = o.string; ends = ap (λ (zs : List Item). x ∷ zs) o.ends; is_opening = o.is_opening; is_string = o.is_string })
one_more st x ys (inr (inl h)) = go x.token refl h.0
  where
    go : (r : Result Token Error) → x.token ≡ r → step_of st r ≡ argued → Ending st (x ∷ ys)
    go (Err f) e m = absurd cc
    go (Ok k) e m = let p = moved_argued st (role k) m in inr (inr (p.0, x, ap (λ (zs : List Item). x ∷ zs) h.1, ap (is_token t.String) e ∙ is_quoted k p.1))
one_more st x ys (inr (inr h)) = go x.token refl h.0
  where
    is_it : (k : Token) → x.token ≡ Ok k → (same_token t.OpenBrace k ≡ true) ⊎ (same_token t.Comma k ≡ true) → (is_token t.OpenBrace x.token ≡ true) ⊎ (is_token t.Comma x.token ≡ true)
    is_it k e (inl s) = inl (ap (is_token t.OpenBrace) e ∙ s)
    is_it k e (inr s) = inr (ap (is_token t.Comma) e ∙ s)

    go : (r : Result Token Error) → x.token ≡ r → step_of st r ≡ opened → Ending st (x ∷ ys)
    go (Err f) e m = absurd cc
    go (Ok k) e m = inl (record { before = []; opening = x; string = h.1; ends = ap (λ (zs : List Item). x ∷ zs) h.2; is_opening = is_it k e (is_opening k (moved_opened st (role k) m)); is_string = h.3 })

ending : (st : State) (xs : List Item) → run st xs ≡ argued → Ending st xs
ending st [] h = inr (inl (h, refl))
ending st (x ∷ xs) h = one_more st x xs (ending (step_of st x.token) xs h)

ends_so : (xs : List Item) → run plain xs ≡ argued → EndsWithArgument xs
ends_so xs h = go (ending plain xs h)
  where
    go : Ending plain xs → EndsWithArgument xs
    go (inl o) = o
    go (inr (inl h)) = let e = h.0 in absurd cc
    go (inr (inr h)) = let e = h.0 in absurd cc

so_ends : (st : State) (xs : List Item) → EndsWithArgument xs → run st xs ≡ argued
so_ends st xs o =
    ap (run st) o.ends
    ∙ run_append st o.before (o.opening ∷ o.string ∷ [])
    ∙ ap (λ st. step_of st o.string.token) (opened_by o.opening o.is_opening (run st o.before))
    ∙ step_token opened t.String o.string o.is_string

-- after an opening brace or a comma the string may be alone
ends_alone : (xs : List Item) → run opened xs ≡ argued → EndsWithArgument xs ⊎ IsAlone t.String xs
ends_alone xs h = go (ending opened xs h)
  where
    go : Ending opened xs → EndsWithArgument xs ⊎ IsAlone t.String xs
    go (inl o) = inl o
    go (inr (inl h)) = let e = h.0 in absurd cc
    go (inr (inr h)) = inr (h.1, h.2, h.3)

alone_ends : (xs : List Item) → EndsWithArgument xs ⊎ IsAlone t.String xs → run opened xs ≡ argued
alone_ends xs (inl o) = so_ends opened xs o
alone_ends xs (inr a) = ap (run opened) a.1 ∙ step_token opened t.String a.0 a.2

ends_exactly : (s : Sym) (xs : List Item) → (run (begun s) xs ≡ argued → EndsArgued s xs) × (EndsArgued s xs → run (begun s) xs ≡ argued)
ends_exactly argument xs = (ends_alone xs, alone_ends xs)
ends_exactly (list_items arguments) xs = (ends_alone xs, alone_ends xs)
ends_exactly _ xs = (ends_so xs, so_ends plain xs)

argued_is : (st : State) → is_argued st ≡ true → st ≡ argued
argued_is argued h = refl
argued_is plain h = absurd cc
argued_is opened h = absurd cc

-- A REJECTION IS REPORTED AT THE ITEM BEFORE exactly where this is a string that an argument begins with
pub told_exactly : (s : Sym) (xs front : List Item) (stop : Stop) → read s xs ≡ Err stop → xs ≡ front ++ stop.left → (is_told stop.why ≡ true → EndsArgued s front) × (EndsArgued s front → is_told stop.why ≡ true)
told_exactly s xs front stop h e =
    let d = subst (λ (m : Result (TreeOf s × List Item) Stop). Traced (begun s) plain xs m) h (traced s xs) in
    let same : d.0 ≡ front = append_cancel_right d.0 front stop.left (back d.1 ∙ e) in
    let marks : is_told stop.why ≡ is_argued (run (begun s) front) = subst (λ (us : List Item). is_told stop.why ≡ is_argued (run (begun s) us)) same d.2 in
    let ends = ends_exactly s front in
    ((λ w. ends.0 (argued_is (run (begun s) front) (back marks ∙ w))), (λ o. marks ∙ ap is_argued (ends.1 o)))
