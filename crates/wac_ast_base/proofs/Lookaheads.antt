-- Where none of the tokens that were tried is next.
use Rattle.wac_ast_base.proofs.Common.{◌≡◌, ℕ, suc, Bool, true, false, ◌||◌, cond, if◌then◌else◌, ◌<◌, ◌≤◌, ◌+◌, drop, ◌^◌, ◌-◌, min, arith, zero, ltb, append_assoc, List, [], ◌∷◌, ◌++◌, map, take, length, Option, Some, None, Result, Ok, Err, inr, refl, ap, subst, ◌∙◌, ltb-true, Span, Item, NextToken, next_token, Reading, left, shown, Token, at, Sym, Stop, Tried, can, follows, begins, at_one_of, refuse}
use Rattle.std.proofs.Common.{get_or, sym}
use Rattle.std.proofs.Math.Seq.{drop-cons}
use Rattle.std.proofs.lemmas.List.{append-nil}
use Rattle.wac_lexer.specs.declared.error.Error.{Error as LexError}
use Rattle.wac_ast_base.specs.declared.error.Error.{Error}
use Rattle.wac_ast_grammar.specs.Grammar as g
use Rattle.wac_ast_base.specs.Error.{Told, told_by, expected}
use Rattle.wac_ast_base.specs.Lookahead.{Looked, looked, is_next, is_one_of, tried, refusal, told_of, peeked, Peeks}
use Rattle.wac_ast_base.specs.Lists.{tells}
use Rattle.wac_ast_base.specs.Answer.{end_of_input, final_span, end_span, told, Fails}

next_is : (k : Token) (xs : List Item) → is_next k (next_token xs) ≡ at k xs
next_is k [] = refl
next_is k (x ∷ xs) = refl

pub one_of : (ks : List Token) (xs : List Item) → is_one_of ks (next_token xs) ≡ at_one_of ks xs
one_of [] xs = refl
one_of (k ∷ ks) xs = rw (next_is k xs, one_of ks xs) (go (at k xs))
  where
    go : (b : Bool) → (b || at_one_of ks xs) ≡ cond b true (at_one_of ks xs)
    go true = refl
    go false = refl

tokens_of : (ks : List Token) → map (λ (t : Tried). t.token) (map can ks) ≡ ks
tokens_of [] = refl
tokens_of (k ∷ ks) = ap (λ (l : List Token). k ∷ l) (tokens_of ks)

length_of : (ks : List Token) → length (map can ks) ≡ length ks
length_of [] = refl
length_of (k ∷ ks) = ap (λ n. suc n) (length_of ks)

same_refusal : (xs : List Item) (s t : Span) (f : Option Token → Span → Told) → (xs ≡ [] → s ≡ t) → refusal (next_token xs) s f ≡ refusal (next_token xs) t f
same_refusal [] s t f h = ap (λ e. f None e) (h refl)
same_refusal (x ∷ xs) s t f h = go x.token
  where
    go : (r : Result Token LexError) → refusal (Some (r, x.span)) s f ≡ refusal (Some (r, x.span)) t f
    go (Ok k) = refl
    go (Err e) = refl

last_of_none : (source : List ℕ) (last : Span) (xs : List Item) → xs ≡ [] → shown source last ≡ shown source (final_span last xs)
last_of_none source last [] h = refl
last_of_none source last (x ∷ xs) h = absurd cc

tells_end : (source : List ℕ) (last : Span) (xs : List Item) (a b : Token) (ks : List Token) → tells source last xs (a ∷ b ∷ ks)
    ≡ refusal (next_token xs) (end_span (record { source = source; final = final_span last xs }) (map can (a ∷ b ∷ ks))) (expected (take 10 (map (λ (t : Tried). t.token) (map can (a ∷ b ∷ ks)))) (length (map can (a ∷ b ∷ ks))))
tells_end source last xs a b ks = rw (tokens_of ks, length_of ks) (same_refusal xs (shown source last) (shown source (final_span last xs)) (expected (take 10 (a ∷ b ∷ ks)) (length (a ∷ b ∷ ks))) (last_of_none source last xs))

-- none of several tokens is next
pub alternatives_fail : {A : Type 0} (e : Error) (l : Reading) (a b : Token) (ks : List Token) (r : Result A Stop) → r ≡ refuse (left l) (map can (a ∷ b ∷ ks)) → told_by e ≡ tells l.source l.last (left l) (a ∷ b ∷ ks) → Fails e (end_of_input l) r
unfolding told end_of_input
alternatives_fail {A = A} e l a b ks r is h = subst (λ (m : Result A Stop). Fails e (end_of_input l) m) (sym is) (inr (ap Some (sym (h ∙ tells_end l.source l.last (left l) a b ks))))

-- ---- a lookahead after these tokens were tried

pub record Looks (l : Reading) (ks : List Token) (look : Looked) : Type 0 where
  pub is : look ≡ tried ks (looked l)
  pub next : look.next ≡ next_token (left l)

pub looks : (l : Reading) (look : Looked) → look ≡ looked l → Looks l [] look
looks l look h = record { is = h; next = ap (λ (a : Looked). a.next) h }

pub tests : (l : Reading) (ks js : List Token) (look new : Looked) (found b : Bool) → Looks l ks look → Peeks js found look new → found ≡ b → at_one_of js (left l) ≡ b
tests l ks js look new found b looks peeks h = sym (one_of js (left l)) ∙ ap (is_one_of js) (sym looks.next) ∙ sym peeks.found ∙ h

tried_more : (ks js : List Token) (l : Looked) → tried (ks ++ js) l ≡ tried js (tried ks l)
tried_more [] js l = refl
tried_more (k ∷ ks) js l = tried_more ks js (tried (k ∷ []) l)

next_stays : (ks : List Token) (l : Looked) → (tried ks l).next ≡ l.next
next_stays [] l = refl
next_stays (k ∷ ks) l = next_stays ks (tried (k ∷ []) l)

-- where none of the tokens is next, all were tried
peeked_none : (ks : List Token) (l : Looked) → is_one_of ks l.next ≡ false → peeked ks l ≡ tried ks l
peeked_none [] l h = refl
peeked_none (k ∷ ks) l h = go (is_next k l.next) h (λ rest. peeked_none ks (tried (k ∷ []) l) (ap (is_one_of ks) (next_stays (k ∷ []) l) ∙ rest))
  where
    go : (b : Bool) → (b || is_one_of ks l.next) ≡ false → (is_one_of ks l.next ≡ false → peeked ks (tried (k ∷ []) l) ≡ tried (k ∷ ks) l) → (if b then l else peeked ks (tried (k ∷ []) l)) ≡ tried (k ∷ ks) l
    go true h r = absurd cc
    go false h r = r h

pub all_tried : (ks : List Token) (found : Bool) (old new : Looked) → Peeks ks found old new → found ≡ false → new ≡ tried ks old
all_tried ks found old new peeks h = peeks.kept ∙ peeked_none ks old (sym peeks.found ∙ h)

pub looks_on : (l : Reading) (ks js : List Token) (look new : Looked) (found : Bool) → Looks l ks look → Peeks js found look new → found ≡ false → Looks l (ks ++ js) new
looks_on l ks js look new found looks peeks h =
    let is : new ≡ tried (ks ++ js) (looked l) = all_tried js found look new peeks h ∙ ap (tried js) looks.is ∙ sym (tried_more ks js (looked l)) in
    record { is = is; next = ap (λ (a : Looked). a.next) is ∙ next_stays (ks ++ js) (looked l) }

pub looks_fail : {A : Type 0} (l : Reading) (a b : Token) (ks : List Token) (look : Looked) (e : Error) (r : Result A Stop) → Looks l (a ∷ b ∷ ks) look → told_by e ≡ told_of look → told_of (tried (a ∷ b ∷ ks) (looked l)) ≡ tells l.source l.last (left l) (a ∷ b ∷ ks)
    → r ≡ refuse (left l) (map can (a ∷ b ∷ ks)) → Fails e (end_of_input l) r
looks_fail l a b ks look e r looks told is stops = alternatives_fail e l a b ks r stops (told ∙ ap told_of looks.is ∙ is)

or_false : (b : Bool) → (b || false) ≡ b
or_false true = refl
or_false false = refl

-- a look for one token
pub peeks_one : (k : Token) (found : Bool) (old new : Looked) → found ≡ is_next k old.next → new ≡ (if found then old else tried (k ∷ []) old) → Peeks (k ∷ []) found old new
peeks_one k found old new f kept = record { found = f ∙ sym (or_false (is_next k old.next)); kept = kept ∙ ap (λ b. if b then old else tried (k ∷ []) old) f }

peeked_more : (ks js : List Token) (l : Looked) → is_one_of ks l.next ≡ false → peeked (ks ++ js) l ≡ peeked js (peeked ks l)
peeked_more [] js l h = refl
peeked_more (k ∷ ks) js l h = go (is_next k l.next) h (λ rest. peeked_more ks js (tried (k ∷ []) l) (ap (is_one_of ks) (next_stays (k ∷ []) l) ∙ rest))
  where
    go : (b : Bool) → (b || is_one_of ks l.next) ≡ false → (is_one_of ks l.next ≡ false → peeked (ks ++ js) (tried (k ∷ []) l) ≡ peeked js (peeked ks (tried (k ∷ []) l))) → (if b then l else peeked (ks ++ js) (tried (k ∷ []) l)) ≡ peeked js (if b then l else peeked ks (tried (k ∷ []) l))
    go true h r = absurd cc
    go false h r = r h

peeked_met : (ks js : List Token) (l : Looked) → is_one_of ks l.next ≡ true → peeked (ks ++ js) l ≡ peeked ks l
peeked_met [] js l h = absurd cc
peeked_met (k ∷ ks) js l h = go (is_next k l.next) h (λ rest. peeked_met ks js (tried (k ∷ []) l) (ap (is_one_of ks) (next_stays (k ∷ []) l) ∙ rest))
  where
    go : (b : Bool) → (b || is_one_of ks l.next) ≡ true → (is_one_of ks l.next ≡ true → peeked (ks ++ js) (tried (k ∷ []) l) ≡ peeked ks (tried (k ∷ []) l)) → (if b then l else peeked (ks ++ js) (tried (k ∷ []) l)) ≡ (if b then l else peeked ks (tried (k ∷ []) l))
    go true h r = refl
    go false h r = r h

one_of_more : (ks js : List Token) (next : NextToken) → is_one_of (ks ++ js) next ≡ (is_one_of ks next || is_one_of js next)
one_of_more [] js next = refl
one_of_more (k ∷ ks) js next = rw (one_of_more ks js next) (go (is_next k next))
  where
    go : (b : Bool) → (b || (is_one_of ks next || is_one_of js next)) ≡ ((b || is_one_of ks next) || is_one_of js next)
    go true = refl
    go false = refl

-- a look for these tokens finds one, and those after it are not tried
pub peeks_met : {ks : List Token} (js : List Token) {found result : Bool} {old mid new : Looked} → Peeks ks found old mid → found ≡ true → new ≡ mid → result ≡ true → Peeks (ks ++ js) result old new
peeks_met {ks = ks} js {old = old} peeks h same is =
    let met : is_one_of ks old.next ≡ true = sym peeks.found ∙ h in
    record { found = is ∙ sym (one_of_more ks js old.next ∙ ap (λ b. b || is_one_of js old.next) met); kept = same ∙ peeks.kept ∙ sym (peeked_met ks js old met) }

-- it finds none, and the others are tried
pub peeks_on : {ks js : List Token} {found other result : Bool} {old mid last new : Looked} → Peeks ks found old mid → found ≡ false → Peeks js other mid last → new ≡ last → result ≡ other → Peeks (ks ++ js) result old new
peeks_on {ks = ks} {js = js} {old = old} {mid = mid} peeks h others same is =
    let none : is_one_of ks old.next ≡ false = sym peeks.found ∙ h in
    let stays : mid.next ≡ old.next = ap (λ (a : Looked). a.next) (peeks.kept ∙ peeked_none ks old none) ∙ next_stays ks old in
    record {
      found = is ∙ others.found ∙ ap (is_one_of js) stays ∙ sym (one_of_more ks js old.next ∙ ap (λ b. b || is_one_of js old.next) none);
      kept = same ∙ others.kept ∙ ap (peeked js) peeks.kept ∙ sym (peeked_more ks js old none);
    }

pub none_found : (l : Reading) (ks js : List Token) (look new : Looked) (found : Bool) → Looks l ks look → Peeks js found look new → at_one_of js (left l) ≡ false → found ≡ false
none_found l ks js look new found looks peeks h = sym (tests l ks js look new found found looks peeks refl) ∙ h

pub one_test : (k : Token) (xs : List Item) (b : Bool) → at k xs ≡ b → at_one_of (k ∷ []) xs ≡ b
one_test k xs true h = rw h refl
one_test k xs false h = rw h refl

positive : (ks : List Token) (l : Looked) → 0 < l.count → 0 < (tried ks l).count
positive [] l h = h
positive (k ∷ ks) l h = positive ks (tried (k ∷ []) l) (let m : 0 < min (l.count + 1) (2 ^ 64 - 1) = omega arith in m)

-- some token was tried
pub counted : (k : Token) (ks : List Token) (l : Reading) → 0 < (tried (k ∷ ks) (looked l)).count
counted k ks l = positive ks (tried (k ∷ []) (looked l)) (let m : 0 < 1 = omega arith in m)

length_names : (ts : List Tried) → length (map (λ (t : Tried). t.token) ts) ≡ length ts
length_names [] = refl
length_names (t ∷ ts) = ap (λ n. suc n) (length_names ts)

-- what is reported where more than one token is named
pub named_fail : {A : Type 0} (e : Error) (l : Reading) (a b : Tried) (ts : List Tried) (r : Result A Stop) → r ≡ refuse (left l) (a ∷ b ∷ ts) → told_by e ≡ tells l.source l.last (left l) (map (λ (t : Tried). t.token) (a ∷ b ∷ ts)) → Fails e (end_of_input l) r
unfolding told end_of_input
named_fail {A = A} e l a b ts r is h =
    let names = map (λ (t : Tried). t.token) (a ∷ b ∷ ts) in
    let same = same_refusal (left l) (shown l.source l.last) (shown l.source (final_span l.last (left l))) (expected (take 10 names) (length names)) (last_of_none l.source l.last (left l)) in
    let counted : refusal (next_token (left l)) (shown l.source (final_span l.last (left l))) (expected (take 10 names) (length names)) ≡ refusal (next_token (left l)) (shown l.source (final_span l.last (left l))) (expected (take 10 names) (length (a ∷ b ∷ ts))) = ap (λ (n : ℕ). refusal (next_token (left l)) (shown l.source (final_span l.last (left l))) (expected (take 10 names) n)) (length_names (a ∷ b ∷ ts)) in
    subst (λ (m : Result A Stop). Fails e (end_of_input l) m) (sym is) (inr (ap Some (sym (h ∙ same ∙ counted))))

-- ---- a symbol's first tokens

take_front : {A : Type 0} (n : ℕ) (xs ys : List A) → take n (take n xs ++ ys) ≡ take n (xs ++ ys)
take_front zero xs ys = refl
take_front (suc n) [] ys = refl
take_front {A = A} (suc n) (x ∷ xs) ys = ap (λ (l : List A). x ∷ l) (take_front n xs ys)

told_tried : (next : NextToken) (s : Span) (front ks : List Token) (n : ℕ) → n + length ks < 2 ^ 64 → told_of (tried ks (record { next = next; span = s; kept = take 10 front; count = n })) ≡ refusal next s (expected (take 10 (front ++ ks)) (n + length ks))
told_tried next s front [] n few =
    let none : n ≡ n + 0 = omega arith in
    ap (λ (l : List Token). refusal next s (expected (take 10 l) n)) (sym (append-nil front)) ∙ ap (λ (m : ℕ). refusal next s (expected (take 10 (front ++ [])) m)) none
told_tried next s front (k ∷ ks) n few =
    let one : min (n + 1) (2 ^ 64 - 1) ≡ n + 1 = omega arith in
    let more : n + 1 + length ks ≡ n + length (k ∷ ks) = omega arith in
    let rest = told_tried next s (front ++ k ∷ []) ks (n + 1) (omega arith) in
    ap (λ (l : List Token). told_of (tried ks (record { next = next; span = s; kept = l; count = min (n + 1) (2 ^ 64 - 1) }))) (take_front 10 front (k ∷ []))
    ∙ ap (λ (m : ℕ). told_of (tried ks (record { next = next; span = s; kept = take 10 (front ++ k ∷ []); count = m }))) one
    ∙ rest ∙ ap (λ (l : List Token). refusal next s (expected (take 10 l) (n + 1 + length ks))) (append_assoc front (k ∷ []) ks) ∙ ap (λ (m : ℕ). refusal next s (expected (take 10 (front ++ k ∷ ks)) m)) more

begins_few : (s : Sym) → ltb (length (begins s)) 100 ≡ true
begins_few (g.list_items g.arguments) = refl
begins_few (g.more_items g.arguments) = refl
begins_few _ = refl

begins_some : (s : Sym) → ltb 0 (length (begins s)) ≡ true
begins_some (g.list_items g.arguments) = refl
begins_some (g.more_items g.arguments) = refl
begins_some _ = refl

-- neither this token nor one of the symbol's first tokens is next
none_fails : {A : Type 0} (e : Error) (l : Reading) (r : Result A Stop) (s : Sym) (k : Token) (ts : List Tried) → r ≡ refuse (left l) (can k ∷ ts) → map (λ (t : Tried). t.token) ts ≡ begins s → told_by e ≡ told_of (tried (k ∷ begins s) (looked l)) → Fails e (end_of_input l) r
none_fails {A = A} e l r s k ts is names tells_it = go ts is names
  where
    tells_all : told_by e ≡ tells l.source l.last (left l) (k ∷ begins s)
    tells_all =
        let few : length (begins s) < 100 = ltb-true (length (begins s)) 100 (begins_few s) in
        let one : 0 + length (k ∷ begins s) ≡ length (k ∷ begins s) = omega arith in
        tells_it ∙ told_tried (next_token (left l)) (shown l.source l.last) [] (k ∷ begins s) 0 (omega arith) ∙ ap (λ (m : ℕ). refusal (next_token (left l)) (shown l.source l.last) (expected (take 10 (k ∷ begins s)) m)) one

    none : [] ≡ begins s → ⊥
    none h = let some : 0 < length (begins s) = ltb-true 0 (length (begins s)) (begins_some s) in let m : 0 ≡ length (begins s) = ap (λ (js : List Token). length js) h in omega arith

    go : (ts : List Tried) → r ≡ refuse (left l) (can k ∷ ts) → map (λ (t : Tried). t.token) ts ≡ begins s → Fails e (end_of_input l) r
    go [] is names = absurd (none names)
    go (b ∷ ts) is names = named_fail e l (can k) b ts r is (tells_all ∙ ap (λ (js : List Token). tells l.source l.last (left l) (k ∷ js)) (sym names))

tokens_that_follow : (ks : List Token) → map (λ (t : Tried). t.token) (map follows ks) ≡ ks
tokens_that_follow [] = refl
tokens_that_follow (k ∷ ks) = ap (λ (l : List Token). k ∷ l) (tokens_that_follow ks)

-- no item of a list
pub no_item_fails : {A : Type 0} (e : Error) (l : Reading) (r : Result A Stop) (s : Sym) (k : Token) → r ≡ refuse (left l) (map can (k ∷ begins s)) → told_by e ≡ told_of (tried (k ∷ begins s) (looked l)) → Fails e (end_of_input l) r
no_item_fails e l r s k is tells_it = none_fails e l r s k (map can (begins s)) is (tokens_of (begins s)) tells_it

-- nothing after an item
pub over_fails : {A : Type 0} (e : Error) (l : Reading) (r : Result A Stop) (s : Sym) (k : Token) → r ≡ refuse (left l) (can k ∷ map follows (begins s)) → told_by e ≡ told_of (tried (k ∷ begins s) (looked l)) → Fails e (end_of_input l) r
over_fails e l r s k is tells_it = none_fails e l r s k (map follows (begins s)) is (tokens_that_follow (begins s)) tells_it

-- ---- tokens that are tried in order

-- the first i of these tokens were tried
pub record TriedSoFar (ks : List Token) (i : ℕ) (old new : Looked) : Type 0 where
  pub next : new.next ≡ old.next
  pub found : is_one_of (drop i ks) old.next ≡ is_one_of ks old.next
  pub all : peeked (drop i ks) new ≡ peeked ks old

drop_at : (ks : List Token) (i : ℕ) (k : Token) → i < length ks → drop i ks ≡ get_or ks i k ∷ drop (i + 1) ks
drop_at ks i k h =
    let e : i + 1 ≡ suc i = omega arith in
    drop-cons ks i k h ∙ ap (λ (n : ℕ). get_or ks i k ∷ drop n ks) (sym e)

drop_past : (ks : List Token) (i : ℕ) → length ks ≤ i → drop i ks ≡ []
drop_past [] zero h = refl
drop_past [] (suc i) h = refl
drop_past (k ∷ ks) zero h = absurd (omega arith)
drop_past (k ∷ ks) (suc i) h = drop_past ks i (omega arith)

or_left : (b c : Bool) → b ≡ false → c ≡ (b || c)
or_left true c h = absurd cc
or_left false c h = refl

or_true : (b c : Bool) → b ≡ true → true ≡ (b || c)
or_true true c h = refl
or_true false c h = absurd cc

kept_false : (found : Bool) (k : Token) (mid new : Looked) → new ≡ (if found then mid else tried (k ∷ []) mid) → found ≡ false → new ≡ tried (k ∷ []) mid
kept_false true k mid new h e = absurd cc
kept_false false k mid new h e = h

pub tries_on : (ks : List Token) (i : ℕ) (k : Token) (old mid new : Looked) (found : Bool) → TriedSoFar ks i old mid → i < length ks → found ≡ is_next (get_or ks i k) mid.next → new ≡ (if found then mid else tried (get_or ks i k ∷ []) mid) → found ≡ false
    → TriedSoFar ks (i + 1) old new
tries_on ks i d old mid new found s h f kept missed =
    let k = get_or ks i d in
    let here = drop_at ks i d h in
    let tried_one = kept_false found k mid new kept missed in
    let not_next : is_next k old.next ≡ false = ap (is_next k) (sym s.next) ∙ sym f ∙ missed in
    record {
      next = ap (λ (a : Looked). a.next) tried_one ∙ next_stays (k ∷ []) mid ∙ s.next;
      found = or_left (is_next k old.next) (is_one_of (drop (i + 1) ks) old.next) not_next ∙ ap (λ (l : List Token). is_one_of l old.next) (sym here) ∙ s.found;
      all = ap (peeked (drop (i + 1) ks)) tried_one ∙ sym (passes (is_next k mid.next) (sym f ∙ missed)) ∙ ap (λ (l : List Token). peeked l mid) (sym here) ∙ s.all;
    }
  where
    passes : (b : Bool) → b ≡ false → (if b then mid else peeked (drop (i + 1) ks) (tried (get_or ks i d ∷ []) mid)) ≡ peeked (drop (i + 1) ks) (tried (get_or ks i d ∷ []) mid)
    passes true e = absurd cc
    passes false e = refl

pub tries_found : (ks : List Token) (i : ℕ) (k : Token) (old mid new : Looked) (found : Bool) → TriedSoFar ks i old mid → i < length ks → found ≡ is_next (get_or ks i k) mid.next → new ≡ (if found then mid else tried (get_or ks i k ∷ []) mid) → found ≡ true → Peeks ks true old new
tries_found ks i d old mid new found s h f kept met =
    let k = get_or ks i d in
    let next : is_next k old.next ≡ true = ap (is_next k) (sym s.next) ∙ sym f ∙ met in
    record {
      found = or_true (is_next k old.next) (is_one_of (drop (i + 1) ks) old.next) next ∙ ap (λ (l : List Token). is_one_of l old.next) (sym (drop_at ks i d h)) ∙ s.found;
      kept = kept ∙ ap (λ b. if b then mid else tried (k ∷ []) mid) met ∙ sym (stays (is_next k mid.next) (sym f ∙ met)) ∙ ap (λ (l : List Token). peeked l mid) (sym (drop_at ks i d h)) ∙ s.all;
    }
  where
    stays : (b : Bool) → b ≡ true → (if b then mid else peeked (drop (i + 1) ks) (tried (get_or ks i d ∷ []) mid)) ≡ mid
    stays true e = refl
    stays false e = absurd cc

pub tries_end : (ks : List Token) (i : ℕ) (old new : Looked) → TriedSoFar ks i old new → length ks ≤ i → Peeks ks false old new
tries_end ks i old new s h =
    let past = drop_past ks i h in
    record {
      found = sym (ap (λ (l : List Token). is_one_of l old.next) past) ∙ s.found;
      kept = sym (ap (λ (l : List Token). peeked l new) past) ∙ s.all;
    }
