-- Tokens that stand at an index.
use Rattle.wac_comments_layout.proofs.Common.{◌≡◌, ℕ, zero, suc, ◌+◌, ◌-◌, ◌<◌, ◌≤◌, Bool, true, false, cond, List, [], ◌∷◌, map, take, get_or, subst, codes, drop, length, min, sym, refl, ap, ◌∙◌, arith, ⊎_elim, ◌&&◌, ◌||◌, nat_eq, nat_le, list_all, starts_with, take-map, bytes_eq, drop_min, get_or-drop, length-map, and_parts, cases_lt, eq-eqb, false≢true, le-leb, leb-true, or_parts, bytes_eq_is}
use denote.Bor.{Bor}
use lib.Pointwise.{pointwise}
use Rattle.std.specs.List.{drop-map}
use Rattle.std.specs.Cmp.Derive.Mapped.{pointwise-map}
use Rattle.std.proofs.lemmas.Option.{unwrap_or-slice_get}
use Rattle.wac_comments_layout.specs.Printing.{Texts, empty_with, goes, goes_far_from_nothing, is_among, is_last_comma, is_near_nothing, may_be_of_with, may_go, now_of, stand_at, token_at, token_before}
use Rattle.wac_comments_layout.specs.Brackets.{is_closing, is_flat}
use Rattle.wac_comments_layout.specs.declared.brackets.Brackets.{Brackets}

-- the test on references is that on texts
pub begin_with : (tokens these : List (Bor (List ℕ))) (at : ℕ)
    → pointwise (λ (x y : Bor (List ℕ)). bytes_eq x.now y.now) these (take (length these) (drop (min at (length tokens)) tokens)) ≡ stand_at (now_of tokens) at (now_of these)
begin_with tokens these at =
    let now = λ (t : Bor (List ℕ)). t.now in
    ap (λ rest. pointwise (λ (x y : Bor (List ℕ)). bytes_eq x.now y.now) these (take (length these) rest)) (drop_min at tokens)
    ∙ sym (pointwise-map now bytes_eq these (take (length these) (drop at tokens)))
    ∙ ap (λ rest. pointwise bytes_eq (map now these) rest)
    (sym (take-map now (length these) (drop at tokens))
    ∙ ap (take (length these)) (sym (drop-map now at tokens))
    ∙ ap (λ n. take n (drop at (map now tokens))) (sym (length-map these now)))

or_right : (b : Bool) → (b || true) ≡ true
or_right true = refl
or_right false = refl

both : (a b : Bool) → a ≡ true → b ≡ true → (a && b) ≡ true
both a b x y = ap (λ c. c && b) x ∙ y

-- what stands at one of the places is among them
pub found : (tokens these : List (List ℕ)) (at count back : ℕ) → back < count → back ≤ at → stand_at tokens (at - back) these ≡ true → is_among tokens at these count ≡ true
found tokens these at zero back lt le here = absurd (omega (arith, lt))
found tokens these at (suc n) back lt le here =
    ⊎_elim
    (λ (h : back < n). ap (λ b. b || (nat_le n at && stand_at tokens (at - n) these)) (found tokens these at n back h le here))
    (λ (h : n ≤ back).
    let same : back ≡ n = omega (arith, h, lt) in
    ap (λ k. is_among tokens at these n || (nat_le k at && stand_at tokens (at - k) these)) (sym same)
    ∙ ap (λ b. is_among tokens at these n || b) (both (nat_le back at) (stand_at tokens (at - back) these) (le-leb back at le) here)
    ∙ or_right (is_among tokens at these n))
    (cases_lt back n)

-- the token at an index after the place where these stand is one of them
same_passes : (P : List ℕ → Bool) (t x : List ℕ) → bytes_eq t x ≡ true → P t ≡ true → P x ≡ true
same_passes P t x e p = subst (λ s. P s ≡ true) (bytes_eq_is t x e) p

stands_pass : (P : List ℕ → Bool) (rest these : Texts) (back : ℕ) → starts_with bytes_eq rest these ≡ true → back < length these → P (get_or these back []) ≡ true → P (get_or rest back []) ≡ true
stands_pass P rest [] back s lt pass = absurd (omega (arith, lt))
stands_pass P [] (t ∷ these) back s lt pass = absurd (false≢true s)
stands_pass P (x ∷ rest) (t ∷ these) zero s lt pass = same_passes P t x (and_parts (bytes_eq t x) (starts_with bytes_eq rest these) s).0 pass
stands_pass P (x ∷ rest) (t ∷ these) (suc back) s lt pass =
    stands_pass P rest these back (and_parts (bytes_eq t x) (starts_with bytes_eq rest these) s).1 (omega (arith, lt)) pass

-- where the token at an index is not as long as the first of these, they don't stand there
pub other_length : (tokens these : Texts) (at : ℕ) → 0 < length these → nat_eq (length (token_at tokens at)) (length (token_at these 0)) ≡ false → stand_at tokens at these ≡ false
other_length tokens these at some other = go (stand_at tokens at these) refl
  where
    as_long : List ℕ → Bool
    as_long t = nat_eq (length t) (length (token_at these 0))

    go : (b : Bool) → stand_at tokens at these ≡ b → stand_at tokens at these ≡ false
    go false e = e
    go true e =
        let first : as_long (get_or these 0 []) ≡ true = ap as_long (sym (unwrap_or-slice_get these 0 [])) ∙ eq-eqb (length (token_at these 0)) (length (token_at these 0)) refl in
        let here : at + 0 ≡ at = omega arith in
        let token : get_or (drop at tokens) 0 [] ≡ token_at tokens at = get_or-drop at tokens 0 [] ∙ ap (λ n. get_or tokens n []) here ∙ sym (unwrap_or-slice_get tokens at []) in
        absurd (false≢true (sym other ∙ ap as_long (sym token) ∙ stands_pass as_long (drop at tokens) these 0 e some first))

all_pass : (P : List ℕ → Bool) (these : Texts) → list_all P these ≡ true → (k : ℕ) → k < length these → P (get_or these k []) ≡ true
all_pass P [] all k lt = absurd (omega (arith, lt))
all_pass P (t ∷ these) all zero lt = (and_parts (P t) (list_all P these) all).0
all_pass P (t ∷ these) all (suc k) lt = all_pass P these (and_parts (P t) (list_all P these) all).1 k (omega (arith, lt))

-- a token that isn't as the first ones of these are is not among them
none_among : (P : List ℕ → Bool) (tokens these : Texts) (at count : ℕ) → ((k : ℕ) → k < count → P (get_or these k []) ≡ true) → P (token_at tokens at) ≡ false → count ≤ length these → is_among tokens at these count ≡ false
none_among P tokens these at zero all other few = refl
none_among P tokens these at (suc back) all other few =
    (λ i. none_among P tokens these at back (λ k lt. all k (omega (arith, lt))) other (omega (arith, few)) i || here (nat_le back at) (stand_at tokens (at - back) these) refl refl i)
  where
    here : (a b : Bool) → nat_le back at ≡ a → stand_at tokens (at - back) these ≡ b → (nat_le back at && stand_at tokens (at - back) these) ≡ false
    here false b e f = ap (λ a. a && stand_at tokens (at - back) these) e
    here true false e f = (λ i. e i && f i)
    here true true e f =
        let place : (at - back) + back ≡ at = omega (arith, leb-true back at e) in
        let passes = stands_pass P (drop (at - back) tokens) these back f (omega (arith, few)) (all back (omega arith)) in
        let token : get_or (drop (at - back) tokens) back [] ≡ token_at tokens at =
        get_or-drop (at - back) tokens back [] ∙ ap (λ n. get_or tokens n []) place ∙ sym (unwrap_or-slice_get tokens at []) in
        absurd (false≢true (sym other ∙ ap P (sym token) ∙ passes))

-- a token that begins otherwise than those of an empty `with` is not of one
pub none_of_with : (tokens : Texts) (at : ℕ) → may_be_of_with (token_at tokens at) ≡ false → is_among tokens at empty_with 3 ≡ false
none_of_with tokens at other = none_among may_be_of_with tokens empty_with at 3 (λ k lt. all_pass may_be_of_with empty_with refl k (omega (arith, lt))) other (omega arith)

-- ---- far from `_`

abbrev is_nothing : List ℕ → Bool
is_nothing token = bytes_eq token (codes "_")

-- none of three tokens is `_`
far : (tokens : Texts) (at k : ℕ) → is_near_nothing tokens at ≡ false → at ≤ k + 1 → k ≤ at + 1 → is_nothing (token_at tokens k) ≡ false
far tokens at k none low high =
    let p = or_parts (is_nothing (token_before tokens at 1)) _ none in
    let q = or_parts (is_nothing (token_at tokens at)) _ p.1 in
    ⊎_elim
    (λ (h : k < at).
    let same : at - 1 ≡ k = omega (arith, h, low) in
    let some : nat_le 1 at ≡ true = le-leb 1 at (omega (arith, h)) in
    sym (ap (λ b. is_nothing (cond b (token_at tokens (at - 1)) [])) some ∙ ap (λ n. is_nothing (token_at tokens n)) same) ∙ p.0)
    (λ (h : at ≤ k).
    ⊎_elim
    (λ (g : at < k). let same : at + 1 ≡ k = omega (arith, g, high) in ap (λ n. is_nothing (token_at tokens n)) (sym same) ∙ q.1)
    (λ (g : k ≤ at). let same : at ≡ k = omega (arith, g, h) in ap (λ n. is_nothing (token_at tokens n)) (sym same) ∙ q.0)
    (cases_lt at k))
    (cases_lt k at)

-- one of these beside each place of the first is `_`
abbrev HasNothing : Texts → ℕ → Type 0
HasNothing these back = (k : ℕ) × (k < length these) × (back ≤ k + 1) × (k ≤ back + 1) × (is_nothing (get_or these k []) ≡ true)

none_near : (tokens these : Texts) (at count : ℕ) → is_near_nothing tokens at ≡ false → ((back : ℕ) → back < count → HasNothing these back) → is_among tokens at these count ≡ false
none_near tokens these at zero none has = refl
none_near tokens these at (suc back) none has =
    (λ i. none_near tokens these at back none (λ k lt. has k (omega (arith, lt))) i || here (nat_le back at) (stand_at tokens (at - back) these) refl refl (has back (omega arith)) i)
  where
    here : (a b : Bool) → nat_le back at ≡ a → stand_at tokens (at - back) these ≡ b → HasNothing these back → (nat_le back at && stand_at tokens (at - back) these) ≡ false
    here false b e f h = ap (λ a. a && stand_at tokens (at - back) these) e
    here true false e f h = (λ i. e i && f i)
    here true true e f h =
        let before = leb-true back at e in
        let passes = stands_pass is_nothing (drop (at - back) tokens) these h.0 f h.1 h.4 in
        let token : get_or (drop (at - back) tokens) h.0 [] ≡ token_at tokens (at - back + h.0) = get_or-drop (at - back) tokens h.0 [] ∙ sym (unwrap_or-slice_get tokens (at - back + h.0) []) in
        let not_here = far tokens at (at - back + h.0) none (omega (arith, before, h.2)) (omega (arith, before, h.3)) in
        absurd (false≢true (sym not_here ∙ ap is_nothing (sym token) ∙ passes))

pub far_from_nothing : (tokens : Texts) (at : ℕ) (around : Brackets) → is_near_nothing tokens at ≡ false → goes_far_from_nothing tokens at around ≡ goes tokens at around
far_from_nothing tokens at around none =
    let one = none_near tokens (codes "<" ∷ codes "_" ∷ codes ">" ∷ []) at 3 none (λ back lt. (1, omega arith, omega (arith, lt), omega arith, refl)) in
    let two = none_near tokens (codes "<" ∷ codes "_" ∷ codes "," ∷ codes "_" ∷ codes ">" ∷ []) at 5 none
    (λ back lt. ⊎_elim
    (λ (h : back < 3). (1, omega arith, omega (arith, h), omega arith, refl))
    (λ (h : 3 ≤ back). (3, omega arith, omega (arith, lt), omega (arith, h), refl))
    (cases_lt back 3)) in
    let last = none_near tokens (codes "," ∷ codes "_" ∷ codes ">" ∷ []) at 2 none (λ back lt. (1, omega arith, omega (arith, lt), omega arith, refl)) in
    let rest = is_among tokens at (codes "->" ∷ codes ";" ∷ []) 1 || is_last_comma tokens at around in
    sym (λ i. is_among tokens at empty_with 3 || (one i || (two i || (last i || rest))))

no_comma : (token : List ℕ) (b : Bool) → may_go token ≡ false → bytes_eq token (codes ",") ≡ b → bytes_eq token (codes ",") ≡ false
no_comma token false other e = e
no_comma token true other e = absurd (false≢true (sym other ∙ ap may_go (bytes_eq_is token (codes ",") e)))

-- what begins otherwise than all that printing drops stays
pub stays : (tokens : Texts) (at : ℕ) (around : Brackets) → may_go (token_at tokens at) ≡ false → goes tokens at around ≡ false
stays tokens at around other =
    let with_these = λ (these : Texts) (count : ℕ) (all : list_all may_go these ≡ true) (same : length these ≡ count). none_among may_go tokens these at count (λ k lt. all_pass may_go these all k (omega (arith, lt, same))) other (omega (arith, same)) in
    let empty = with_these empty_with 3 refl refl in
    let one = with_these (codes "<" ∷ codes "_" ∷ codes ">" ∷ []) 3 refl refl in
    let two = with_these (codes "<" ∷ codes "_" ∷ codes "," ∷ codes "_" ∷ codes ">" ∷ []) 5 refl refl in
    let last = none_among may_go tokens (codes "," ∷ codes "_" ∷ codes ">" ∷ []) at 2 (λ k lt. all_pass may_go (codes "," ∷ codes "_" ∷ codes ">" ∷ []) refl k (omega (arith, lt))) other (omega arith) in
    let arrow = none_among may_go tokens (codes "->" ∷ codes ";" ∷ []) at 1 (λ k lt. first_passes k (omega (arith, lt))) other (omega arith) in
    let rest = is_closing (token_at tokens (at + 1)) && (is_flat around || bytes_eq (token_before tokens at 1) (codes "...")) in
    let comma : is_last_comma tokens at around ≡ false = ap (λ b. b && rest) (no_comma (token_at tokens at) (bytes_eq (token_at tokens at) (codes ",")) other refl) in
    (λ i. empty i || (one i || (two i || (last i || (arrow i || comma i)))))
  where
    first_passes : (k : ℕ) → k ≡ 0 → may_go (get_or (codes "->" ∷ codes ";" ∷ []) k []) ≡ true
    first_passes k e = ap (λ n. may_go (get_or (codes "->" ∷ codes ";" ∷ []) n [])) e
