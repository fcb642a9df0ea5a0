-- Counting how deeply comments nest finds the end that the pieces of comments define.
use Rattle.wac_lexer.proofs.Common.{◌≡◌, ℕ, zero, suc, ◌+◌, ◌-◌, ◌<◌, ◌≤◌, Bool, true, false, List, [], ◌∷◌, ◌++◌, length, drop, sym, refl, ap, ◌∙◌, subst, arith, ⊎_elim, Option, Some, None, append_assoc, ◌&&◌, nat_eq, drop_all, drop-drop, cases_Bool, and_parts, eqb-true}
use Rattle.wac_lexer.specs.Comments.{begins, opens, closes, Inside, after}
use Rattle.wac_lexer.specs.Comments.Inside.{ends, comment, byte}

-- one byte at which nothing begins
after_byte : (n a b : ℕ) (text : List ℕ) → opens (a ∷ b ∷ text) ≡ false → closes (a ∷ b ∷ text) ≡ false → after (suc n) (a ∷ b ∷ text) ≡ after (suc n) (b ∷ text)
after_byte n a b text o c =
    (λ i. elim (o i) [
      | true ↦ after (suc (suc n)) text
      | false ↦ elim (c i) [ true ↦ after n text | false ↦ after (suc n) (b ∷ text) ]
    ])

-- counting finds the end of `Inside`
byte_step : (n b : ℕ) (text rest : List ℕ) → opens (b ∷ text) ≡ false → closes (b ∷ text) ≡ false → Inside text rest → after (suc n) (b ∷ text) ≡ after (suc n) text
byte_step n b [] rest o c p = elim p [ ]
byte_step n b (a ∷ text) rest o c p = after_byte n b a text o c

inside_after : {text mid : List ℕ} → Inside text mid → (n : ℕ) → after (suc n) text ≡ after n mid
inside_after ends n = refl
inside_after (comment p q) n = inside_after p (suc n) ∙ inside_after q n
inside_after (byte {b = b} {text = text} {rest = rest} o c p) n = byte_step n b text rest o c p ∙ inside_after p n

-- within n comments
abbrev InsideAll : ℕ → List ℕ → List ℕ → Type 0
InsideAll zero text rest = text ≡ rest
InsideAll (suc n) text rest = (mid : List ℕ) × Inside text mid × InsideAll n mid rest

two : (x y a b : ℕ) → (nat_eq a x && nat_eq b y) ≡ true → (a ≡ x) × (b ≡ y)
two x y a b e = let t = and_parts (nat_eq a x) (nat_eq b y) e in (eqb-true a x t.0, eqb-true b y t.1)

abbrev after_tests : ℕ → ℕ → List ℕ → Bool → Bool → Option (List ℕ)
after_tests n b text o c =
    elim o [ true ↦ after (suc (suc n)) text | false ↦ elim c [ true ↦ after n text | false ↦ after (suc n) (b ∷ text) ] ]

after_inside : (text : List ℕ) (n : ℕ) (rest : List ℕ) → after n text ≡ Some rest → InsideAll n text rest
after_inside text zero rest e = cc
after_inside [] (suc n) rest e = let f : None ≡ Some rest = e in absurd cc
after_inside (a ∷ []) (suc n) rest e = let f : None ≡ Some rest = e in absurd cc
after_inside (a ∷ b ∷ text) (suc n) rest e =
    ⊎_elim
    (λ o.
    let bytes = two 47 42 a b o in
    let h = after_inside text (suc (suc n)) rest (subst (λ v. after_tests n b text v (nat_eq a 42 && nat_eq b 47) ≡ Some rest) o e) in
    (h.2.0, subst (λ t. Inside t h.2.0) (λ i. sym bytes.0 i ∷ sym bytes.1 i ∷ text) (comment h.1 h.2.1), h.2.2))
    (λ o. ⊎_elim
    (λ c.
    let bytes = two 42 47 a b c in
    let h = after_inside text n rest (subst (λ v. after_tests n b text false v ≡ Some rest) c (subst (λ v. after_tests n b text v (nat_eq a 42 && nat_eq b 47) ≡ Some rest) o e)) in
    (text, subst (λ t. Inside t text) (λ i. sym bytes.0 i ∷ sym bytes.1 i ∷ text) ends, h))
    (λ c.
    let h = after_inside (b ∷ text) (suc n) rest (sym (after_byte n a b text o c) ∙ e) in
    (h.0, byte o c h.1, h.2))
    (cases_Bool (nat_eq a 42 && nat_eq b 47)))
    (cases_Bool (nat_eq a 47 && nat_eq b 42))

pub made : (text rest : List ℕ) → Inside text rest → after 1 text ≡ Some rest
made text rest p = inside_after p 0

pub meant : (text rest : List ℕ) → after 1 text ≡ Some rest → Inside text rest
meant text rest e = let h = after_inside text 1 rest e in subst (Inside text) h.2 h.1

-- one step of a walk that counts the depth
pub lines_is : (t : List ℕ) → begins 47 47 t ≡ true → t ≡ 47 ∷ 47 ∷ drop 2 t
lines_is [] e = absurd cc
lines_is (a ∷ []) e = absurd cc
lines_is (a ∷ b ∷ t) e = let w = two 47 47 a b e in (λ i. w.0 i ∷ w.1 i ∷ t)

pub opens_is : (t : List ℕ) → opens t ≡ true → t ≡ 47 ∷ 42 ∷ drop 2 t
opens_is [] e = absurd cc
opens_is (a ∷ []) e = absurd cc
opens_is (a ∷ b ∷ t) e = let w = two 47 42 a b e in (λ i. w.0 i ∷ w.1 i ∷ t)

closes_is : (t : List ℕ) → closes t ≡ true → t ≡ 42 ∷ 47 ∷ drop 2 t
closes_is [] e = absurd cc
closes_is (a ∷ []) e = absurd cc
closes_is (a ∷ b ∷ t) e = let w = two 42 47 a b e in (λ i. w.0 i ∷ w.1 i ∷ t)

other_step : (n : ℕ) (t : List ℕ) → opens t ≡ false → closes t ≡ false → after (suc n) t ≡ after (suc n) (drop 1 t)
other_step n [] o c = refl
other_step n (a ∷ []) o c = refl
other_step n (a ∷ b ∷ t) o c = after_byte n a b t o c

pub opens_within : (t : List ℕ) → opens t ≡ true → 2 ≤ length t
opens_within t e = omega (arith, ap length (opens_is t e))

pub closes_within : (t : List ℕ) → closes t ≡ true → 2 ≤ length t
closes_within t e = omega (arith, ap length (closes_is t e))

module _ (bytes : List ℕ) (i depth : ℕ) (deep : 0 < depth) where
  is_suc : depth ≡ suc (depth - 1)
  is_suc = omega arith

  pub walk_opens : opens (drop i bytes) ≡ true → after depth (drop i bytes) ≡ after (depth + 1) (drop (i + 2) bytes)
  walk_opens e =
      ap (λ d. after d (drop i bytes)) is_suc ∙ ap (after (suc (depth - 1))) (opens_is (drop i bytes) e)
      ∙ (λ k. after (more k) (drop-drop 2 i bytes k))
    where
      more : suc (suc (depth - 1)) ≡ depth + 1
      more = omega arith

  pub walk_closes : closes (drop i bytes) ≡ true → after depth (drop i bytes) ≡ after (depth - 1) (drop (i + 2) bytes)
  walk_closes e =
      ap (λ d. after d (drop i bytes)) is_suc ∙ ap (after (suc (depth - 1))) (closes_is (drop i bytes) e)
      ∙ ap (after (depth - 1)) (drop-drop 2 i bytes)

  pub walk_other : opens (drop i bytes) ≡ false → closes (drop i bytes) ≡ false → after depth (drop i bytes) ≡ after depth (drop (i + 1) bytes)
  walk_other o c =
      ap (λ d. after d (drop i bytes)) is_suc ∙ other_step (depth - 1) (drop i bytes) o c
      ∙ (λ k. after (sym is_suc k) (drop-drop 1 i bytes k))

  pub walk_end : length bytes ≤ i → after depth (drop i bytes) ≡ None
  walk_end h = (λ k. after (is_suc k) (drop_all i bytes h k))

-- a comment ends in a slash
pub inside_front : {text rest : List ℕ} → Inside text rest → (front : List ℕ) × (text ≡ front ++ 47 ∷ rest)
inside_front ends = (42 ∷ [], refl)
inside_front (comment {rest = rest} p q) =
    let x = inside_front p in
    let y = inside_front q in
    (47 ∷ 42 ∷ (x.0 ++ 47 ∷ y.0), ap (λ t. 47 ∷ 42 ∷ t) (x.1 ∙ ap (λ m. x.0 ++ 47 ∷ m) y.1 ∙ sym (append_assoc x.0 (47 ∷ y.0) (47 ∷ rest))))
inside_front (byte {b = b} o c p) = let x = inside_front p in (b ∷ x.0, ap (λ t. b ∷ t) x.1)
