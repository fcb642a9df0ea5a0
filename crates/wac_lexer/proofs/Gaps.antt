-- One step over the blanks and comments of a gap.
use Rattle.wac_lexer.proofs.Common.{◌≡◌, ℕ, zero, suc, ◌+◌, ◌-◌, ◌<◌, ◌≤◌, false, cond, List, [], ◌∷◌, drop, length, sym, refl, ap, ◌∙◌, arith, Some, None, add-zero, ◌==◌, drop-drop, drop_all, length-drop, ne_eqb}
use Rattle.wac_lexer.specs.Comments.{after, block_len, gap, part_len, parts_len}

-- the length of a gap, part by part
abbrev next_part : ℕ → ℕ → List ℕ → ℕ
next_part p m t = p + cond (p == 0) 0 (parts_len m (drop p t))

pub gap_done : (t : List ℕ) (i n : ℕ) → part_len t ≡ 0 → i + parts_len n t ≡ i
gap_done t i zero e = add-zero i
gap_done t i (suc m) e = ap (λ p. i + next_part p m t) e ∙ add-zero i

pub gap_more : (bytes : List ℕ) (i n p g : ℕ) → part_len (drop i bytes) ≡ p → 0 < p → p ≤ length (drop i bytes) → i ≤ length bytes → length bytes ≤ i + n → i + parts_len n (drop i bytes) ≡ g
    → (m : ℕ) × (length bytes ≤ i + p + m) × (i + p + parts_len m (drop (i + p) bytes) ≡ g)
gap_more bytes i zero p g e positive fits within enough total = absurd (omega (arith, length-drop i bytes))
gap_more bytes i (suc m) p g e positive fits within enough total =
    let test : (p == 0) ≡ false = ne_eqb p 0 (λ z. omega arith) in
    let here : parts_len (suc m) (drop i bytes) ≡ p + parts_len m (drop (i + p) bytes) =
    ap (λ q. next_part q m (drop i bytes)) e ∙ ap (λ b. p + cond b 0 (parts_len m (drop p (drop i bytes)))) test
    ∙ ap (λ t. p + parts_len m t) (drop-drop p i bytes) in
    (m, omega arith, omega (arith, here, total))

pub gap_end : (bytes : List ℕ) (i n g : ℕ) → length bytes ≤ i → i + parts_len n (drop i bytes) ≡ g → i ≡ g
gap_end bytes i n g h total = sym (gap_done (drop i bytes) i n (ap part_len (drop_all i bytes h))) ∙ total

pub block_is : (text : List ℕ) (n : ℕ) → 2 ≤ length text → n ≤ length (drop 2 text) → after 1 (drop 2 text) ≡ Some (drop n (drop 2 text)) → n + 2 ≡ block_len text
block_is text n long fits e =
    let rest : n + 2 ≡ length text - length (drop n (drop 2 text)) = omega (arith, length-drop n (drop 2 text), length-drop 2 text) in
    rest ∙ sym (ap (λ o. elim o [ Some r ↦ length text - length r | None ↦ 0 ]) e)

pub block_none : (text : List ℕ) → after 1 (drop 2 text) ≡ None → 0 ≡ block_len text
block_none text e = sym (ap (λ o. elim o [ Some r ↦ length text - length r | None ↦ 0 ]) e)

parts_none : (m : ℕ) → parts_len m [] ≡ 0
parts_none zero = refl
parts_none (suc m) = refl

-- any number of parts not below that of the bytes will do
enough : (n m : ℕ) (t : List ℕ) → length t ≤ n → length t ≤ m → parts_len n t ≡ parts_len m t
enough zero m [] a b = sym (parts_none m)
enough zero m (x ∷ t) a b = absurd (omega arith)
enough (suc n) zero [] a b = parts_none (suc n)
enough (suc n) zero (x ∷ t) a b = absurd (omega arith)
enough (suc n) (suc m) t a b = by_part (part_len t) refl (λ p pos. enough n m (drop p t) (omega (arith, length-drop p t)) (omega (arith, length-drop p t)))
  where
    by_part : (p : ℕ) → part_len t ≡ p → ((p : ℕ) → 0 < p → parts_len n (drop p t) ≡ parts_len m (drop p t)) → parts_len (suc n) t ≡ parts_len (suc m) t
    by_part zero e rec = ap (λ p. next_part p n t) e ∙ sym (ap (λ p. next_part p m t) e)
    by_part (suc p) e rec = ap (λ p. next_part p n t) e ∙ ap (λ r. suc p + cond (suc p == 0) 0 r) (rec (suc p) (omega arith)) ∙ sym (ap (λ p. next_part p m t) e)

pub gap_part : (t : List ℕ) (p : ℕ) → part_len t ≡ p → 0 < p → 0 < length t → gap t ≡ p + gap (drop p t)
gap_part [] p e pos long = absurd (omega arith)
gap_part (x ∷ t) p e pos long =
    ap (λ p. next_part p (length t) (x ∷ t)) e
    ∙ ap (λ b. p + cond b 0 (parts_len (length t) (drop p (x ∷ t)))) (ne_eqb p 0 (λ z. omega arith))
    ∙ ap (λ n. p + n) (enough (length t) (length (drop p (x ∷ t))) (drop p (x ∷ t)) (omega (arith, length-drop p (x ∷ t))) (omega arith))
