-- The blanks and comments that are skipped are the longest gap, and its docs are those of the place.
use Rattle.wac_lexer.proofs.Common.{◌≡◌, ◌≢◌, ℕ, zero, suc, ◌+◌, ◌-◌, ◌<◌, ◌≤◌, Bool, true, false, cond, List, [], ◌∷◌, ◌++◌, take, drop, length, sym, refl, ap, ◌∙◌, subst, arith, inl, inr, ⊎_elim, Option, Some, None, length-append, append_assoc, ◌==◌, not, nat_eq, slice_index, concat, AllByRecursion, prefix_len, take-append_seam, drop-append_seam, drop-drop, length-drop, drop_all, cases_Bool, cond_both, ne_eqb, eqb-true, true≢false, eq-eqb}
use Rattle.wac_lexer.specs.Comments.{Inside, after, begins, opens, is_blank, is_not_line_end, line_len, block_len, part_len, parts_len, gap}
use Rattle.wac_lexer.specs.Docs.{doc_of_part, docs_upto, docs_at}
use Rattle.wac_lexer.specs.Gap.{EndsLine, IsPart, Gap, IsLongestGap, docs_among}
use Rattle.wac_lexer.proofs.Pieces.{made, meant, opens_is, lines_is, inside_front}
use Rattle.wac_lexer.proofs.Trimmed.{docs_done, docs_more}
use Rattle.wac_lexer.proofs.Boundaries.{ne_zero}

-- what the tests make of a text
abbrev len_by : Bool → Bool → Bool → Bool → List ℕ → ℕ
len_by empty blank line block text = cond empty 0 (cond blank 1 (cond line (line_len text) (cond block (block_len text) 0)))

-- the line of a line comment
line_whole : (line rest : List ℕ) → AllByRecursion (λ b. b ≢ 10) line → EndsLine rest → prefix_len is_not_line_end (line ++ rest) ≡ length line
line_whole [] [] all end = refl
line_whole [] (b ∷ rest) all end = ap (λ c. cond (not (nat_eq c 10)) (1 + prefix_len is_not_line_end rest) 0) end
line_whole (b ∷ line) rest all end =
    ap (λ t. cond (not t) (1 + prefix_len is_not_line_end (line ++ rest)) 0) (ne_eqb b 10 all.0)
    ∙ omega (arith, line_whole line rest all.1 end)

line_found : (text : List ℕ) → (line : List ℕ) × (rest : List ℕ) × (text ≡ line ++ rest) × (length line ≡ prefix_len is_not_line_end text) × AllByRecursion (λ b. b ≢ 10) line × EndsLine rest
line_found [] = ([], [], refl, refl, tt, tt)
line_found (b ∷ text) = go (nat_eq b 10) refl (line_found text)
  where
    go : (test : Bool) → nat_eq b 10 ≡ test
        → (line : List ℕ) × (rest : List ℕ) × (text ≡ line ++ rest) × (length line ≡ prefix_len is_not_line_end text) × AllByRecursion (λ b. b ≢ 10) line × EndsLine rest
        → (line : List ℕ) × (rest : List ℕ) × (b ∷ text ≡ line ++ rest) × (length line ≡ prefix_len is_not_line_end (b ∷ text)) × AllByRecursion (λ b. b ≢ 10) line × EndsLine rest
    go true e h = ([], b ∷ text, refl, sym (ap (λ t. cond (not t) (1 + prefix_len is_not_line_end text) 0) e), tt, eqb-true b 10 e)
    go false e h =
        let longer : suc (length h.0) ≡ 1 + prefix_len is_not_line_end text = omega (arith, h.3) in (
          b ∷ h.0,
          h.1,
          ap (λ t. b ∷ t) h.2,
          longer ∙ sym (ap (λ t. cond (not t) (1 + prefix_len is_not_line_end text) 0) e),
          (λ same. true≢false (sym (eq-eqb b 10 same) ∙ e), h.4),
          h.5,
        )

-- a text with a byte isn't empty
some_bytes : (b : ℕ) (text : List ℕ) → (length (b ∷ text) == 0) ≡ false
some_bytes b text = ne_eqb (length (b ∷ text)) 0 (λ e. omega arith)

-- a part takes as many bytes as the tests say
blank_takes : (b : ℕ) (rest : List ℕ) → is_blank b ≡ true → part_len (b ∷ rest) ≡ 1
blank_takes b rest e = let t = b ∷ rest in (λ i. len_by (some_bytes b rest i) (e i) (begins 47 47 t) (opens t) t)

line_takes : (line rest : List ℕ) → AllByRecursion (λ b. b ≢ 10) line → EndsLine rest → part_len (47 ∷ 47 ∷ (line ++ rest)) ≡ 2 + length line
line_takes line rest all end =
    let t = 47 ∷ 47 ∷ (line ++ rest) in
    ap (λ e. len_by e false true false t) (some_bytes 47 (47 ∷ (line ++ rest))) ∙ omega (arith, line_whole line rest all end)

block_takes : (inner rest : List ℕ) → Inside (inner ++ rest) rest → part_len (47 ∷ 42 ∷ (inner ++ rest)) ≡ 2 + length inner
block_takes inner rest inside =
    let t = 47 ∷ 42 ∷ (inner ++ rest) in
    let whole : length t - length rest ≡ 2 + length inner = omega (arith, length-append inner rest) in
    ap (λ e. len_by e false false true t) (some_bytes 47 (42 ∷ (inner ++ rest)))
    ∙ ap (λ o. elim o [ Some r ↦ length t - length r | None ↦ 0 ]) (made (inner ++ rest) rest inside)
    ∙ whole

abbrev Takes : List ℕ → List ℕ → Type 0
Takes rest part = (part_len (part ++ rest) ≡ length part) × (0 < length part)

pub part_takes : (part rest : List ℕ) → IsPart part rest → Takes rest part
part_takes part rest (inl h) = subst (Takes rest) (sym h.1) (blank_takes h.0 rest h.2, omega arith)
part_takes part rest (inr (inl h)) =
    let len : part_len (47 ∷ 47 ∷ (h.0 ++ rest)) ≡ suc (suc (length h.0)) = omega (arith, line_takes h.0 rest h.2 h.3) in
    subst (Takes rest) (sym h.1) (len, omega arith)
part_takes part rest (inr (inr h)) =
    let len : part_len (47 ∷ 42 ∷ (h.0 ++ rest)) ≡ suc (suc (length h.0)) = omega (arith, block_takes h.0 rest h.2) in
    subst (Takes rest) (sym h.1) (len, omega arith)

-- where the tests find a part, it is one
abbrev Found : List ℕ → ℕ → Type 0
Found text n = 0 < n → (part : List ℕ) × (rest : List ℕ) × (text ≡ part ++ rest) × (length part ≡ n) × IsPart part rest

blank_found : (text : List ℕ) → (length text == 0) ≡ false → is_blank (slice_index text 0) ≡ true → Found text 1
blank_found [] e blank some = absurd cc
blank_found (b ∷ text) e blank some = (b ∷ [], text, refl, refl, inl (b, refl, blank))

line_part : (text : List ℕ) → begins 47 47 text ≡ true → Found text (line_len text)
line_part text e some =
    let is = lines_is text e in
    let line = line_found (drop 2 text) in
    let len : suc (suc (length line.0)) ≡ line_len (47 ∷ 47 ∷ drop 2 text) = omega (arith, line.3) in
    (47 ∷ 47 ∷ line.0, line.1, is ∙ ap (λ t. 47 ∷ 47 ∷ t) line.2, len ∙ sym (ap line_len is), inr (inl (line.0, refl, line.4, line.5)))

block_part : (text : List ℕ) → opens text ≡ true → (found : Option (List ℕ)) → after 1 (drop 2 text) ≡ found → Found text (block_len text)
block_part text e None a some = let none : block_len text ≡ 0 = ap (λ o. elim o [ Some r ↦ length text - length r | None ↦ 0 ]) a in absurd (omega (arith, some, none))
block_part text e (Some rest) a some =
    let inside = meant (drop 2 text) rest a in
    let front = inside_front inside in
    let inner = front.0 ++ 47 ∷ [] in
    let split : drop 2 text ≡ inner ++ rest = front.1 ∙ sym (append_assoc front.0 (47 ∷ []) rest) in
    let is : text ≡ 47 ∷ 42 ∷ (inner ++ rest) = opens_is text e ∙ ap (λ t. 47 ∷ 42 ∷ t) split in
    let len : suc (suc (length inner)) ≡ length text - length rest = omega (arith, ap length is, length-append inner rest) in (
      47 ∷ 42 ∷ inner,
      rest,
      is,
      len ∙ sym (ap (λ o. elim o [ Some r ↦ length text - length r | None ↦ 0 ]) a),
      inr (inr (inner, refl, subst (λ t. Inside t rest) split inside)),
    )

pub part_found : (text : List ℕ) → Found text (part_len text)
part_found text =
    cond_both (length text == 0) 0 _ (Found text) (λ e some. absurd (omega arith)) (λ some.
    cond_both (is_blank (slice_index text 0)) 1 _ (Found text) (λ e. blank_found text some e) (λ b.
    cond_both (begins 47 47 text) (line_len text) _ (Found text) (λ e. line_part text e) (λ l.
    cond_both (opens text) (block_len text) 0 (Found text) (λ e. block_part text e (after 1 (drop 2 text)) refl) (λ o none. absurd (omega arith)))))

-- up to n parts, and whether that is all of them
abbrev next_len : ℕ → ℕ → List ℕ → ℕ
next_len p m text = p + cond (p == 0) 0 (parts_len m (drop p text))

len_none : (n : ℕ) (text : List ℕ) → part_len text ≡ 0 → parts_len n text ≡ 0
len_none zero text e = refl
len_none (suc m) text e = ap (λ p. next_len p m text) e

len_more : (m : ℕ) (text part rest : List ℕ) → text ≡ part ++ rest → part_len text ≡ length part → 0 < length part → parts_len (suc m) text ≡ length part + parts_len m rest
len_more m text part rest split e some =
    let test : (length part == 0) ≡ false = ne_eqb (length part) 0 (λ z. omega arith) in
    let after_part : drop (length part) text ≡ rest = ap (drop (length part)) split ∙ drop-append_seam part rest in
    ap (λ p. next_len p m text) e ∙ (λ i. length part + cond (test i) 0 (parts_len m (after_part i)))

drop_more : (text part rest : List ℕ) (n : ℕ) → text ≡ part ++ rest → drop (length part + n) text ≡ drop n rest
drop_more text part rest n split =
    sym (drop-drop n (length part) text) ∙ ap (drop n) (ap (drop (length part)) split ∙ drop-append_seam part rest)

gap_parts : (n : ℕ) (text : List ℕ) → (parts : List (List ℕ)) × Gap text parts (drop (parts_len n text) text)
gap_parts zero text = ([], refl)
gap_parts (suc m) text =
    ⊎_elim
    (λ e. ([], ap (λ k. drop k text) (sym (len_none (suc m) text (eqb-true (part_len text) 0 e)))))
    (λ e.
    let found = part_found text (ne_zero (part_len text) e) in
    let later = gap_parts m found.1 in
    let len = len_more m text found.0 found.1 found.2 (sym found.3) (omega (arith, ne_zero (part_len text) e, found.3)) in
    let rest : drop (parts_len m found.1) found.1 ≡ drop (parts_len (suc m) text) text =
    sym (drop_more text found.0 found.1 (parts_len m found.1) found.2) ∙ ap (λ k. drop k text) (sym len) in
    (found.0 ∷ later.0, (found.1, found.2, found.4, subst (Gap found.1 later.0) rest later.1)))
    (cases_Bool (part_len text == 0))

gap_longest : (n : ℕ) (text : List ℕ) (others : List (List ℕ)) (rest : List ℕ) → length text ≤ n → Gap text others rest → length (concat others) ≤ parts_len n text
gap_longest n text [] rest enough h = omega arith
gap_longest zero text (part ∷ others) rest enough h =
    let takes = part_takes part h.0 h.2 in
    absurd (omega (arith, takes.1, ap length h.1, length-append part h.0))
gap_longest (suc m) text (part ∷ others) rest enough h =
    let takes = part_takes part h.0 h.2 in
    let len = len_more m text part h.0 h.1 (ap part_len h.1 ∙ takes.0) takes.1 in
    let later = gap_longest m h.0 others rest (omega (arith, takes.1, ap length h.1, length-append part h.0)) h.3 in
    omega (arith, len, later, length-append part (concat others))

pub longest_gap : (text : List ℕ) → IsLongestGap text (gap text)
longest_gap text =
    let parts = gap_parts (length text) text in
    record { parts = parts.0; is = parts.1; longest = λ others rest h. gap_longest (length text) text others rest (omega arith) h }

-- no part follows the longest gap
gap_ends : (n : ℕ) (text : List ℕ) → length text ≤ n → part_len (drop (parts_len n text) text) ≡ 0
gap_ends zero text enough = ap part_len (drop_all 0 text enough)
gap_ends (suc m) text enough =
    ⊎_elim
    (λ e. let none = eqb-true (part_len text) 0 e in ap (λ k. part_len (drop k text)) (len_none (suc m) text none) ∙ none)
    (λ e.
    let found = part_found text (ne_zero (part_len text) e) in
    let some : 0 < length found.0 = omega (arith, ne_zero (part_len text) e, found.3) in
    let len = len_more m text found.0 found.1 found.2 (sym found.3) some in
    ap (λ k. part_len (drop k text)) len
    ∙ ap part_len (drop_more text found.0 found.1 (parts_len m found.1) found.2)
    ∙ gap_ends m found.1 (omega (arith, ap length found.2, length-append found.0 found.1)))
    (cases_Bool (part_len text == 0))

-- the docs among the parts of the gap
among : (source : List ℕ) (n place : ℕ) (parts : List (List ℕ)) (rest : List ℕ) → length source ≤ place + n → Gap (drop place source) parts rest → part_len rest ≡ 0 → docs_upto n source place ≡ docs_among place parts
among source n place [] rest enough h none = docs_done source n place (ap part_len h ∙ none)
among source n place (part ∷ parts) rest enough h none =
    let takes = part_takes part h.0 h.2 in
    let more = docs_more source n place (length part) (ap part_len h.1 ∙ takes.0) takes.1 (omega (arith, takes.1, ap length h.1, length-append part h.0, length-drop place source)) enough in
    let here : take (length part) (drop place source) ≡ part = ap (take (length part)) h.1 ∙ take-append_seam part h.0 in
    let next : h.0 ≡ drop (place + length part) source = sym (ap (drop (length part)) h.1 ∙ drop-append_seam part h.0) ∙ drop-drop (length part) place source in
    more.2
    ∙ (λ i. doc_of_part place (here i) ++ among source more.0 (place + length part) parts rest more.1 (subst (λ t. Gap t parts rest) next h.3) none i)

pub docs_in_gap : (source : List ℕ) (place : ℕ) (parts : List (List ℕ)) → let text = drop place source in Gap text parts (drop (gap text) text) → docs_at source place ≡ docs_among place parts
unfolding docs_at
docs_in_gap source place parts h =
    let text = drop place source in
    among source (length source) place parts (drop (gap text) text) (omega arith) h (gap_ends (length text) text (omega arith))
