-- The texts of documentation comments, and one step of the walk over them.
use Rattle.wac_lexer.proofs.Common.{◌≡◌, ◌≢◌, ℕ, zero, suc, ◌+◌, ◌-◌, ◌<◌, ◌≤◌, Bool, true, false, cond, List, [], ◌++◌, take, drop, length, sym, refl, ap, ◌∙◌, arith, ⊎_elim, Option, Some, None, codes, length-append, ◌&&◌, ◌==◌, trim, take-append_seam, drop-append_seam, take-append-drop, drop_all, cases_Bool, ne_eqb}
use Rattle.std.proofs.lemmas.Slice.Eq.{bytes_eq-Decides}
use Rattle.wac_lexer.specs.Item.{Doc}
use Rattle.wac_lexer.specs.Comments.{part_len}
use Rattle.wac_lexer.specs.Docs.{begins_with, ends_with, doc_text, doc_of_part, docs_upto}

-- the tests on the ends of a text
begins_true : (front text rest : List ℕ) → text ≡ front ++ rest → begins_with front text ≡ true
begins_true front text rest e = (bytes_eq-Decides (take (length front) text) front).1 (ap (take (length front)) e ∙ take-append_seam front rest)

begins_false : (front text : List ℕ) → ((rest : List ℕ) → text ≢ front ++ rest) → begins_with front text ≡ false
begins_false front text none =
    ⊎_elim
    (λ e. absurd (none (drop (length front) text) (sym (take-append-drop (length front) text) ∙ ap (λ l. l ++ drop (length front) text) ((bytes_eq-Decides (take (length front) text) front).0 e))))
    (λ e. e)
    (cases_Bool (begins_with front text))

ends_true : (front back text : List ℕ) → text ≡ front ++ back → ends_with back text ≡ true
ends_true front back text e =
    let place : length text - length back ≡ length front = omega (arith, ap length e, length-append front back) in
    (bytes_eq-Decides (drop (length text - length back) text) back).1 (ap (λ n. drop n text) place ∙ ap (drop (length front)) e ∙ drop-append_seam front back)

ends_false : (back text : List ℕ) → ((front : List ℕ) → text ≢ front ++ back) → ends_with back text ≡ false
ends_false back text none =
    let n = length text - length back in
    ⊎_elim
    (λ e. absurd (none (take n text) (sym (take-append-drop n text) ∙ ap (λ l. take n text ++ l) ((bytes_eq-Decides (drop n text) back).0 e))))
    (λ e. e)
    (cases_Bool (ends_with back text))

-- what the tests make of a comment
abbrev text_by : List ℕ → Bool → Bool → Bool → Option (List ℕ)
text_by comment line block ended =
    cond line (Some (trim (drop 3 comment))) (cond (block && ended) (Some (trim (take (length (drop 3 comment) - 2) (drop 3 comment)))) None)

module _ (comment : List ℕ) (no_line : (rest : List ℕ) → comment ≢ codes "///" ++ rest) (begins : comment ≡ codes "/**" ++ drop 3 comment) where
  by_end : (ended : Bool) → ends_with (codes "*/") (drop 3 comment) ≡ ended → doc_text comment ≡ text_by comment false true ended
  by_end ended e =
      let line = begins_false (codes "///") comment no_line in
      let block = begins_true (codes "/**") comment (drop 3 comment) begins in
      (λ i. text_by comment (line i) (block i) (e i))

  pub block_text : (front : List ℕ) → drop 3 comment ≡ front ++ codes "*/" → doc_text comment ≡ Some (trim (take (length (drop 3 comment) - 2) (drop 3 comment)))
  block_text front e = by_end true (ends_true front (codes "*/") (drop 3 comment) e)

  pub block_none : ((front : List ℕ) → drop 3 comment ≢ front ++ codes "*/") → doc_text comment ≡ None
  block_none none = by_end false (ends_false (codes "*/") (drop 3 comment) none)

-- the walk
abbrev next_docs : ℕ → ℕ → List ℕ → ℕ → List Doc
next_docs len m source start = cond (len == 0) [] (doc_of_part start (take len (drop start source)) ++ docs_upto m source (start + len))

pub docs_done : (source : List ℕ) (n start : ℕ) → part_len (drop start source) ≡ 0 → docs_upto n source start ≡ []
docs_done source zero start e = refl
docs_done source (suc m) start e = ap (λ len. next_docs len m source start) e

pub docs_end : (source : List ℕ) (n start : ℕ) → length source ≤ start → docs_upto n source start ≡ []
docs_end source n start h = docs_done source n start (ap part_len (drop_all start source h))

pub docs_more : (source : List ℕ) (n start len : ℕ) → part_len (drop start source) ≡ len → 0 < len → start < length source → length source ≤ start + n
    → (m : ℕ) × (length source ≤ start + len + m) × (docs_upto n source start ≡ doc_of_part start (take len (drop start source)) ++ docs_upto m source (start + len))
docs_more source zero start len e positive more enough = absurd (omega arith)
docs_more source (suc m) start len e positive more enough =
    let test : (len == 0) ≡ false = ne_eqb len 0 (λ z. omega arith) in
    (m, omega arith, ap (λ p. next_docs p m source start) e ∙ ap (λ b. cond b [] (doc_of_part start (take len (drop start source)) ++ docs_upto m source (start + len))) test)
