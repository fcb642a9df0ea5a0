-- One step of the walk over the pieces of a text, and over the comments of a gap.
use Rattle.wac_comments_layout.proofs.Common.{◌≡◌, ℕ, zero, suc, ◌+◌, ◌<◌, ◌≤◌, true, false, cond, get_or, List, [], ◌∷◌, ◌++◌, map, take, drop, length, sym, refl, subst, ap, ◌∙◌, arith, Some, None, append_assoc, ◌==◌, nat_eq, Result, drop_all, drop_more, ne_eqb, begins, is_blank, opens, part_len, Item, NextToken, next_token, after_first_item, OnFirst, Nexts, Reading, left, slice, Span, end_of, Error, Token, no_comment, part_by}
use Rattle.wac_comments_layout.specs.Pieces.{Piece, comment_of_part, comments_at, comments_upto, end_piece, pieces_after}
use Rattle.wac_comments_layout.specs.Texts.{pieces_of, texts_of}
use Rattle.wac_comments_layout.specs.declared.pieces.Piece.{Piece as Read}

abbrev next_comments : ℕ → ℕ → List ℕ → ℕ → List Piece
next_comments len m source start = cond (len == 0) [] (comment_of_part start (take len (drop start source)) ++ comments_upto m source (start + len))

-- a blank takes one byte, and what begins neither as a blank nor as a comment takes none
some_bytes : (b : ℕ) (t : List ℕ) → (length (b ∷ t) == 0) ≡ false
some_bytes b t = ne_eqb (length (b ∷ t)) 0 (λ z. omega arith)

pub blank_len : (source : List ℕ) (place : ℕ) → place < length source → is_blank (get_or source place 0) ≡ true → part_len (drop place source) ≡ 1
blank_len source place more blank =
    let t = get_or source place 0 ∷ drop (place + 1) source in
    ap part_len (drop_more source place 0 more) ∙ (λ i. part_by t (some_bytes (get_or source place 0) (drop (place + 1) source) i) (blank i) (begins 47 47 t) (opens t))

pub no_len : (source : List ℕ) (place : ℕ) → place < length source → is_blank (get_or source place 0) ≡ false → nat_eq (get_or source place 0) 47 ≡ false → part_len (drop place source) ≡ 0
no_len source place more blank other =
    let b = get_or source place 0 in
    let rest = drop (place + 1) source in
    ap part_len (drop_more source place 0 more) ∙ (λ i. part_by (b ∷ rest) (some_bytes b rest i) (blank i) (no_comment b rest 47 other i) (no_comment b rest 42 other i))

-- a part of less than two bytes is no comment
pub short_part : (place n : ℕ) (t : List ℕ) → n < 2 → comment_of_part place (take n t) ≡ []
short_part place zero [] short = refl
short_part place zero (b ∷ t) short = refl
short_part place (suc zero) [] short = refl
short_part place (suc zero) (b ∷ t) short = refl
short_part place (suc (suc n)) t short = absurd (omega (arith, short))

pub comments_done : (source : List ℕ) (n start : ℕ) → part_len (drop start source) ≡ 0 → comments_upto n source start ≡ []
comments_done source zero start e = refl
comments_done source (suc m) start e = ap (λ len. next_comments len m source start) e

pub comments_end : (source : List ℕ) (n start : ℕ) → length source ≤ start → comments_upto n source start ≡ []
comments_end source n start h = comments_done source n start (ap part_len (drop_all start source h))

pub comments_more : (source : List ℕ) (n start len : ℕ) → part_len (drop start source) ≡ len → 0 < len → start < length source → length source ≤ start + n
    → (m : ℕ) × (length source ≤ start + len + m) × (comments_upto n source start ≡ comment_of_part start (take len (drop start source)) ++ comments_upto m source (start + len))
comments_more source zero start len e positive more enough = absurd (omega arith)
comments_more source (suc m) start len e positive more enough =
    let test : (len == 0) ≡ false = ne_eqb len 0 (λ z. omega arith) in
    (m, omega arith, ap (λ p. next_comments p m source start) e ∙ ap (λ b. cond b [] (comment_of_part start (take len (drop start source)) ++ comments_upto m source (start + len))) test)

-- the texts of pieces are those of their texts and spans
pub texts_same : (found : List Read) → texts_of found ≡ map (λ (p : Piece). p.text) (pieces_of found)
texts_same [] = refl
texts_same (p ∷ found) = ap (λ rest. p.text.now ∷ rest) (texts_same found)

some_none : (x : Result Token Error × Span) → Some x ≡ None → ⊥
some_none x e = let P : NextToken → Type 0 = λ o. elim o [ Some h ↦ Unit {0} | None ↦ ⊥ ] in subst P e tt

-- the pieces from a place on, where `next` gives an item, and where it gives none
pub pieces_more : (source : List ℕ) (place : ℕ) (old new : List Item) (token : Result Token Error) (span : Span) → Some (token, span) ≡ next_token old → new ≡ after_first_item old → OnFirst old (λ x. x.text ≡ slice source x.span)
    → pieces_after source place old ≡ comments_at source place ++ record { text = slice source span; span = span } ∷ pieces_after source (end_of span) new
pieces_more source place [] new token span gives rest text = absurd (some_none (token, span) gives)
pieces_more source place (x ∷ xs) new token span gives rest text =
    let same : x.span ≡ span = sym (ap (λ o. elim o [ Some h ↦ h.1 | None ↦ span ]) gives) in
    let is : x.text ≡ slice source span = text ∙ ap (slice source) same in
    let later : xs ≡ new = sym rest in
    (λ i. comments_at source place ++ record { text = is i; span = same i } ∷ pieces_after source (end_of (same i)) (later i))

pub pieces_none : (source : List ℕ) (place : ℕ) (old : List Item) → None ≡ next_token old → pieces_after source place old ≡ comments_at source place ++ end_piece source ∷ []
pieces_none source place [] gives = refl
pieces_none source place (x ∷ xs) gives = absurd (some_none (x.token, x.span) (sym gives))

-- what was read, where `next` gives an item: the comments before it, and the item
pub read_more : (source : List ℕ) (place : ℕ) (old new : Reading) (token : Result Token Error) (span : Span) (before later all : List Piece)
    → old.source ≡ source → Nexts old (Some (token, span)) new → before ++ pieces_after source place (left old) ≡ all
    → later ≡ (before ++ comments_at source place) ++ record { text = slice source span; span = span } ∷ []
    → later ++ pieces_after source (end_of span) (left new) ≡ all
read_more source place old new token span before later all of next found is =
    let P : List ℕ → Type 0 = λ s. OnFirst (left old) (λ x. x.text ≡ slice s x.span) in
    let more = pieces_more source place (left old) (left new) token span next.gives next.rest (subst P of next.text) in
    let here : Piece = record { text = slice source span; span = span } in
    let rest = pieces_after source (end_of span) (left new) in
    let same : ((before ++ comments_at source place) ++ here ∷ []) ++ rest ≡ before ++ (comments_at source place ++ (here ∷ rest)) = simp append_assoc in
    ap (λ l. l ++ rest) is ∙ same ∙ sym (ap (λ l. before ++ l) more) ∙ found

-- where it gives none: the comments of the last gap, and the end
pub read_end : (source : List ℕ) (place : ℕ) (old new : Reading) (before later all : List Piece)
    → Nexts old None new → before ++ pieces_after source place (left old) ≡ all
    → later ≡ (before ++ comments_at source place) ++ end_piece source ∷ [] → later ≡ all
read_end source place old new before later all next found is =
    is
    ∙ append_assoc before (comments_at source place) (end_piece source ∷ [])
    ∙ sym (ap (λ l. before ++ l) (pieces_none source place (left old) next.gives))
    ∙ found
