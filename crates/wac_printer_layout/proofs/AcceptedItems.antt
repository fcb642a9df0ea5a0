-- The texts and the docs of a source's items have no rejected character where the source has none.
use Rattle.wac_printer_layout.proofs.Common.{◌≡◌, ℕ, suc, ◌+◌, ◌-◌, ◌<◌, true, List, [], ◌∷◌, ◌++◌, take, drop, length, get_or, sym, refl, ap, ◌∙◌, subst, arith, inl, inr, Option, Some, None, Result, length-append, codes, ◌&&◌, AllByRecursion, IsUtf8, IsCharBoundary, trim, bytes_eq, get_or-append_seam, take-append_seam, drop-append_seam, and_parts, cond_both, take-append-drop, length-take-le, length-drop, get_or-drop, IsCharBoundary-end, IsCharBoundary-start, IsCharBoundary-before_ascii, IsCharBoundary-after_ascii, Span, span, end_of, gap, begins_with, ends_with, doc_text, doc_of_part, IsPart, Gap, docs_among, Item, Doc, OnFirst, first_item, items_from, items, InOrder, slice, Slices, Token, Error, blank_ascii, ordered, longest_gap, docs_in_gap, start_of, items_none, items_some, first_docs}
use Rattle.wac_lexer.proofs.Unfolded.{made}
use Rattle.wac_lexer.specs.Docs.{docs_at}
use Rattle.wac_lexer.proofs.Pieces.{inside_front}
use Rattle.wac_lexer.proofs.Texts.{bytes_eq_is}
use Rattle.wac_printer_layout.specs.Accepted.{IsAccepted, ItemIsAccepted}
use Rattle.wac_printer_layout.proofs.Characters.{Holds, holds_take, holds_drop, holds_trim}
use Rattle.wac_printer_layout.proofs.DocLines.{each}
use Rattle.wac_printer_layout.proofs.Fine.{Fine, fine, accepted}

-- no character is cut beside an ASCII byte
before_byte : (text front rest : List ℕ) (b : ℕ) → text ≡ front ++ b ∷ rest → b < 128 → IsCharBoundary text (length front)
before_byte text front rest b e h =
    let byte : get_or text (length front) 0 ≡ b = ap (λ t. get_or t (length front) 0) e ∙ get_or-append_seam front b rest 0 in
    IsCharBoundary-before_ascii text (length front) (omega (arith, ap length e, length-append front (b ∷ rest))) (omega (arith, byte))

after_byte : (text front rest : List ℕ) (b n : ℕ) → IsUtf8 text → text ≡ front ++ b ∷ rest → b < 128 → n ≡ suc (length front) → IsCharBoundary text n
after_byte text front rest b n utf8 e h is =
    let byte : get_or text (length front) 0 ≡ b = ap (λ t. get_or t (length front) 0) e ∙ get_or-append_seam front b rest 0 in
    let one : length front + 1 ≡ n = omega (arith, is) in
    subst (IsCharBoundary text) one (IsCharBoundary-after_ascii text (length front) utf8 (omega (arith, ap length e, length-append front (b ∷ rest))) (omega (arith, byte)))

-- a part of a gap cuts no character
part_boundary : (text part next : List ℕ) → IsUtf8 text → text ≡ part ++ next → IsPart part next → IsCharBoundary text (length part)
part_boundary text part next utf8 split (inl h) =
    after_byte text [] next h.0 (length part) utf8 (split ∙ ap (λ p. p ++ next) h.1) (blank_ascii h.0 h.2) (ap length h.1)
part_boundary text part [] utf8 split (inr (inl h)) = let whole : length text ≡ length part = omega (arith, ap length split, length-append part []) in subst (IsCharBoundary text) whole (IsCharBoundary-end text)
part_boundary text part (b ∷ next) utf8 split (inr (inl h)) = before_byte text part next b split (omega (arith, h.3))
part_boundary text part next utf8 split (inr (inr h)) =
    let front = inside_front h.2 in
    let whole : text ≡ (47 ∷ 42 ∷ front.0) ++ 47 ∷ next = split ∙ ap (λ p. p ++ next) h.1 ∙ ap (λ t. 47 ∷ 42 ∷ t) front.1 in
    let len : length part ≡ suc (length (47 ∷ 42 ∷ front.0)) = omega (arith, ap length h.1, ap length front.1, length-append h.0 next, length-append front.0 (47 ∷ next)) in
    after_byte text (47 ∷ 42 ∷ front.0) next 47 (length part) utf8 whole (omega arith) len

-- the text of a doc
abbrev DocHolds : (ℕ → Type 0) → Option (List ℕ) → Type 0
DocHolds P None = Unit {0}
DocHolds P (Some t) = Holds P t

module _ (P : ℕ → Type 0) where
  after_marks : (part mark : List ℕ) (a b c : ℕ) → mark ≡ a ∷ b ∷ c ∷ [] → c < 128 → bytes_eq (take 3 part) mark ≡ true → Holds P part → Holds P (drop 3 part)
  after_marks part mark a b c is low e h =
      let front : take 3 part ≡ a ∷ b ∷ c ∷ [] = bytes_eq_is (take 3 part) mark e ∙ is in
      let whole : part ≡ (a ∷ b ∷ []) ++ c ∷ drop 3 part = sym (take-append-drop 3 part) ∙ ap (λ t. t ++ drop 3 part) front in
      holds_drop P part 3 h (after_byte part (a ∷ b ∷ []) (drop 3 part) c 3 h.0 whole low (omega arith))

  before_end : (t : List ℕ) → ends_with (codes "*/") t ≡ true → Holds P t → Holds P (take (length t - 2) t)
  before_end t e h =
      let n = length t - 2 in
      let back : drop n t ≡ 42 ∷ 47 ∷ [] = bytes_eq_is (drop n t) (codes "*/") e in
      let whole : t ≡ take n t ++ 42 ∷ 47 ∷ [] = sym (take-append-drop n t) ∙ ap (λ u. take n t ++ u) back in
      let len : length (take n t) ≡ n = length-take-le n t (omega arith) in
      holds_take P t n h (subst (IsCharBoundary t) len (before_byte t (take n t) (47 ∷ []) 42 whole (omega arith)))

  doc_holds : (part : List ℕ) → Holds P part → DocHolds P (doc_text part)
  doc_holds part h =
      let text = drop 3 part in
      cond_both (begins_with (codes "///") part) (Some (trim text)) _ (DocHolds P)
      (λ e. holds_trim P text (after_marks part (codes "///") 47 47 47 refl (omega arith) e h))
      (λ _. cond_both (begins_with (codes "/**") part && ends_with (codes "*/") text) (Some (trim (take (length text - 2) text))) None (DocHolds P)
      (λ e. let p = and_parts (begins_with (codes "/**") part) (ends_with (codes "*/") text) e in
      holds_trim P (take (length text - 2) text) (before_end text p.1 (after_marks part (codes "/**") 47 42 42 refl (omega arith) p.0 h)))
      (λ _. tt))

  abbrev pub DocsHold : List Doc → Type 0
  DocsHold docs = AllByRecursion (λ d. Holds P d.comment) docs

  part_docs : (place : ℕ) (part : List ℕ) → Holds P part → DocsHold (doc_of_part place part)
  part_docs place part h = go (doc_text part) (doc_holds part h)
    where
      go : (found : Option (List ℕ)) → DocHolds P found → DocsHold (elim found [ Some text ↦ record { comment = text; span = span place (length part) } ∷ [] | None ↦ [] ])
      go None h = tt
      go (Some t) h = (h, tt)

  both : (xs ys : List Doc) → DocsHold xs → DocsHold ys → DocsHold (xs ++ ys)
  both [] ys h k = k
  both (x ∷ xs) ys h k = (h.0, both xs ys h.1 k)

  gap_docs : (parts : List (List ℕ)) (text rest : List ℕ) (place : ℕ) → Holds P text → Gap text parts rest → DocsHold (docs_among place parts)
  gap_docs [] text rest place h g = tt
  gap_docs (part ∷ parts) text rest place h g =
      let at = part_boundary text part g.0 h.0 g.1 g.2 in
      let here : Holds P part = subst (Holds P) (ap (take (length part)) g.1 ∙ take-append_seam part g.0) (holds_take P text (length part) h at) in
      let there : Holds P g.0 = subst (Holds P) (ap (drop (length part)) g.1 ∙ drop-append_seam part g.0) (holds_drop P text (length part) h at) in
      both (doc_of_part place part) (docs_among (place + length part) parts) (part_docs place part here) (gap_docs parts g.0 rest (place + length part) there g.3)

  pub place_docs : (source : List ℕ) (place : ℕ) → Holds P source → IsCharBoundary source place → DocsHold (docs_at source place)
  place_docs source place h at =
      let text = drop place source in
      let parts = longest_gap text in
      subst DocsHold (sym (docs_in_gap source place parts.parts parts.is)) (gap_docs parts.parts text (drop (gap text) text) place (holds_drop P source place h at) parts.is)

  -- the items
  abbrev ItemHolds : Item → Type 0
  ItemHolds item = Holds P item.text × DocsHold item.docs

  pub slice_holds : (source : List ℕ) (s : Span) → Holds P source → Slices source s → Holds P (slice source s)
  slice_holds source s h b =
      let rest = holds_drop P source s.offset h b.0 in
      holds_take P (drop s.offset source) s.len rest (within source s b)
    where
      within : (source : List ℕ) (s : Span) → Slices source s → IsCharBoundary (drop s.offset source) s.len
      within source s b = let same = get_or-drop s.offset source s.len 0 in (omega (arith, b.1.0, length-drop s.offset source), λ l a. let k = b.1.1 (omega (arith, length-drop s.offset source)) (omega (arith, same)) in omega (arith, same))

  items_hold : (source : List ℕ) → Holds P source → (xs : List Item) (place : ℕ) → items_from source place ≡ xs → IsCharBoundary source place → InOrder source place xs → AllByRecursion ItemHolds xs
  items_hold source h [] place e at order = tt
  items_hold source h (x ∷ xs) place e at order =
      let docs : x.docs ≡ docs_at source place = subst (λ items. OnFirst items (λ item. item.docs ≡ docs_at source place)) e (first_docs source place) in
      let text : Holds P x.text = subst (Holds P) (sym order.3) (slice_holds source x.span h order.2) in
      ((text, subst DocsHold (sym docs) (place_docs source place h at)), items_hold source h xs (end_of x.span) (next (first_item (drop (start_of source place) source)) refl) order.2.1 order.4)
    where
      next : (found : Option (Result Token Error × ℕ)) → first_item (drop (start_of source place) source) ≡ found → items_from source (end_of x.span) ≡ xs
      next None f = let none : [] ≡ x ∷ xs = sym (items_none source place f) ∙ e in absurd cc
      next (Some found) f =
          let same : made source place found ∷ items_from source (start_of source place + found.1) ≡ x ∷ xs = sym (items_some source place found f) ∙ e in
          let first : made source place found ≡ x = cc in
          let others : items_from source (start_of source place + found.1) ≡ xs = cc in
          ap (λ item. items_from source (end_of item.span)) (sym first) ∙ others

pub items_accepted : (source : List ℕ) → IsAccepted source → AllByRecursion ItemIsAccepted (items source)
items_accepted source h =
    let all = fine source h in
    each (ItemHolds Fine) ItemIsAccepted
    (λ item k. (accepted item.text k.0, each (λ d. Holds Fine d.comment) (λ d. IsAccepted d.comment) (λ d. accepted d.comment) item.docs k.1))
    (items source) (items_hold Fine source all (items source) 0 refl (IsCharBoundary-start source h.0) (ordered source h.0))
