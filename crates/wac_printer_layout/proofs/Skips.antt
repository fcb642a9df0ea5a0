-- Reading past a blank or a comment: the items after it, with its doc.
use Rattle.wac_printer_layout.proofs.Common.{◌≡◌, ◌≢◌, ℕ, suc, ◌+◌, ◌-◌, ◌<◌, Bool, true, false, cond, List, [], ◌∷◌, ◌++◌, take, drop, length, sym, refl, ap, ◌∙◌, subst, inl, inr, arith, Option, Some, None, Result, length-append, add-zero, ◌&&◌, nat_eq, IsUtf8, trim, chars, skip_leading_whitespace, encode_utf8_all, drop-append_seam, drop-drop, chars-append, chars-IsAscii, IsUtf8-from_ascii, IsAscii-nil, IsAscii-cons, span, Item, Doc, part_len, gap, doc_text, doc_of_part, IsPart, Gap, EndsLine, docs_among, first_item, items_from, Token, Error, gap_part, part_takes, longest_gap, docs_in_gap, start_of, items_none, items_some}
use Rattle.wac_lexer.specs.Docs.{docs_at}
use Rattle.std.specs.Str.{trim_start, trim_end}
use Rattle.wac_printer_layout.specs.Joins.{AreBlanks, IsDocLine}
use Rattle.wac_printer_layout.specs.Placed.{with_docs}

-- the items of a source after a place, from where its first item begins and the docs of the place
abbrev items_by : List ℕ → ℕ → List Doc → Option (Result Token Error × ℕ) → List Item
items_by source start docs None = []
items_by source start docs (Some f) = record { token = f.0; text = take f.1 (drop start source); span = span start f.1; docs = docs } ∷ items_from source (start + f.1)

items_are : (source : List ℕ) (place : ℕ) (found : Option (Result Token Error × ℕ)) → first_item (drop (start_of source place) source) ≡ found → items_from source place ≡ items_by source (start_of source place) (docs_at source place) found
items_are source place None e = items_none source place e
items_are source place (Some f) e = items_some source place f e

more_docs : (source : List ℕ) (start : ℕ) (front docs : List Doc) (found : Option (Result Token Error × ℕ)) → items_by source start (front ++ docs) found ≡ with_docs front (items_by source start docs found)
more_docs source start front docs None = refl
more_docs source start front docs (Some f) = refl

module _ (source : List ℕ) (place : ℕ) (part rest : List ℕ) (split : drop place source ≡ part ++ rest) (is : IsPart part rest) where
  takes : (part_len (part ++ rest) ≡ length part) × (0 < length part)
  takes = part_takes part rest is

  after_part : drop (length part) (drop place source) ≡ rest
  after_part = ap (drop (length part)) split ∙ drop-append_seam part rest

  pub next : drop (place + length part) source ≡ rest
  next = sym (drop-drop (length part) place source) ∙ after_part

  gap_is : gap (drop place source) ≡ length part + gap rest
  gap_is =
      gap_part (drop place source) (length part) (ap part_len split ∙ takes.0) takes.1 (omega (arith, ap length split, length-append part rest, takes.1))
      ∙ ap (λ t. length part + gap t) after_part

  start_is : start_of source place ≡ start_of source (place + length part)
  start_is = let there : gap (drop (place + length part) source) ≡ gap rest = ap gap next in omega (arith, gap_is, there)

  docs_are : docs_at source place ≡ doc_of_part place part ++ docs_at source (place + length part)
  docs_are =
      let later = longest_gap rest in
      let after_gap : drop (gap rest) rest ≡ drop (gap (drop place source)) (drop place source) =
      ap (drop (gap rest)) (sym after_part) ∙ drop-drop (gap rest) (length part) (drop place source) ∙ ap (λ n. drop n (drop place source)) (sym gap_is) in
      let here : docs_at source place ≡ docs_among place (part ∷ later.parts) =
      docs_in_gap source place (part ∷ later.parts) (rest, split, is, subst (Gap rest later.parts) after_gap later.is) in
      let there : docs_at source (place + length part) ≡ docs_among (place + length part) later.parts =
      docs_in_gap source (place + length part) later.parts (subst (λ t. Gap t later.parts (drop (gap t) t)) (sym next) later.is) in
      here ∙ ap (λ docs. doc_of_part place part ++ docs) (sym there)

  -- reading from before a part
  pub skip : items_from source place ≡ with_docs (doc_of_part place part) (items_from source (place + length part))
  skip =
      let there = place + length part in
      let found = first_item (drop (start_of source there) source) in
      items_are source place found (ap (λ n. first_item (drop n source)) start_is)
      ∙ (λ i. items_by source (start_is i) (docs_are i) found)
      ∙ more_docs source (start_of source there) (doc_of_part place part) (docs_at source there) found
      ∙ ap (with_docs (doc_of_part place part)) (sym (items_are source there found refl))

-- blanks
no_docs : (items : List Item) → with_docs [] items ≡ items
no_docs [] = refl
no_docs (item ∷ items) = refl

never : (b : Bool) → (b && false) ≡ false
never true = refl
never false = refl

blank_no_doc : (place b : ℕ) → doc_of_part place (b ∷ []) ≡ []
blank_no_doc place b =
    let part = b ∷ [] in
    let doc_by = λ (test : Bool) (ended : Bool). cond test (Some (trim (drop 3 part))) (cond (test && ended) (Some (trim (take (length (drop 3 part) - 2) (drop 3 part)))) None) in
    let none : doc_text part ≡ None = (λ i. doc_by (never (nat_eq b 47) i) false) in
    ap (λ o. elim o [ Some text ↦ record { comment = text; span = span place (length part) } ∷ [] | None ↦ [] ]) none

pub skip_blanks : (source : List ℕ) (t rest : List ℕ) (place : ℕ) → AreBlanks t → drop place source ≡ t ++ rest → items_from source place ≡ items_from source (place + length t)
skip_blanks source [] rest place h split = ap (items_from source) (sym (add-zero place))
skip_blanks source (b ∷ t) rest place h split =
    let part : IsPart (b ∷ []) (t ++ rest) = inl (b, refl, h.0) in
    let past : place + 1 + length t ≡ place + suc (length t) = omega arith in
    skip source place (b ∷ []) (t ++ rest) split part
    ∙ ap (λ docs. with_docs docs (items_from source (place + 1))) (blank_no_doc place b)
    ∙ no_docs (items_from source (place + 1))
    ∙ skip_blanks source t rest (place + 1) h.1 (next source place (b ∷ []) (t ++ rest) split part)
    ∙ ap (items_from source) past

-- a line of docs
trim_blank : (t : List ℕ) → IsUtf8 t → trim (32 ∷ t) ≡ trim t
unfolding trim_start
trim_blank t utf8 =
    let ascii = IsAscii-cons 32 [] (omega arith) IsAscii-nil in
    let letters : chars (32 ∷ t) ≡ 32 ∷ chars t = chars-append (32 ∷ []) t (IsUtf8-from_ascii (32 ∷ []) ascii) ∙ ap (λ l. l ++ chars t) (chars-IsAscii (32 ∷ []) ascii) in
    ap (λ l. trim_end (encode_utf8_all (skip_leading_whitespace l))) letters

doc_is : (place : ℕ) (t : List ℕ) → IsDocLine t → doc_of_part place (47 ∷ 47 ∷ 47 ∷ 32 ∷ t) ≡ record { comment = t; span = span place (4 + length t) } ∷ []
doc_is place t h =
    let text : trim (32 ∷ t) ≡ t = trim_blank t h.0.0 ∙ h.1 in
    let len : suc (suc (suc (suc (length t)))) ≡ 4 + length t = omega arith in
    (λ i. record { comment = text i; span = span place (len i) } ∷ [])

pub skip_doc : (source : List ℕ) (t rest : List ℕ) (place : ℕ) → IsDocLine t → EndsLine rest → drop place source ≡ 47 ∷ 47 ∷ 47 ∷ 32 ∷ (t ++ rest)
    → items_from source place ≡ with_docs (record { comment = t; span = span place (4 + length t) } ∷ []) (items_from source (place + length (47 ∷ 47 ∷ 47 ∷ 32 ∷ t)))
skip_doc source t rest place h ends split =
    let part = 47 ∷ 47 ∷ 47 ∷ 32 ∷ t in
    let apart = λ (n : ℕ) (e : nat_eq n 10 ≡ false). ne_from n e in
    skip source place part rest split (inr (inl (47 ∷ 32 ∷ t, refl, (apart 47 refl, (apart 32 refl, h.2)), ends)))
    ∙ ap (λ docs. with_docs docs (items_from source (place + length part))) (doc_is place t h)
  where
    ne_from : (n : ℕ) → nat_eq n 10 ≡ false → n ≢ 10
    ne_from n e same = let both : true ≡ false = sym (ap (λ m. nat_eq m 10) same) ∙ e in cc
