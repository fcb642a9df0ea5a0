-- The package's name of a path and its segments lie at their spans.
use Rattle.wac_ast_base.proofs.Common.{◌≡◌, ◌<◌, ◌≤◌, ℕ, suc, ◌+◌, ◌-◌, not, List, [], ◌∷◌, take, drop, length, refl, ap, subst, ◌∙◌, arith, ⊎_elim, ◌^◌, AllByRecursion, slice_split, onto_first, position_or_len, cases_lt, cond_both, drop-drop, drop-take, drop_all, get_or-take, length-take-le, length-drop, take-take, fails_before_first, passes_at_first, position_or_len_is, prefix_len-le-length, Span, span, end_of, slice, is_slash, is_at_sign, unversioned, path_name, path_segments, PackagePath, after, located, segment_spans, package_name_span}
use Rattle.std.proofs.Common.{sym}
use Rattle.wac_ast_grammar.specs.Spelled.{spelled}

module _ (source : List ℕ) where
  -- each part is the slice at its span
  abbrev Located : ℕ → List (List ℕ) → Type 0
  Located offset parts = AllByRecursion (λ (s : List ℕ × Span). s.0 ≡ slice source s.1) (located offset parts)

  -- the text lies in the source at an offset
  abbrev StandsAt : List ℕ → ℕ → Type 0
  StandsAt text offset = take (length text) (drop offset source) ≡ text

  -- the first byte of a text, and the others
  first_of : (b : ℕ) (text : List ℕ) (offset : ℕ) → StandsAt (b ∷ text) offset → (drop offset source ≡ b ∷ drop (offset + 1) source) × StandsAt text (offset + 1)
  first_of b text offset h = go (drop offset source) refl h
    where
      go : (rest : List ℕ) → drop offset source ≡ rest → take (length (b ∷ text)) rest ≡ b ∷ text → (drop offset source ≡ b ∷ drop (offset + 1) source) × StandsAt text (offset + 1)
      go [] e k = absurd cc
      go (c ∷ rest) e k =
          let first : c ≡ b = cc in
          let others : take (length text) rest ≡ text = cc in
          let later : drop (offset + 1) source ≡ rest = sym (drop-drop 1 offset source) ∙ ap (drop 1) e in
          (e ∙ (λ i. first i ∷ sym later i), ap (take (length text)) later ∙ others)

  add_first : (b offset : ℕ) (parts : List (List ℕ)) → drop offset source ≡ b ∷ drop (offset + 1) source → Located (offset + 1) parts → Located offset (onto_first b parts)
  add_first b offset [] e h = (sym (ap (take 1) e), tt)
  add_first b offset (part ∷ others) e h =
      let here : b ∷ part ≡ take (suc (length part)) (drop offset source) = ap (λ rest. b ∷ rest) h.0 ∙ sym (ap (take (suc (length part))) e) in
      let same : after (after (offset + 1) (length part)) 1 ≡ after (after offset (suc (length part))) 1 = omega arith in
      (here, subst (λ place. Located place others) same h.1)

  pub segments_stand : (text : List ℕ) (offset : ℕ) → StandsAt text offset → offset + length text < 2 ^ 64 → Located offset (slice_split is_slash text)
  segments_stand [] offset h fits = (refl, tt)
  segments_stand (b ∷ text) offset h fits =
      let next : offset + 1 ≡ after (after offset 0) 1 = omega arith in
      let first = first_of b text offset h in
      let later = segments_stand text (offset + 1) first.1 (omega arith) in
      cond_both (is_slash b) ([] ∷ slice_split is_slash text) (onto_first b (slice_split is_slash text)) (Located offset)
      (λ e. (refl, subst (λ place. Located place (slice_split is_slash text)) next later))
      (λ e. add_first b offset (slice_split is_slash text) first.0 later)

-- of a text that lies at an offset: the name, and the segments after it
module _ (source : List ℕ) (s : Span) (within : end_of s ≤ length source) (small : length source < 2 ^ 64) where
  abbrev rest : List ℕ
  rest = drop s.offset source

  abbrev text : List ℕ
  text = slice source s

  text_len : length text ≡ s.len
  text_len = length-take-le s.len (drop s.offset source) (omega (arith, length-drop s.offset source))

  abbrev slash : ℕ
  slash = position_or_len is_slash text

  slash_within : slash ≤ s.len
  slash_within = omega (arith, prefix_len-le-length (λ b. not (is_slash b)) text, text_len)

  name_len : length (path_name text) ≡ slash
  name_len = length-take-le (position_or_len is_slash text) text (prefix_len-le-length (λ b. not (is_slash b)) text)

  name_stands : path_name text ≡ slice source (span s.offset (length (path_name text)))
  name_stands = sym (ap (λ n. take n (drop s.offset source)) name_len ∙ sym (take-take (position_or_len is_slash (slice source s)) s.len (drop s.offset source) slash_within))

  -- up to the version
  abbrev end : ℕ
  end = position_or_len is_at_sign text

  end_within : end ≤ s.len
  end_within = omega (arith, prefix_len-le-length (λ b. not (is_at_sign b)) text, text_len)

  bare_is : unversioned text ≡ take end rest
  bare_is = take-take (position_or_len is_at_sign (slice source s)) s.len (drop s.offset source) end_within

  bare_len : length (unversioned text) ≡ end
  bare_len = length-take-le (position_or_len is_at_sign text) text (prefix_len-le-length (λ b. not (is_at_sign b)) text)

  abbrev place : ℕ
  place = position_or_len is_slash (unversioned text)

  same_place : place < length (unversioned text) → slash ≡ place
  same_place h =
      let n = position_or_len is_at_sign text in
      let bare = unversioned text in
      let less : place ≤ end = omega (arith, bare_len) in
      position_or_len_is is_slash text (position_or_len is_slash bare) 0 (omega (arith, bare_len, end_within, text_len))
      (λ k l. sym (ap is_slash (get_or-take n text k 0 (omega (arith, bare_len)))) ∙ fails_before_first is_slash bare k 0 l)
      (λ l. sym (ap is_slash (get_or-take n text (position_or_len is_slash bare) 0 (omega (arith, bare_len)))) ∙ passes_at_first is_slash bare 0 h)

  segments_here : place < length (unversioned text) → StandsAt source (path_segments text) (s.offset + (place + 1))
  segments_here h =
      let n = position_or_len is_slash (unversioned text) + 1 in
      let m = end - n in
      let len : length (path_segments text) ≡ m = omega (arith, length-drop n (unversioned text), bare_len) in
      let whole : n + m ≡ end = omega (arith, bare_len) in
      ap (λ k. take k (drop (s.offset + n) source)) len
      ∙ ap (take m) (sym (drop-drop n s.offset source))
      ∙ sym (drop-take n m (drop s.offset source))
      ∙ ap (λ k. drop n (take k (drop s.offset source))) whole
      ∙ ap (drop n) (sym bare_here)
    where
      bare_here : unversioned text ≡ take end (drop s.offset source)
      bare_here = bare_is

  after_name : place < length (unversioned text) → after (after s.offset (length (path_name text))) 1 ≡ s.offset + (place + 1)
  after_name h =
      let len : length (path_name text) ≡ place = name_len ∙ same_place h in
      omega (arith, len, bare_len, end_within)

  segments_located : Located source (after (after s.offset (length (path_name text))) 1) (slice_split is_slash (path_segments text))
  segments_located =
      ⊎_elim
      (λ (h : place < length (unversioned text)).
      subst (λ k. Located source k (slice_split is_slash (path_segments text))) (sym (after_name h))
      (segments_stand source (path_segments text) (s.offset + (place + 1)) (segments_here h) (omega (arith, fits h))))
      (λ (h : length (unversioned text) ≤ place).
      subst (λ w. Located source (after (after s.offset (length (path_name text))) 1) (slice_split is_slash w)) (sym (none h)) (refl, tt))
      (cases_lt place (length (unversioned text)))
    where
      fits : place < length (unversioned text) → s.offset + (place + 1) + length (path_segments text) < 2 ^ 64
      fits h = omega (arith, length-drop (position_or_len is_slash (unversioned text) + 1) (unversioned text), bare_len, end_within)

      none : length (unversioned text) ≤ place → path_segments text ≡ []
      none h = drop_all (position_or_len is_slash (unversioned text) + 1) (unversioned text) (omega arith)

pub path_stands : (source : List ℕ) (path : PackagePath) → (spelled source).path path → end_of path.span ≤ length source → length source < 2 ^ 64
    → (path.name ≡ slice source (package_name_span path)) × AllByRecursion (λ (s : List ℕ × Span). s.0 ≡ slice source s.1) (segment_spans path)
path_stands source path h within small =
    let s = path.span in (
      subst (λ name. name ≡ slice source (span s.offset (length name))) (sym h.1) (name_stands source s within small),
      subst (λ name. Located source (after (after s.offset (length name)) 1) (slice_split is_slash path.segments)) (sym h.1)
          (subst (λ w. Located source (after (after s.offset (length (path_name (slice source s)))) 1) (slice_split is_slash w)) (sym h.2) (segments_located source s within small)),
    )
