-- One step of the test of a source's characters.
use Rattle.wac_lexer.proofs.Common.{add-zero, zero-add, one-add, add_assoc, ◌≡◌, ℕ, zero, suc, ◌+◌, ◌<◌, ◌≤◌, true, false, cond, List, [], ◌∷◌, ◌++◌, take, drop, length, sym, refl, ap, ◌∙◌, subst, ⊎_elim, arith, Option, Some, None, sum_by, ◌||◌, not, nat_eq, nat_le, is_none, AllByRecursion, list_all, prefix_len, encode_utf8, len_utf8, chars, IsUtf8, IsCharBoundary, and_parts, and_from, or_cases, eqb-true, leb-true, false≢true, cases_Bool, take-add, drop-append_seam, drop-drop, sum_by-cons, prefix_len-le-length, chars_past_char, chars-nil, encode_ascii, length-encode, IsUtf8-past_char, IsUtf8-drop, IsCharBoundary-from_rest, IsCharBoundary-from_drop}
use Rattle.std.specs.Prelude.{MatchOption}
use Rattle.std.proofs.lemmas.List.Folds.{list_all-append}
use Rattle.wac_lexer.specs.Span.{Span, span}
use Rattle.wac_lexer.specs.Characters.{fault_of, is_within, is_plain, refused_from, refused, IsFirstRefused}
use Rattle.wac_lexer.specs.declared.error.Error.{Error}
use Rattle.wac_lexer.proofs.States.{below, below_at}

abbrev refused_by : Option Error → Span → Option (Error × Span) → Option (Error × Span)
refused_by fault at later = elim fault [ Some f ↦ Some (f, at) | None ↦ later ]

module _ (place : ℕ) (bs rest : List ℕ) (c : ℕ) (utf8 : IsUtf8 bs) (begins : bs ≡ encode_utf8 c ++ rest) where
  refused_step : (fault : Option Error) → fault_of c ≡ fault → refused_from place (chars bs) ≡ refused_by fault (span place (len_utf8 c)) (refused_from (place + len_utf8 c) (chars rest))
  refused_step fault e =
      ap (refused_from place) (chars_past_char bs rest c utf8 begins)
      ∙ ap (λ f. refused_by f (span place (len_utf8 c)) (refused_from (place + len_utf8 c) (chars rest))) e

  pub refused_here : (fault : Error) → fault_of c ≡ Some fault → refused_from place (chars bs) ≡ Some (fault, span place (len_utf8 c))
  refused_here fault e = refused_step (Some fault) e

  pub refused_later : fault_of c ≡ None → refused_from place (chars bs) ≡ refused_from (place + len_utf8 c) (chars rest)
  refused_later e = refused_step None e

pub refused_end : (place : ℕ) (bs : List ℕ) → length bs ≡ 0 → refused_from place (chars bs) ≡ None
refused_end place [] e = ap (refused_from place) chars-nil
refused_end place (b ∷ bs) e = absurd cc

-- a character that passes, at a place of the whole text
pub passes_char : (source rest : List ℕ) (place c : ℕ) → IsUtf8 (drop place source) → drop place source ≡ encode_utf8 c ++ rest → fault_of c ≡ None
    → refused_from place (chars (drop place source)) ≡ refused_from (place + len_utf8 c) (chars (drop (place + len_utf8 c) source))
passes_char source rest place c utf8 begins none =
    let after : drop (len_utf8 c) (drop place source) ≡ rest = (λ i. drop (sym (length-encode c) i) (begins i)) ∙ drop-append_seam (encode_utf8 c) rest in
    refused_later place (drop place source) rest c utf8 begins none
    ∙ ap (λ t. refused_from (place + len_utf8 c) (chars t)) (sym after ∙ drop-drop (len_utf8 c) place source)

-- a plain byte is a character that passes
each_plain : below (λ b. not (is_plain b) || is_none (fault_of b)) 128 ≡ true
each_plain = refl

plain_ascii : (b : ℕ) → is_plain b ≡ true → b < 128
plain_ascii b e =
    ⊎_elim (λ t. let u = and_parts (nat_le 0x20 b) (nat_le b 0x7e) t in omega (arith, leb-true b 0x7e u.1))
    (λ u. ⊎_elim (λ t. omega (arith, eqb-true b 10 t))
    (λ v. ⊎_elim (λ t. omega (arith, eqb-true b 9 t)) (λ t. omega (arith, eqb-true b 13 t)) (or_cases (nat_eq b 9) (nat_eq b 13) v))
    (or_cases (nat_eq b 10) (nat_eq b 9 || nat_eq b 13) u))
    (or_cases (is_within 0x20 0x7e b) (nat_eq b 10 || (nat_eq b 9 || nat_eq b 13)) e)

plain_none : (b : ℕ) → is_plain b ≡ true → fault_of b ≡ None
plain_none b e = go (fault_of b) (below_at (λ k. not (is_plain k) || is_none (fault_of k)) 128 b each_plain (plain_ascii b e))
  where
    go : (fault : Option Error) → (not (is_plain b) || is_none fault) ≡ true → fault ≡ None
    go None t = refl
    go (Some fault) t = absurd (false≢true (ap (λ v. not v || false) (sym e) ∙ t))

-- one block more
pub blocks_more : (bytes : List ℕ) (i n : ℕ) → list_all is_plain (take i bytes) ≡ true → list_all is_plain (take n (drop i bytes)) ≡ true → list_all is_plain (take (i + n) bytes) ≡ true
blocks_more bytes i n before block =
    ap (list_all is_plain) (take-add i n bytes)
    ∙ list_all-append is_plain (take i bytes) (take n (drop i bytes))
    ∙ and_from (list_all is_plain (take i bytes)) (list_all is_plain (take n (drop i bytes))) before block

-- what comes after blocks of plain bytes
pub blocks_len : (bytes : List ℕ) (i : ℕ) → i ≤ length bytes → list_all is_plain (take i bytes) ≡ true → i + prefix_len is_plain (drop i bytes) ≡ prefix_len is_plain bytes
blocks_len bytes zero within plain = zero-add _
blocks_len [] (suc i) within plain = absurd (omega arith)
blocks_len (b ∷ bytes) (suc i) within plain =
    let parts = and_parts (is_plain b) (list_all is_plain (take i bytes)) plain in
    let later = blocks_len bytes i (omega arith) parts.1 in
    let here : 1 + prefix_len is_plain bytes ≡ prefix_len is_plain (b ∷ bytes) = sym (ap (λ v. cond v (1 + prefix_len is_plain bytes) 0) parts.0) in
    omega (arith, later, here)

-- the plain bytes that come first, as characters
plain_front : (place : ℕ) (bs : List ℕ) → IsUtf8 bs
    → IsUtf8 (drop (prefix_len is_plain bs) bs) × (refused_from (place + prefix_len is_plain bs) (chars (drop (prefix_len is_plain bs) bs)) ≡ refused_from place (chars bs))
plain_front place [] utf8 = (utf8, ap (λ n. refused_from n (chars [])) (add-zero place))
plain_front place (b ∷ bs) utf8 = ⊎_elim (passes (plain_front (place + len_utf8 b) bs)) stops (cases_Bool (is_plain b))
  where
    n : ℕ
    n = prefix_len is_plain bs

    Front : ℕ → Type 0
    Front k = IsUtf8 (drop k (b ∷ bs)) × (refused_from (place + k) (chars (drop k (b ∷ bs))) ≡ refused_from place (chars (b ∷ bs)))

    stops : is_plain b ≡ false → Front (prefix_len is_plain (b ∷ bs))
    stops e = subst Front (sym (ap (λ v. cond v (1 + n) 0) e)) (utf8, ap (λ k. refused_from k (chars (b ∷ bs))) (add-zero place))

    passes : (IsUtf8 bs → IsUtf8 (drop n bs) × (refused_from (place + len_utf8 b + n) (chars (drop n bs)) ≡ refused_from (place + len_utf8 b) (chars bs)))
        → is_plain b ≡ true → Front (prefix_len is_plain (b ∷ bs))
    passes after e =
        let whole : b ∷ bs ≡ encode_utf8 b ++ bs = ap (λ t. t ++ bs) (sym (encode_ascii b (plain_ascii b e))) in
        let later = after (IsUtf8-past_char (b ∷ bs) bs b utf8 whole) in
        let one : len_utf8 b ≡ 1 = sym (length-encode b) ∙ ap length (encode_ascii b (plain_ascii b e)) in
        let at : place + suc n ≡ place + len_utf8 b + n = omega (arith, one) in
        let here : Front (suc n) = (later.0, ap (λ k. refused_from k (chars (drop n bs))) at ∙ later.1 ∙ sym (refused_later place (b ∷ bs) bs b utf8 whole (plain_none b e))) in
        let len : suc n ≡ prefix_len is_plain (b ∷ bs) = sym (one-add n) ∙ sym (ap (λ v. cond v (1 + n) 0) e) in
        subst Front len here

pub plain_boundary : (source : List ℕ) (place : ℕ) → IsUtf8 source → IsCharBoundary source place → IsCharBoundary source (place + prefix_len is_plain (drop place source))
plain_boundary source place utf8 at =
    let rest = drop place source in
    let n = prefix_len is_plain rest in
    let fits : n ≤ length rest = prefix_len-le-length is_plain rest in
    let front = plain_front place rest (IsUtf8-drop source place utf8 at) in
    IsCharBoundary-from_rest source place n at.0 (IsCharBoundary-from_drop rest n fits front.0)

pub plain_passes : (source : List ℕ) (place : ℕ) → IsUtf8 source → IsCharBoundary source place
    → refused_from (place + prefix_len is_plain (drop place source)) (chars (drop (place + prefix_len is_plain (drop place source)) source)) ≡ refused_from place (chars (drop place source))
plain_passes source place utf8 at =
    let rest = drop place source in
    let n = prefix_len is_plain rest in
    ap (λ t. refused_from (place + n) (chars t)) (sym (drop-drop n place source)) ∙ (plain_front place rest (IsUtf8-drop source place utf8 at)).1

-- what is rejected is the first character that is
abbrev Refuses : ℕ → List ℕ → Option (Error × Span) → Type 0
Refuses place cs None = AllByRecursion (λ c. fault_of c ≡ None) cs
Refuses place cs (Some found) =
    (before : List ℕ) × (c : ℕ) × (after : List ℕ) × (cs ≡ before ++ c ∷ after) × AllByRecursion (λ c. fault_of c ≡ None) before
    × (fault_of c ≡ Some found.0) × (found.1 ≡ span (place + sum_by len_utf8 before) (len_utf8 c))

refuses : (place : ℕ) (cs : List ℕ) → Refuses place cs (refused_from place cs)
refuses place [] = tt
refuses place (c ∷ cs) = go (fault_of c) refl (refused_from (place + len_utf8 c) cs) (refuses (place + len_utf8 c) cs)
  where
    go : (fault : Option Error) → fault_of c ≡ fault → (later : Option (Error × Span)) → Refuses (place + len_utf8 c) cs later → Refuses place (c ∷ cs) (refused_by fault (span place (len_utf8 c)) later)
    go (Some fault) e later h = ([], c, cs, refl, tt, e, ap (λ n. span n (len_utf8 c)) (sym (add-zero place)))
    go None e None h = (e, h)
    go None e (Some found) h = (
      c ∷ h.0,
      h.1,
      h.2,
      ap (λ l. c ∷ l) h.3,
      (e, h.4),
      h.5,
      h.6 ∙ ap (λ n. span n (len_utf8 h.1)) (add_assoc place (len_utf8 c) (sum_by len_utf8 h.0) ∙ ap (λ n. place + n) (sym (sum_by-cons len_utf8 c h.0))),
    )

pub first_refused : (text : List ℕ) → MatchOption (refused text) (AllByRecursion (λ c. fault_of c ≡ None) (chars text)) (λ found. IsFirstRefused text found.0 found.1)
first_refused text = go (refused text) (refuses 0 (chars text))
  where
    go : (found : Option (Error × Span)) → Refuses 0 (chars text) found → MatchOption found (AllByRecursion (λ c. fault_of c ≡ None) (chars text)) (λ found. IsFirstRefused text found.0 found.1)
    go None h = h
    go (Some found) h =
        record {
          before = h.0;
          character = h.1;
          after = h.2;
          stands = h.3;
          passed = h.4;
          is = h.5;
          place = h.6 ∙ ap (λ n. span n (len_utf8 h.1)) (zero-add (sum_by len_utf8 h.0));
        }
