-- Texts with the escapes of a JSON string.
use Rattle.wac_json_text.proofs.Common.{◌≡◌, ◌≤◌, ◌<◌, ◌+◌, ◌*◌, ℕ, zero, suc, inl, inr, one-add, Bool, codes, decimal, Some, None, true, false, cond, List, [], ◌∷◌, ◌++◌, take, drop, length, get_or, append-nil, refl, sym, ap, ◌∙◌, subst, arith, ⊎_elim, Result, Ok, Err, ◌||◌, ◌&&◌, ◌⊎◌, not, nat_eq, nat_le, nat_lt, prefix_len, slice_get, AllByRecursion, IsAscii, IsUtf8, IsCharBoundary, bytes_eq, IsCharBoundary-before_ascii, IsCharBoundary-end, escape, marked, parts_text, Piece, blank, text, fresh_after, Printer, Prints, PrintError, prints_same, after-append, after-blank, goes, stops, wrote_all}
use Rattle.json.specs.Print.{escape_byte}
use Rattle.std.proofs.Math.Seq.{take-add}
use Rattle.std.proofs.lemmas.Bool.{eqb-true, leb-false, ltb-true}
use Rattle.std.proofs.lemmas.List.{take-append-drop, take_all, take_more}
use Rattle.std.proofs.lemmas.List.Sums.{prefix_len-le-length, prefix_len_stops}
use Rattle.std.proofs.lemmas.Grind.{flat_map-append}
use Rattle.std.proofs.lemmas.Str.Ascii.{IsAscii-from_all}
use Rattle.wac_lexer.proofs.States.{below, below_at}
use Rattle.wac_lexer.proofs.Texts.{bytes_eq_is}
use Rattle.wac_printer_layout.proofs.Bytes.{utf8_bytes}
use Rattle.semver.specs.Parse.{Parts}
use Rattle.wac_printer_pieces.specs.Printed.{after}
use Rattle.wac_json_text.specs.Pieces.{code_escape, is_plain, marked_pieces, version_pieces}
use Rattle.wac_json_text.specs.declared.text.TheConstants.{CODES}
use Rattle.wac_json_text.proofs.Texts.{one_text}

-- ---- bytes

implied : (a b : Bool) → a ≡ true → (not a || b) ≡ true → b ≡ true
implied true b e h = h
implied false b e h = absurd cc

each_plain : below (λ b. not (is_plain b) || bytes_eq (escape_byte b) (b ∷ [])) 256 ≡ true
unfolding escape_byte
each_plain = refl

plain_escape : (b : ℕ) → is_plain b ≡ true → b < 256 → escape_byte b ≡ b ∷ []
plain_escape b e h =
    bytes_eq_is (escape_byte b) (b ∷ [])
    (implied (is_plain b) (bytes_eq (escape_byte b) (b ∷ [])) e (below_at (λ k. not (is_plain k) || bytes_eq (escape_byte k) (k ∷ [])) 256 b each_plain h))

-- a byte that isn't plain is a control code, a quote or a backslash
pub not_plain : (b : ℕ) → is_plain b ≡ false → (b < 32) ⊎ ((b ≡ 34) ⊎ (b ≡ 92))
not_plain b e = go (nat_le 32 b) (nat_eq b 34) (nat_eq b 92) refl refl refl e
  where
    go : (low quote back : Bool) → nat_le 32 b ≡ low → nat_eq b 34 ≡ quote → nat_eq b 92 ≡ back → (low && (not quote && not back)) ≡ false → (b < 32) ⊎ ((b ≡ 34) ⊎ (b ≡ 92))
    go false quote back l q k e = inl (leb-false 32 b l)
    go true true back l q k e = inr (inl (eqb-true b 34 q))
    go true false true l q k e = inr (inr (eqb-true b 92 k))
    go true false false l q k e = absurd cc

pub not_plain_ascii : (b : ℕ) → is_plain b ≡ false → b < 128
not_plain_ascii b e = ⊎_elim (λ (l : b < 32). omega arith) (λ r. ⊎_elim (λ (q : b ≡ 34). omega arith) (λ (k : b ≡ 92). omega arith) r) (not_plain b e)

-- one that is neither of the two last is a control code
pub is_control : (b : ℕ) → is_plain b ≡ false → (b ≡ 34 → ⊥) → (b ≡ 92 → ⊥) → b < 32
is_control b e q k = ⊎_elim (λ l. l) (λ r. ⊎_elim (λ is. absurd (q is)) (λ is. absurd (k is)) r) (not_plain b e)

-- the code's table of escapes by codes
pub codes_are_ascii : IsAscii CODES.now
codes_are_ascii =
    IsAscii-from_all CODES.now (λ i d h. ltb-true (get_or CODES.now i d) 128 (below_at (λ k. nat_lt (get_or CODES.now k d) 128) 192 i refl h))

each_code : below (λ b. bytes_eq (take 6 (drop (6 * b) CODES.now)) (code_escape b)) 32 ≡ true
each_code = refl

pub code_at : (b : ℕ) → b < 32 → take 6 (drop (6 * b) CODES.now) ≡ code_escape b
code_at b h = bytes_eq_is (take 6 (drop (6 * b) CODES.now)) (code_escape b) (below_at (λ k. bytes_eq (take 6 (drop (6 * k) CODES.now)) (code_escape k)) 32 b each_code h)

-- a control code that has no letter of its own
abbrev is_lettered : ℕ → Bool
is_lettered b = nat_eq b 8 || (nat_eq b 9 || (nat_eq b 10 || (nat_eq b 12 || nat_eq b 13)))

each_coded : below (λ b. is_lettered b || bytes_eq (escape_byte b) (code_escape b)) 32 ≡ true
unfolding escape_byte
each_coded = refl

pub coded : (b : ℕ) → b < 32 → (b ≡ 8 → ⊥) → (b ≡ 9 → ⊥) → (b ≡ 10 → ⊥) → (b ≡ 12 → ⊥) → (b ≡ 13 → ⊥) → code_escape b ≡ escape_byte b
coded b low e8 e9 e10 e12 e13 =
    sym (bytes_eq_is (escape_byte b) (code_escape b)
    (go (nat_eq b 8) (nat_eq b 9) (nat_eq b 10) (nat_eq b 12) (nat_eq b 13) refl refl refl refl refl
    (below_at (λ k. is_lettered k || bytes_eq (escape_byte k) (code_escape k)) 32 b each_coded low)))
  where
    go : (a c d f g : Bool) → nat_eq b 8 ≡ a → nat_eq b 9 ≡ c → nat_eq b 10 ≡ d → nat_eq b 12 ≡ f → nat_eq b 13 ≡ g
        → ((a || (c || (d || (f || g)))) || bytes_eq (escape_byte b) (code_escape b)) ≡ true → bytes_eq (escape_byte b) (code_escape b) ≡ true
    go true c d f g u v w x y e = absurd (e8 (eqb-true b 8 u))
    go false true d f g u v w x y e = absurd (e9 (eqb-true b 9 v))
    go false false true f g u v w x y e = absurd (e10 (eqb-true b 10 w))
    go false false false true g u v w x y e = absurd (e12 (eqb-true b 12 x))
    go false false false false true u v w x y e = absurd (e13 (eqb-true b 13 y))
    go false false false false false u v w x y e = e

-- ---- runs of plain bytes

pub plain_boundary : (text : List ℕ) → IsCharBoundary text (prefix_len is_plain text)
plain_boundary text = ⊎_elim
    (λ (h : prefix_len is_plain text < length text).
    IsCharBoundary-before_ascii text (prefix_len is_plain text) h (not_plain_ascii (get_or text (prefix_len is_plain text) 0) (prefix_len_stops is_plain text 0 h)))
    (λ (e : prefix_len is_plain text ≡ length text). subst (IsCharBoundary text) (sym e) (IsCharBoundary-end text))
    (split (prefix_len is_plain text) (length text) (prefix_len-le-length is_plain text))
  where
    split : (n m : ℕ) → n ≤ m → (n < m) ⊎ (n ≡ m)
    split n m h = search arith

plain_more : (b n : ℕ) (text : List ℕ) (p : Bool) → is_plain b ≡ p → b < 256 → escape (take n text) ≡ take n text → escape (take (cond p (1 + n) 0) (b ∷ text)) ≡ take (cond p (1 + n) 0) (b ∷ text)
plain_more b n text false e h rest = refl
plain_more b n text true e h rest =
    subst (λ k. escape (take k (b ∷ text)) ≡ take k (b ∷ text)) (sym (one-add n)) (λ i. plain_escape b e h i ++ rest i)

plain_run : (bytes : List ℕ) → AllByRecursion (λ b. b < 256) bytes → escape (take (prefix_len is_plain bytes) bytes) ≡ take (prefix_len is_plain bytes) bytes
plain_run [] each = refl
plain_run (b ∷ bytes) each = plain_more b (prefix_len is_plain bytes) bytes (is_plain b) refl each.0 (plain_run bytes each.1)

pub run_is : (text : List ℕ) → IsUtf8 text → escape (take (prefix_len is_plain text) text) ≡ take (prefix_len is_plain text) text
run_is text utf8 = plain_run text (utf8_bytes text utf8)

-- ---- what is written of a text, part by part

-- three texts are written as one
three_texts : (a b c : List ℕ) (p : Printer) → after (blank a ∷ blank b ∷ blank c ∷ []) p ≡ after (blank (a ++ (b ++ c)) ∷ []) p
three_texts a b c p =
    after-append (blank a ∷ []) (blank b ∷ blank c ∷ []) p
    ∙ after-append (blank b ∷ []) (blank c ∷ []) (after (blank a ∷ []) p)
    ∙ sym (one_text b c (after (blank a ∷ []) p))
    ∙ sym (one_text a (b ++ c) p)

two_texts : (a b : List ℕ) (p : Printer) → after (blank a ∷ blank b ∷ []) p ≡ after (blank (a ++ b) ∷ []) p
two_texts a b p = after-append (blank a ∷ []) (blank b ∷ []) p ∙ sym (one_text a b p)

-- a text's first part was written, and now the second
pub both : {A B : Type 0} (old mid new : Printer) (x : A) (r : Result B PrintError) (a b whole : List ℕ) → a ++ b ≡ whole → Prints old (Ok x) mid (blank a ∷ []) → Prints mid r new (blank b ∷ []) → Prints old r new (blank whole ∷ [])
both old mid new x r a b whole e h k =
    prints_same old new r (blank a ∷ blank b ∷ []) (blank whole ∷ []) (two_texts a b old ∙ ap (λ t. after (blank t ∷ []) old) e) (goes old mid new x r (blank a ∷ []) (blank b ∷ []) h k)

-- a text's first part wasn't written
pub first_fails : {A B : Type 0} (old new : Printer) (f : PrintError) (r : Result B PrintError) (a b whole : List ℕ) → a ++ b ≡ whole → r ≡ Err f → Prints {A = A} old (Err f) new (blank a ∷ []) → Prints old r new (blank whole ∷ [])
first_fails old new f r a b whole e is h =
    prints_same old new r (blank a ∷ blank b ∷ []) (blank whole ∷ []) (two_texts a b old ∙ ap (λ t. after (blank t ∷ []) old) e) (stops old new f r (blank a ∷ []) (blank b ∷ []) is h)

pub escape_parts : (n : ℕ) (text : List ℕ) → escape (take n text) ++ escape (drop n text) ≡ escape text
escape_parts n text = sym (flat_map-append escape_byte (take n text) (drop n text)) ∙ ap escape (take-append-drop n text)

pub escape_more : (n m : ℕ) (text : List ℕ) → escape (take n text) ++ escape (take m (drop n text)) ≡ escape (take (n + m) text)
escape_more n m text = sym (flat_map-append escape_byte (take n text) (take m (drop n text))) ∙ ap escape (sym (take-add n m text))

pub escape_all : (n : ℕ) (text : List ℕ) → length text ≤ n → escape (take n text) ≡ escape text
escape_all n text h = ap escape (take_all n text h)

-- what is written of a text whose first part stands in the sink, and fails then
pub then_fails : {A B : Type 0} (old mid new : Printer) (f : PrintError) (r : Result B PrintError) (a b whole : List ℕ) → old.failed ≡ false → mid ≡ after (blank a ∷ []) old → a ++ b ≡ whole → r ≡ Err f
    → Prints {A = A} mid (Err f) new (blank b ∷ []) → Prints old r new (blank whole ∷ [])
then_fails {B = B} old mid new f r a b whole ok m e is p =
    subst (λ x. Prints old x new (blank whole ∷ [])) (sym is)
    (both {A = Unit {0}} {B = B} old mid new tt (Err f) a b whole e (wrote_all old mid tt (blank a ∷ []) ok m) (record { is = p.is; keeps = p.keeps }))

pub front_goes : (old mid new : Printer) (n m : ℕ) (text rest : List ℕ) → mid ≡ after (blank (escape (take n text)) ∷ []) old → rest ≡ drop n text → new ≡ after (blank (escape (take m rest)) ∷ []) mid
    → new ≡ after (blank (escape (take (n + m) text)) ∷ []) old
front_goes old mid new n m text rest e is k =
    k
    ∙ ap (λ t. after (blank (escape (take m t)) ∷ []) mid) is
    ∙ ap (after (blank (escape (take m (drop n text))) ∷ [])) e
    ∙ sym (one_text (escape (take n text)) (escape (take m (drop n text))) old)
    ∙ ap (λ t. after (blank t ∷ []) old) (escape_more n m text)

pub nothing_written : (p : Printer) → p ≡ after (blank [] ∷ []) p
nothing_written p = sym (after-blank [] p ∙ (λ i. record p { bytes = append-nil p.bytes i }))

-- what a call returns makes no difference to what it wrote
pub as_ok : {A B : Type 0} (old new : Printer) (a : A) (b : B) (ps : List Piece) → Prints old (Ok a) new ps → Prints old (Ok b) new ps
as_ok old new a b ps p = record { is = p.is; keeps = p.keeps }

-- ---- the run that comes first, and the escape after it

pub run_front : (n : ℕ) (text run : List ℕ) → IsUtf8 text → n ≡ prefix_len is_plain text → run ≡ take n text → run ≡ escape (take n text)
run_front n text run utf8 len front = front ∙ ap (λ k. take k text) len ∙ sym (run_is text utf8) ∙ ap (λ k. escape (take k text)) (sym len)

pub after_at : (n : ℕ) (text : List ℕ) (b : ℕ) → slice_get (drop n text) 0 ≡ Some b → (n < length text) × (get_or text n 0 ≡ b)
after_at zero [] b e = absurd cc
after_at zero (x ∷ text) b e = (omega arith, cc)
after_at (suc n) [] b e = absurd cc
after_at (suc n) (x ∷ text) b e =
    let r = after_at n text b e in
    let h : n < length text = r.0 in (omega (arith, h), r.1)

pub none_after : (n : ℕ) (text : List ℕ) → slice_get (drop n text) 0 ≡ None → length text ≤ n
none_after zero [] e = omega arith
none_after zero (x ∷ text) e = absurd cc
none_after (suc n) [] e = omega arith
none_after (suc n) (x ∷ text) e = let h : length text ≤ n = none_after n text e in omega (arith, h)

pub not_plain_at : (n b : ℕ) (text : List ℕ) → n ≡ prefix_len is_plain text → n < length text → get_or text n 0 ≡ b → is_plain b ≡ false
not_plain_at n b text len h at =
    sym (ap is_plain (ap (λ k. get_or text k 0) (sym len) ∙ at)) ∙ prefix_len_stops is_plain text 0 (subst (λ k. k < length text) len h)

pub front_escaped : (n b : ℕ) (text run esc : List ℕ) → IsUtf8 text → n ≡ prefix_len is_plain text → run ≡ take n text → n < length text → get_or text n 0 ≡ b → esc ≡ escape_byte b → run ++ esc ≡ escape (take (n + 1) text)
front_escaped n b text run esc utf8 len front h at is =
    let whole : escape (take (n + 1) text) ≡ escape (take n text) ++ (escape_byte (get_or text n 0) ++ []) = ap escape (take_more text n 0 h) ∙ flat_map-append escape_byte (take n text) (get_or text n 0 ∷ []) in
    let part : esc ≡ escape_byte (get_or text n 0) ++ [] = is ∙ ap escape_byte (sym at) ∙ sym (append-nil (escape_byte (get_or text n 0))) in
    (λ i. run_front n text run utf8 len front i ++ part i) ∙ sym whole

-- ---- versions

marks_are : (space : List ℕ) (f : Bool) (pre build : List ℕ) → text space f (marked_pieces (codes "-") pre ++ marked_pieces (codes "+") build) ≡ escape (marked 45 pre ++ marked 43 build)
unfolding escape_byte
marks_are space f [] [] = refl
marks_are space f [] (b ∷ build) = ap (λ t. 43 ∷ t) (append-nil (escape (b ∷ build)))
marks_are space f (x ∷ pre) [] = ap (λ t. 45 ∷ t) (sym (flat_map-append escape_byte (x ∷ pre) []))
marks_are space f (x ∷ pre) (b ∷ build) =
    ap (λ t. 45 ∷ t) (ap (λ t. escape (x ∷ pre) ++ (43 ∷ t)) (append-nil (escape (b ∷ build))) ∙ sym (flat_map-append escape_byte (x ∷ pre) (43 ∷ b ∷ build)))

dotted : (a rest : List ℕ) → escape (a ++ (46 ∷ rest)) ≡ escape a ++ (46 ∷ escape rest)
unfolding escape_byte
dotted a rest = flat_map-append escape_byte a (46 ∷ rest)

version_text_is : (space : List ℕ) (f : Bool) (p : Parts) → text space f (version_pieces p) ≡ escape (parts_text p) ++ []
version_text_is space f p =
    let marks = marked 45 p.3 ++ marked 43 p.4 in
    (λ i. escape (decimal p.0) ++ (46 ∷ (escape (decimal p.1) ++ (46 ∷ (escape (decimal p.2) ++ marks_are space (fresh_after false (escape (decimal p.2))) p.3 p.4 i)))))
    ∙ sym (dotted (decimal p.0) (decimal p.1 ++ (46 ∷ (decimal p.2 ++ marks)))
    ∙ ap (λ t. escape (decimal p.0) ++ (46 ∷ t)) (dotted (decimal p.1) (decimal p.2 ++ marks)
    ∙ ap (λ t. escape (decimal p.1) ++ (46 ∷ t)) (flat_map-append escape_byte (decimal p.2) marks)))
    ∙ sym (append-nil (escape (parts_text p)))

pub version_is : (p : Parts) (s : Printer) → after (version_pieces p) s ≡ after (blank (escape (parts_text p)) ∷ []) s
unfolding after
version_is p s =
    let e : text s.space s.fresh (version_pieces p) ≡ text s.space s.fresh (blank (escape (parts_text p)) ∷ []) = version_text_is s.space s.fresh p in
    (λ i. record s { bytes = s.bytes ++ e i; fresh = fresh_after s.fresh (e i) })
