-- The lines of a text, trimmed, are lines of docs.
use Rattle.wac_printer_layout.proofs.Common.{◌≡◌, ◌≢◌, ℕ, ◌+◌, ◌-◌, ◌/◌, ◌≤◌, Bool, true, false, cond, List, [], ◌∷◌, ◌++◌, take, length, get_or, sym, refl, ap, ◌∙◌, subst, arith, ⊎_elim, append-nil, ◌&&◌, ◌==◌, nat_lt, slice_index, if◌then◌else◌, map, AllByRecursion, slice_split, onto_first, chars, trim, lines, lines_of_parts, strip_carriage_return, and_parts, cases_Bool, cond_both, ne_eqb, eqb-true, eqb-false, encode_ascii, IsUtf8-nil, chars-nil, encodes-chars, scalars-chars, IsCharBoundary-before_ascii}
use lib.Utf8.{scalar, scalars, encode, encodes}
use Rattle.wac_printer_layout.specs.Joins.{IsDocLine}
use Rattle.wac_printer_layout.proofs.Characters.{Holds, holds-append, holds_take, holds_chars, holds_trim, trim_again, all-append}

abbrev is_lf : ℕ → Bool
is_lf b = b == 10

-- LF is the byte of no other character
high_no_lf : (b : ℕ) → 128 ≤ b → is_lf b ≡ false
high_no_lf b h = ne_eqb b 10 (λ e. omega arith)

char_no_lf : (c : ℕ) → c ≢ 10 → AllByRecursion (λ b. is_lf b ≡ false) (encode c)
unfolding encode
char_no_lf c apart =
    let None = AllByRecursion (λ (b : ℕ). is_lf b ≡ false) in
    let next = λ (n : ℕ). high_no_lf (128 + n) (omega arith) in
    cond_both (nat_lt c 128) (c ∷ []) _ None (λ e. (ne_eqb c 10 apart, tt))
    (λ _. cond_both (nat_lt c 2048) ((192 + c / 64) ∷ _ ∷ []) _ None (λ e. (high_no_lf (192 + c / 64) (omega arith), (next _, tt)))
    (λ _. cond_both (nat_lt c 65536) ((224 + c / 4096) ∷ _ ∷ _ ∷ []) ((240 + c / 262144) ∷ _ ∷ _ ∷ _ ∷ []) None
    (λ e. (high_no_lf (224 + c / 4096) (omega arith), (next _, (next _, tt))))
    (λ _. (high_no_lf (240 + c / 262144) (omega arith), (next _, (next _, (next _, tt)))))))

no_lf_bytes : (cs : List ℕ) → AllByRecursion (λ c. c ≢ 10) cs → AllByRecursion (λ b. b ≢ 10) (encodes cs)
no_lf_bytes [] h = tt
no_lf_bytes (c ∷ cs) h = all-append (λ b. b ≢ 10) (encode c) (encodes cs) (apart (encode c) (char_no_lf c h.0)) (no_lf_bytes cs h.1)
  where
    apart : (bs : List ℕ) → AllByRecursion (λ b. is_lf b ≡ false) bs → AllByRecursion (λ b. b ≢ 10) bs
    apart [] h = tt
    apart (b ∷ bs) h = (eqb-false b 10 h.0, apart bs h.1)

-- the parts between LF
abbrev parts : List ℕ → List (List ℕ)
parts bs = slice_split is_lf bs

part_longer : (bs rest first : List ℕ) (more : List (List ℕ)) → parts rest ≡ first ∷ more → AllByRecursion (λ b. is_lf b ≡ false) bs → parts (bs ++ rest) ≡ (bs ++ first) ∷ more
part_longer [] rest first more e h = e
part_longer (b ∷ bs) rest first more e h =
    ap (λ t. cond t ([] ∷ parts (bs ++ rest)) (onto_first b (parts (bs ++ rest)))) h.0 ∙ ap (onto_first b) (part_longer bs rest first more e h.1)

module _ (P : ℕ → Type 0) where
  abbrev pub InLine : ℕ → Type 0
  InLine c = P c × (c ≢ 10)

  abbrev AreParts : List (List ℕ) → Type 0
  AreParts ps = (first : List ℕ) × (more : List (List ℕ)) × (ps ≡ first ∷ more) × Holds InLine first × AllByRecursion (Holds InLine) more

  none_holds : Holds InLine []
  none_holds = (IsUtf8-nil, subst (AllByRecursion InLine) (sym chars-nil) tt)

  one_holds : (c : ℕ) → scalar c ≡ true → InLine c → Holds InLine (encode c)
  one_holds c s h = subst (Holds InLine) (append-nil (encode c)) (holds_chars InLine (c ∷ []) (λ i. s i && true) (h, tt))

  parts_hold : (cs : List ℕ) → scalars cs ≡ true → AllByRecursion P cs → AreParts (parts (encodes cs))
  parts_hold [] s h = ([], [], refl, none_holds, tt)
  parts_hold (c ∷ cs) s h =
      let t = and_parts (scalar c) (scalars cs) s in
      let later = parts_hold cs t.1 h.1 in
      ⊎_elim
      (λ e.
      let ten : c ≡ 10 = eqb-true c 10 e in
      let cut : parts (encode c ++ encodes cs) ≡ [] ∷ parts (encodes cs) = ap (λ n. parts (encode n ++ encodes cs)) ten ∙ ap (λ front. parts (front ++ encodes cs)) (encode_ascii 10 (omega arith)) in
      ([], later.0 ∷ later.1, cut ∙ ap (λ ps. [] ∷ ps) later.2, none_holds, (later.3, later.4)))
      (λ e.
      let apart = eqb-false c 10 e in (
        encode c ++ later.0,
        later.1,
        part_longer (encode c) (encodes cs) later.0 later.1 later.2 (char_no_lf c apart),
        holds-append InLine (encode c) later.0 (one_holds c t.0 (h.0, apart)) later.3,
        later.4,
      ))
      (cases_Bool (is_lf c))

  -- without the CR at the end
  stripped : (x : List ℕ) → Holds InLine x → Holds InLine (strip_carriage_return x)
  stripped [] h = h
  stripped (b ∷ x) h =
      let line = b ∷ x in
      let n = length line - 1 in
      cond_both (slice_index line n == 13) (take n line) line (Holds InLine)
      (λ e. let cr : get_or line n 0 ≡ 13 = eqb-true (slice_index line n) 13 e in holds_take InLine line n h (IsCharBoundary-before_ascii line n (omega arith) (omega (arith, cr))))
      (λ e. h)

  lines_of : (first : List ℕ) (more : List (List ℕ)) → Holds InLine first → AllByRecursion (Holds InLine) more → AllByRecursion (Holds InLine) (lines_of_parts (first ∷ more))
  lines_of first [] h hs = cond_both (length first == 0) [] (first ∷ []) (AllByRecursion (Holds InLine)) (λ e. tt) (λ e. (h, tt))
  lines_of first (x ∷ more) h hs = (stripped first h, lines_of x more hs.0 hs.1)

  pub lines_hold : (t : List ℕ) → Holds P t → AllByRecursion (Holds InLine) (lines t)
  lines_hold t h =
      let ps = parts_hold (chars t) (scalars-chars t h.0) h.1 in
      let same : parts t ≡ ps.0 ∷ ps.1 = ap parts (sym (encodes-chars t h.0)) ∙ ps.2 in
      subst (λ l. AllByRecursion (Holds InLine) (lines_of_parts l)) (sym same) (lines_of ps.0 ps.1 ps.3 ps.4)

-- a line, trimmed
weaker : (P Q : ℕ → Type 0) → ((c : ℕ) → P c → Q c) → (cs : List ℕ) → AllByRecursion P cs → AllByRecursion Q cs
weaker P Q f [] h = tt
weaker P Q f (c ∷ cs) h = (f c h.0, weaker P Q f cs h.1)

pub each : {A : Type 0} (P Q : A → Type 0) → ((a : A) → P a → Q a) → (xs : List A) → AllByRecursion P xs → AllByRecursion Q xs
each P Q f [] h = tt
each P Q f (x ∷ xs) h = (f x h.0, each P Q f xs h.1)

pub line_is : (P : ℕ → Type 0) (t : List ℕ) → Holds (InLine P) t → (trim (trim t) ≡ trim t) × AllByRecursion (λ b. b ≢ 10) (trim t)
line_is P t h =
    let again = holds_trim (InLine P) t h in
    let apart = weaker (InLine P) (λ c. c ≢ 10) (λ c p. p.1) (chars (trim t)) again.1 in
    (trim_again t h.0, subst (AllByRecursion (λ b. b ≢ 10)) (encodes-chars (trim t) again.0) (no_lf_bytes (chars (trim t)) apart))

-- a line is one line, unless it is empty
no_lf : (bs : List ℕ) → AllByRecursion (λ b. b ≢ 10) bs → AllByRecursion (λ b. is_lf b ≡ false) bs
no_lf bs h = each (λ b. b ≢ 10) (λ b. is_lf b ≡ false) (λ b. ne_eqb b 10) bs h

pub lines_again : (l : List ℕ) → IsDocLine l → map trim (lines l) ≡ (if length l == 0 then [] else l ∷ [])
lines_again l h =
    let one : parts l ≡ l ∷ [] = ap parts (sym (append-nil l)) ∙ part_longer l [] [] [] refl (no_lf l h.2) ∙ ap (λ x. x ∷ []) (append-nil l) in
    ap (λ ps. map trim (lines_of_parts ps)) one ∙ go (length l == 0)
  where
    go : (b : Bool) → map trim (cond b [] (l ∷ [])) ≡ cond b [] (l ∷ [])
    go true = refl
    go false = ap (λ x. x ∷ []) h.1
