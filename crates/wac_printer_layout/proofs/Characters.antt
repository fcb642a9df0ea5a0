-- Texts each of whose characters passes.
use Rattle.wac_printer_layout.proofs.Common.{◌≡◌, ℕ, Bool, true, false, cond, List, [], ◌∷◌, ◌++◌, take, drop, length, sym, refl, ap, ◌∙◌, subst, ⊎_elim, ◌&&◌, ◌==◌, AllByRecursion, is_whitespace, IsUtf8, IsAscii, IsCharBoundary, chars, trim, skip_leading_whitespace, drop_trailing_whitespace, and_parts, cases_Bool, cond_both, take-append-drop, chars-append, chars-IsAscii, chars-encodes, scalars-chars, IsUtf8-append, IsUtf8-from_ascii, IsUtf8-take, IsUtf8-drop}
use Rattle.std.specs.Str.{trim_start, trim_end}
use lib.Utf8.{scalar, scalars, encodes}

module _ (P : ℕ → Type 0) where
  -- each character passes
  abbrev pub Holds : List ℕ → Type 0
  Holds t = IsUtf8 t × AllByRecursion P (chars t)

  pub all-append : (a b : List ℕ) → AllByRecursion P a → AllByRecursion P b → AllByRecursion P (a ++ b)
  all-append [] b ha hb = hb
  all-append (x ∷ a) b ha hb = (ha.0, all-append a b ha.1 hb)

  pub all_front : (a b : List ℕ) → AllByRecursion P (a ++ b) → AllByRecursion P a
  all_front [] b h = tt
  all_front (x ∷ a) b h = (h.0, all_front a b h.1)

  pub all_back : (a b : List ℕ) → AllByRecursion P (a ++ b) → AllByRecursion P b
  all_back [] b h = h
  all_back (x ∷ a) b h = all_back a b h.1

  pub holds-append : (a b : List ℕ) → Holds a → Holds b → Holds (a ++ b)
  holds-append a b ha hb = (IsUtf8-append a b ha.0 hb.0, subst (AllByRecursion P) (sym (chars-append a b ha.0)) (all-append (chars a) (chars b) ha.1 hb.1))

  pub holds_take : (t : List ℕ) (n : ℕ) → Holds t → IsCharBoundary t n → Holds (take n t)
  holds_take t n h b =
      let front = IsUtf8-take t n h.0 b in
      let parts : chars (take n t) ++ chars (drop n t) ≡ chars t = sym (chars-append (take n t) (drop n t) front) ∙ ap chars (take-append-drop n t) in
      (front, all_front (chars (take n t)) (chars (drop n t)) (subst (AllByRecursion P) (sym parts) h.1))

  pub holds_drop : (t : List ℕ) (n : ℕ) → Holds t → IsCharBoundary t n → Holds (drop n t)
  holds_drop t n h b =
      let front = IsUtf8-take t n h.0 b in
      let parts : chars (take n t) ++ chars (drop n t) ≡ chars t = sym (chars-append (take n t) (drop n t) front) ∙ ap chars (take-append-drop n t) in
      (IsUtf8-drop t n h.0 b, all_back (chars (take n t)) (chars (drop n t)) (subst (AllByRecursion P) (sym parts) h.1))

  pub holds_ascii : (t : List ℕ) → IsAscii t → AllByRecursion P t → Holds t
  holds_ascii t ascii all = (IsUtf8-from_ascii t ascii, subst (AllByRecursion P) (sym (chars-IsAscii t ascii)) all)

  pub holds_chars : (cs : List ℕ) → scalars cs ≡ true → AllByRecursion P cs → Holds (encodes cs)
  holds_chars cs s all = ((cs, (s, refl)), subst (AllByRecursion P) (sym (chars-encodes cs s)) all)

  -- without white space at the ends
  skip_all : (cs : List ℕ) → AllByRecursion P cs → AllByRecursion P (skip_leading_whitespace cs)
  skip_all [] h = tt
  skip_all (c ∷ cs) h = cond_both (is_whitespace c) (skip_leading_whitespace cs) (c ∷ cs) (AllByRecursion P) (λ e. skip_all cs h.1) (λ e. h)

  drop_all_of : (cs : List ℕ) → AllByRecursion P cs → AllByRecursion P (drop_trailing_whitespace cs)
  drop_all_of [] h = tt
  drop_all_of (c ∷ cs) h = cond_both (is_whitespace c && length (drop_trailing_whitespace cs) == 0) [] (c ∷ drop_trailing_whitespace cs) (AllByRecursion P) (λ e. tt) (λ e. (h.0, drop_all_of cs h.1))

skip_scalars : (cs : List ℕ) → scalars cs ≡ true → scalars (skip_leading_whitespace cs) ≡ true
skip_scalars [] h = refl
skip_scalars (c ∷ cs) h = cond_both (is_whitespace c) (skip_leading_whitespace cs) (c ∷ cs) (λ x. scalars x ≡ true) (λ e. skip_scalars cs (and_parts (scalar c) (scalars cs) h).1) (λ e. h)

drop_scalars : (cs : List ℕ) → scalars cs ≡ true → scalars (drop_trailing_whitespace cs) ≡ true
drop_scalars [] h = refl
drop_scalars (c ∷ cs) h =
    let p = and_parts (scalar c) (scalars cs) h in
    cond_both (is_whitespace c && length (drop_trailing_whitespace cs) == 0) [] (c ∷ drop_trailing_whitespace cs) (λ x. scalars x ≡ true) (λ e. refl)
    (λ e. (λ i. p.0 i && drop_scalars cs p.1 i))

-- the characters of a trimmed text
abbrev trimmed : List ℕ → List ℕ
trimmed cs = drop_trailing_whitespace (skip_leading_whitespace cs)

trimmed_scalars : (t : List ℕ) → IsUtf8 t → scalars (trimmed (chars t)) ≡ true
trimmed_scalars t utf8 = drop_scalars (skip_leading_whitespace (chars t)) (skip_scalars (chars t) (scalars-chars t utf8))

trim_is : (t : List ℕ) → IsUtf8 t → trim t ≡ encodes (trimmed (chars t))
unfolding trim_start trim_end
trim_is t utf8 = ap (λ cs. encodes (drop_trailing_whitespace cs)) (chars-encodes (skip_leading_whitespace (chars t)) (skip_scalars (chars t) (scalars-chars t utf8)))

pub holds_trim : (P : ℕ → Type 0) (t : List ℕ) → Holds P t → Holds P (trim t)
holds_trim P t h =
    subst (Holds P) (sym (trim_is t h.0))
    (holds_chars P (trimmed (chars t)) (trimmed_scalars t h.0) (drop_all_of P (skip_leading_whitespace (chars t)) (skip_all P (chars t) h.1)))

-- trimming twice is trimming once
skip_again : (cs : List ℕ) → skip_leading_whitespace (trimmed cs) ≡ trimmed cs
skip_again [] = refl
skip_again (c ∷ cs) = ⊎_elim (white (skip_again cs)) plain (cases_Bool (is_whitespace c))
  where
    white : skip_leading_whitespace (trimmed cs) ≡ trimmed cs → is_whitespace c ≡ true → skip_leading_whitespace (trimmed (c ∷ cs)) ≡ trimmed (c ∷ cs)
    white rec e =
        let same : trimmed (c ∷ cs) ≡ trimmed cs = ap (λ b. drop_trailing_whitespace (cond b (skip_leading_whitespace cs) (c ∷ cs))) e in
        ap skip_leading_whitespace same ∙ rec ∙ sym same

    plain : is_whitespace c ≡ false → skip_leading_whitespace (trimmed (c ∷ cs)) ≡ trimmed (c ∷ cs)
    plain e =
        let rest = drop_trailing_whitespace cs in
        let same : trimmed (c ∷ cs) ≡ c ∷ rest = (λ i. drop_trailing_whitespace (cond (e i) (skip_leading_whitespace cs) (c ∷ cs))) ∙ ap (λ b. cond (b && length rest == 0) [] (c ∷ rest)) e in
        ap skip_leading_whitespace same ∙ ap (λ b. cond b (skip_leading_whitespace rest) (c ∷ rest)) e ∙ sym same

drop_again : (cs : List ℕ) → drop_trailing_whitespace (drop_trailing_whitespace cs) ≡ drop_trailing_whitespace cs
drop_again [] = refl
drop_again (c ∷ cs) = go (is_whitespace c && length rest == 0) refl (drop_again cs)
  where
    rest : List ℕ
    rest = drop_trailing_whitespace cs

    go : (b : Bool) → (is_whitespace c && length rest == 0) ≡ b → drop_trailing_whitespace rest ≡ rest → drop_trailing_whitespace (cond (is_whitespace c && length rest == 0) [] (c ∷ rest)) ≡ cond (is_whitespace c && length rest == 0) [] (c ∷ rest)
    go true e rec = ap (λ b. drop_trailing_whitespace (cond b [] (c ∷ rest))) e ∙ sym (ap (λ b. cond b [] (c ∷ rest)) e)
    go false e rec =
        ap (λ b. drop_trailing_whitespace (cond b [] (c ∷ rest))) e
        ∙ (λ i. cond (is_whitespace c && length (rec i) == 0) [] (c ∷ rec i))

pub trim_again : (t : List ℕ) → IsUtf8 t → trim (trim t) ≡ trim t
trim_again t utf8 =
    let cs = trimmed (chars t) in
    let s = trimmed_scalars t utf8 in
    let same : trimmed cs ≡ cs = ap drop_trailing_whitespace (skip_again (chars t)) ∙ drop_again (skip_leading_whitespace (chars t)) in
    ap trim (trim_is t utf8)
    ∙ trim_is (encodes cs) (cs, (s, refl))
    ∙ ap (λ l. encodes (trimmed l)) (chars-encodes cs s)
    ∙ ap encodes same
    ∙ sym (trim_is t utf8)
