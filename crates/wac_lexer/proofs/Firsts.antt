-- What a text begins with.
use Rattle.wac_lexer.proofs.Common.{◌≡◌, ◌≢◌, ℕ, zero, suc, ◌<◌, ◌≤◌, true, false, cond, List, [], ◌∷◌, ◌++◌, take, length, sym, refl, ap, ◌∙◌, subst, arith, inl, inr, ⊎_elim, Option, Some, None, Result, Err, length-append, append_assoc, ◌⊎◌, nat_eq, nat_le, ◌==◌, concat, AllByRecursion, take-append_seam, cases_Bool, cases_lt, cond_both, ne_eqb, eqb-true, eq-eqb, and_parts, and_from, true≢false, leb-true, le-leb}
use Rattle.std.specs.Prelude.{MatchOption}
use Rattle.wac_lexer.specs.Pattern.{Pattern, Matches, matches, may_stop, after, after_all}
use Rattle.wac_lexer.specs.Pattern.Pattern.{Nothing, Range, Or}
use Rattle.wac_lexer.specs.Shapes.{shape_of, pattern_of, quoted}
use Rattle.wac_lexer.specs.Comments.{opens}
use Rattle.wac_lexer.specs.Tokens.{longest_token, IsToken, IsLongest, HasNone}
use Rattle.wac_lexer.specs.Tokens.IsToken.{string}
use Rattle.wac_lexer.specs.Items.{first_item, fault_of, with_fault}
use Rattle.wac_lexer.specs.First.{IsFirst}
use Rattle.wac_lexer.specs.First.IsFirst.{comment, quote, token, character}
use Rattle.wac_lexer.specs.declared.token.Token.{Token}
use Rattle.wac_lexer.specs.declared.token.Token.TheVariants.{String}
use Rattle.wac_lexer.specs.declared.error.Error.{Error}
use Rattle.wac_lexer.specs.declared.error.Error.TheVariants.{UnterminatedComment}
use Rattle.wac_lexer.specs.declared.shape.Shape.{Shape}
use Rattle.wac_lexer.specs.declared.shape.Shape.TheVariants as shapes
use Rattle.wac_lexer.proofs.Patterns.{matches_meant}
use Rattle.wac_lexer.proofs.States.{after_nothing}
use Rattle.wac_lexer.proofs.Texts.{shape_matches}
use Rattle.wac_lexer.proofs.Fronts.{no_shape_no_token, first_item_is, fault_quote, fault_other}
use Rattle.wac_lexer.proofs.Longest.{law}
use Rattle.wac_lexer.proofs.Sorts.{token_found, one_token}

abbrev NoQuote : List ℕ → Type 0
NoQuote text = AllByRecursion (λ b. b ≢ 34) text

abbrev AreBytes : List ℕ → Type 0
AreBytes text = AllByRecursion (λ b. b < 256) text

-- the next quote, if there is one
next_quote : (text : List ℕ) → NoQuote text ⊎ ((body : List ℕ) × (rest : List ℕ) × (text ≡ body ++ 34 ∷ rest) × NoQuote body)
next_quote [] = inl tt
next_quote (b ∷ text) =
    ⊎_elim
    (λ e. inr ([], text, ap (λ c. c ∷ text) (eqb-true b 34 e), tt))
    (λ e.
    let other : b ≢ 34 = λ same. true≢false (sym (eq-eqb b 34 same) ∙ e) in
    ⊎_elim (λ none. inl (other, none)) (λ h. inr (b ∷ h.0, h.1, ap (λ t. b ∷ t) h.2, (other, h.3))) (next_quote text))
    (cases_Bool (nat_eq b 34))

-- a quote, a body without quotes, and a quote make a string
abbrev no_quote : Pattern
no_quote = Or (Range 0 33) (Range 35 255)

body_byte : (b : ℕ) → b ≢ 34 → b < 256 → Matches no_quote (b ∷ [])
body_byte b other small =
    ⊎_elim
    (λ (low : b < 34). inl (b, refl, and_from (nat_le 0 b) (nat_le b 33) (le-leb 0 b (omega arith)) (le-leb b 33 (omega arith))))
    (λ (high : 34 ≤ b). inr (b, refl, and_from (nat_le 35 b) (nat_le b 255) (le-leb 35 b (omega arith)) (le-leb b 255 (omega arith))))
    (cases_lt b 34)

body_bytes : (body : List ℕ) → NoQuote body → AreBytes body → (parts : List (List ℕ)) × (body ≡ concat parts) × AllByRecursion (Matches no_quote) parts
body_bytes [] none small = ([], refl, tt)
body_bytes (b ∷ body) none small =
    let later = body_bytes body none.1 small.1 in
    ((b ∷ []) ∷ later.0, ap (λ t. b ∷ t) later.1, (body_byte b none.0 small.0, later.2))

bytes_front : (xs ys : List ℕ) → AreBytes (xs ++ ys) → AreBytes xs
bytes_front [] ys h = tt
bytes_front (x ∷ xs) ys h = (h.0, bytes_front xs ys h.1)

closed : (body : List ℕ) → NoQuote body → AreBytes body → Matches quoted (34 ∷ (body ++ 34 ∷ []))
closed body none small =
    (34 ∷ [], body ++ 34 ∷ [], refl, (34, refl, refl), (body, 34 ∷ [], refl, body_bytes body none small, (34, refl, refl)))

-- where no prefix is a token, no other quote follows a quote
open_quote : (rest : List ℕ) → AreBytes rest → HasNone (34 ∷ rest) → NoQuote rest
open_quote rest small none =
    ⊎_elim (λ h. h)
    (λ h.
    let front = 34 ∷ (h.0 ++ 34 ∷ []) in
    let split : 34 ∷ rest ≡ front ++ h.1 = ap (λ t. 34 ∷ t) (h.2 ∙ sym (append_assoc h.0 (34 ∷ []) h.1)) in
    let is : take (length front) (34 ∷ rest) ≡ front = ap (take (length front)) split ∙ take-append_seam front h.1 in
    let text = string (closed h.0 h.3 (bytes_front h.0 (34 ∷ h.1) (subst AreBytes h.2 small))) in
    absurd (none (length front) String (omega (arith, ap length split, length-append front h.1)) (subst (IsToken String) (sym is) text)))
    (next_quote rest)

-- where no other quote follows a quote, no prefix is a token
quote_last : (body : List ℕ) → NoQuote (body ++ 34 ∷ []) → ⊥
quote_last [] h = h.0 refl
quote_last (b ∷ body) h = quote_last body h.1

none_of_take : (n : ℕ) (text : List ℕ) → NoQuote text → NoQuote (take n text)
none_of_take zero [] h = tt
none_of_take zero (b ∷ text) h = tt
none_of_take (suc n) [] h = tt
none_of_take (suc n) (b ∷ text) h = (h.0, none_of_take n text h.1)

not_by : (text : List ℕ) (p : Pattern) → after 34 p ≡ Nothing → matches p (34 ∷ text) ≡ true → ⊥
not_by text p e m = true≢false (sym m ∙ ap (λ q. may_stop (after_all text q)) e ∙ ap may_stop (after_nothing text))

no_string : (text : List ℕ) → NoQuote text → Matches quoted (34 ∷ text) → ⊥
no_string text none h =
    let whole : 34 ∷ text ≡ h.3.0 ∷ h.1 = h.2 ∙ ap (λ f. f ++ h.1) h.3.1 in
    let tail : text ≡ h.1 = cc in
    let last = h.4.4.0 in
    let tests = and_parts (nat_le 34 last) (nat_le last 34) h.4.4.2 in
    let same : last ≡ 34 = omega (arith, leb-true 34 last tests.0, leb-true last 34 tests.1) in
    let split : text ≡ h.4.0 ++ 34 ∷ [] = tail ∙ h.4.2 ∙ ap (λ c. h.4.0 ++ c) (h.4.4.1 ∙ ap (λ c. c ∷ []) same) in
    quote_last h.4.0 (subst NoQuote split none)

no_shape : (text : List ℕ) → NoQuote text → (shape : Shape) → matches (pattern_of shape) (34 ∷ text) ≡ true → ⊥
no_shape text none shapes.Word m = not_by text (pattern_of shapes.Word) refl m
no_shape text none shapes.Name m = not_by text (pattern_of shapes.Name) refl m
no_shape text none shapes.Path m = not_by text (pattern_of shapes.Path) refl m
no_shape text none shapes.Quoted m = no_string text none (matches_meant quoted (34 ∷ text) m)
no_shape text none shapes.Symbol m = not_by text (pattern_of shapes.Symbol) refl m

no_token : (text : List ℕ) → NoQuote text → (found : Token) → IsToken found (34 ∷ text) → ⊥
no_token text none found is = go (shape_of (34 ∷ text)) refl
  where
    go : (shape : Option Shape) → shape_of (34 ∷ text) ≡ shape → ⊥
    go None e = let both : None ≡ Some found = sym (no_shape_no_token (34 ∷ text) e) ∙ token_found (34 ∷ text) found is in cc
    go (Some shape) e = no_shape text none shape (shape_matches (34 ∷ text) shape e)

quote_found : (rest : List ℕ) → NoQuote rest → (found : Option (ℕ × Token)) → MatchOption found (HasNone (34 ∷ rest)) (λ f. IsLongest (34 ∷ rest) f.0 f.1) → found ≡ None
quote_found rest none None h = refl
quote_found rest none (Some front) h = absurd (go front.0 h.some h.is)
  where
    go : (n : ℕ) → 0 < n → IsToken front.1 (take n (34 ∷ rest)) → ⊥
    go zero some is = omega (arith, some)
    go (suc n) some is = no_token (take n rest) (none_of_take n rest none) front.1 is

-- what is found is first
abbrev Holds : List ℕ → Option (Result Token Error × ℕ) → Type 0
Holds text None = text ≡ []
Holds text (Some found) = IsFirst text found.0 found.1

others : (text : List ℕ) → AreBytes text → (length text == 0) ≡ false → opens text ≡ false
    → (found : Option (ℕ × Token)) → MatchOption found (HasNone text) (λ f. IsLongest text f.0 f.1) → Holds text (with_fault found (fault_of text))
others text small some o (Some front) h = token o h
others [] small some o None h = absurd cc
others (b ∷ text) small some o None h =
    let fault : Result Token Error × ℕ → Type 0 = λ found. IsFirst (b ∷ text) found.0 found.1 in
    ⊎_elim
    (λ e.
    let same = eqb-true b 34 e in
    let none = open_quote text small.1 (subst (λ c. HasNone (c ∷ text)) same h) in
    subst fault (sym (fault_quote (b ∷ text) same)) (quote (text, ap (λ c. c ∷ text) same, none)))
    (λ e.
    let other : b ≢ 34 = λ same. true≢false (sym (eq-eqb b 34 same) ∙ e) in
    subst fault (sym (fault_other (b ∷ text) other)) (character o other h))
    (cases_Bool (nat_eq b 34))

empty_is : (text : List ℕ) → (length text == 0) ≡ true → text ≡ []
empty_is [] e = refl
empty_is (b ∷ text) e = absurd (omega (arith, eqb-true (length (b ∷ text)) 0 e))

holds : (text : List ℕ) → AreBytes text → Holds text (first_item text)
holds text small =
    cond_both (length text == 0) None _ (Holds text) (λ e. empty_is text e)
    (λ some. cond_both (opens text) (Some (Err UnterminatedComment, length text)) _ (Holds text)
    (λ o. comment o)
    (λ o. others text small some o (longest_token text (length text)) (law text)))

pub first_meant : (text : List ℕ) (item : Result Token Error) (n : ℕ) → AreBytes text → first_item text ≡ Some (item, n) → IsFirst text item n
first_meant text item n small e = subst (Holds text) e (holds text small)

-- what is first is found
same_front : (text : List ℕ) (n : ℕ) (found : Token) → IsLongest text n found → (other : Option (ℕ × Token)) → MatchOption other (HasNone text) (λ f. IsLongest text f.0 f.1) → other ≡ Some (n, found)
same_front text n found h None none = absurd (none n found h.within h.is)
same_front text n found h (Some front) g =
    ⊎_elim
    (λ (shorter : front.0 < n). absurd (g.longest n found shorter h.within h.is))
    (λ (at_least : n ≤ front.0).
    ⊎_elim
    (λ (longer : n < front.0). absurd (h.longest front.0 front.1 longer g.within g.is))
    (λ (at_most : front.0 ≤ n).
    let len : front.0 ≡ n = omega arith in
    let kind : front.1 ≡ found = one_token (take n text) front.1 found (subst (λ k. IsToken front.1 (take k text)) len g.is) h.is in
    (λ i. Some (len i, kind i)))
    (cases_lt n front.0))
    (cases_lt front.0 n)

no_front : (text : List ℕ) → HasNone text → (other : Option (ℕ × Token)) → MatchOption other (HasNone text) (λ f. IsLongest text f.0 f.1) → other ≡ None
no_front text none None h = refl
no_front text none (Some front) h = absurd (none front.0 front.1 h.within h.is)

opens_long : (text : List ℕ) → opens text ≡ true → (length text == 0) ≡ false
opens_long [] o = absurd cc
opens_long (b ∷ text) o = ne_eqb (length (b ∷ text)) 0 (λ e. omega arith)

quote_opens_none : (text : List ℕ) → opens (34 ∷ text) ≡ false
quote_opens_none [] = refl
quote_opens_none (b ∷ text) = refl

pub first_found : (text : List ℕ) (item : Result Token Error) (n : ℕ) → IsFirst text item n → first_item text ≡ Some (item, n)
first_found text item n (comment o) = (λ i. cond (opens_long text o i) None (cond (o i) (Some (Err UnterminatedComment, length text)) (with_fault (longest_token text (length text)) (fault_of text))))
first_found text item n (quote h) =
    let some : (length (34 ∷ h.0) == 0) ≡ false = ne_eqb (length (34 ∷ h.0)) 0 (λ e. omega arith) in
    ap first_item h.1
    ∙ first_item_is (34 ∷ h.0) None some (quote_opens_none h.0) (quote_found h.0 h.2 (longest_token (34 ∷ h.0) (length (34 ∷ h.0))) (law (34 ∷ h.0)))
    ∙ ap Some (fault_quote (34 ∷ h.0) refl)
first_found text item n (token {found = found} o h) =
    let some : (length text == 0) ≡ false = ne_eqb (length text) 0 (λ e. omega (arith, h.some, h.within)) in
    first_item_is text (Some (n, found)) some o (same_front text n found h (longest_token text (length text)) (law text))
first_found text item n (character {b = b} {text = rest} o other none) =
    let whole = b ∷ rest in
    let some : (length whole == 0) ≡ false = ne_eqb (length whole) 0 (λ e. omega arith) in
    first_item_is whole None some o (no_front whole none (longest_token whole (length whole)) (law whole))
    ∙ ap Some (fault_other whole other)
