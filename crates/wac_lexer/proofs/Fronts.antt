-- A prefix with a shape is a token, and ASCII.
use Rattle.wac_lexer.proofs.Common.{◌≡◌, ℕ, zero, suc, ◌+◌, ◌-◌, ◌<◌, ◌≤◌, Bool, true, false, cond, List, [], ◌∷◌, ◌++◌, take, length, get_or, sym, refl, ap, ◌∙◌, subst, inl, inr, ⊎_elim, arith, Option, Some, None, append_assoc, length_push, ◌&&◌, ◌||◌, nat_eq, nat_lt, nat_le, ◌==◌, concat, AllByRecursion, IsAscii, IsUtf8, IsCharBoundary, and_parts, eqb-true, ltb-true, leb-true, or_cases, eq-eqb, ne_eqb, get_or-take, length-take-le, IsAscii-append, IsCharBoundary-after_ascii, Err}
use Rattle.std.proofs.lemmas.Str.Ascii.{IsAscii-nil, IsAscii-cons}
use Rattle.wac_lexer.specs.Pattern.{Pattern, Matches, matches}
use Rattle.wac_lexer.specs.Pattern.Pattern.{Nothing, Empty, Range, Then, Or, Many}
use Rattle.wac_lexer.specs.Words.{find, fixed_texts}
use Rattle.wac_lexer.specs.Shapes.{shape_of, pattern_of, id, package_name, package_path, quoted, symbol}
use Rattle.wac_lexer.specs.Tokens.{token_of, longest_token}
use Rattle.wac_lexer.specs.Front.{longest}
use Rattle.wac_lexer.specs.Comments.{is_blank, opens}
use Rattle.wac_lexer.specs.Items.{first_item, first_char_len, fault_of, with_fault}
use Rattle.wac_lexer.specs.declared.error.Error.TheVariants.{UnexpectedToken, UnterminatedString, UnterminatedComment}
use Rattle.wac_lexer.specs.declared.token.Token.{Token}
use Rattle.wac_lexer.specs.declared.token.Token.TheVariants.{Ident, PackageName, PackagePath, String}
use Rattle.wac_lexer.specs.declared.shape.Shape.{Shape}
use Rattle.wac_lexer.specs.declared.shape.Shape.TheVariants.{Word, Name, Path, Quoted, Symbol}
use Rattle.wac_lexer.proofs.Patterns.{matches_meant}
use Rattle.wac_lexer.proofs.States.{one_longer}
use Rattle.wac_lexer.proofs.Texts.{find_shaped, fixed_shaped, shape_by, token_by, shape_matches}

-- what has no shape is no token
no_tests : (i n p q s : Bool) → shape_by i n p q s ≡ None → token_by None i n p q ≡ None
no_tests true n p q s e = let f : Some Word ≡ None = e in absurd cc
no_tests false true p q s e = let f : Some Name ≡ None = e in absurd cc
no_tests false false true q s e = let f : Some Path ≡ None = e in absurd cc
no_tests false false false true s e = let f : Some Quoted ≡ None = e in absurd cc
no_tests false false false false s e = refl

pub no_shape_no_token : (text : List ℕ) → shape_of text ≡ None → token_of text ≡ None
no_shape_no_token text e = go (find text fixed_texts) refl
  where
    go : (entry : Option Token) → find text fixed_texts ≡ entry → token_by (find text fixed_texts) (matches id text) (matches package_name text) (matches package_path text) (matches quoted text) ≡ None
    go (Some token) f = absurd (find_shaped fixed_texts text token fixed_shaped f e)
    go None f =
        ap (λ entry. token_by entry (matches id text) (matches package_name text) (matches package_path text) (matches quoted text)) f
        ∙ no_tests (matches id text) (matches package_name text) (matches package_path text) (matches quoted text) (matches symbol text) e

-- the token of a text that has no entry, by its shape
abbrev pub plain_token : Shape → Option Token
plain_token Word = Some Ident
plain_token Name = Some PackageName
plain_token Path = Some PackagePath
plain_token Quoted = Some String
plain_token Symbol = None

plain_tests : (i n p q s : Bool) (shape : Shape) → shape_by i n p q s ≡ Some shape → token_by None i n p q ≡ plain_token shape
plain_tests true n p q s shape e = let f : Some Word ≡ Some shape = e in let g : Word ≡ shape = cc in ap plain_token g
plain_tests false true p q s shape e = let f : Some Name ≡ Some shape = e in let g : Name ≡ shape = cc in ap plain_token g
plain_tests false false true q s shape e = let f : Some Path ≡ Some shape = e in let g : Path ≡ shape = cc in ap plain_token g
plain_tests false false false true s shape e = let f : Some Quoted ≡ Some shape = e in let g : Quoted ≡ shape = cc in ap plain_token g
plain_tests false false false false true shape e = let f : Some Symbol ≡ Some shape = e in let g : Symbol ≡ shape = cc in ap plain_token g
plain_tests false false false false false shape e = let f : None ≡ Some shape = e in absurd cc

-- a text that is in the tables is that token
pub token_fixed : (text : List ℕ) (token : Token) → find text fixed_texts ≡ Some token → token_of text ≡ Some token
token_fixed text token e = ap (λ entry. token_by entry (matches id text) (matches package_name text) (matches package_path text) (matches quoted text)) e

pub token_plain : (text : List ℕ) (shape : Shape) → find text fixed_texts ≡ None → shape_of text ≡ Some shape → token_of text ≡ plain_token shape
token_plain text shape none e =
    ap (λ entry. token_by entry (matches id text) (matches package_name text) (matches package_path text) (matches quoted text)) none
    ∙ plain_tests (matches id text) (matches package_name text) (matches package_path text) (matches quoted text) (matches symbol text) shape e

abbrev pub one_token : ℕ → Option Token → Option (ℕ × Token) → Option (ℕ × Token)
one_token n token found = elim token [ Some k ↦ Some (n, k) | None ↦ found ]

-- the longest prefix with a shape is the longest one that is a token
abbrev pub Fronts : List ℕ → ℕ → Option (ℕ × Shape) → Option (ℕ × Token) → Type 0
Fronts text n None found = found ≡ None
Fronts text n (Some front) found =
    (shape_of (take front.0 text) ≡ Some front.1) × (0 < front.0) × (front.0 ≤ n)
    × ((token : Token) → token_of (take front.0 text) ≡ Some token → found ≡ Some (front.0, token))

fronts_more : (text : List ℕ) (n : ℕ) (front : Option (ℕ × Shape)) (found : Option (ℕ × Token)) (shape : Option Shape) → Fronts text n front found → shape_of (take (suc n) text) ≡ shape
    → Fronts text (suc n) (one_longer (suc n) shape front) (one_token (suc n) (token_of (take (suc n) text)) found)
fronts_more text n front found (Some shape) h e = (e, omega arith, omega arith, λ token f. ap (λ k. one_token (suc n) k found) f)
fronts_more text n None found None h e = ap (λ k. one_token (suc n) k found) (no_shape_no_token (take (suc n) text) e) ∙ h
fronts_more text n (Some front) found None h e =
    (h.0, h.1, omega (arith, h.2), λ token f. ap (λ k. one_token (suc n) k found) (no_shape_no_token (take (suc n) text) e) ∙ h.3 token f)

pub fronts : (text : List ℕ) (n : ℕ) → Fronts text n (longest text n) (longest_token text n)
fronts text zero = refl
fronts text (suc n) = fronts_more text n (longest text n) (longest_token text n) (shape_of (take (suc n) text)) (fronts text n) refl

-- patterns of ASCII have ASCII texts
abbrev ascii : Pattern → Bool
ascii Nothing = true
ascii Empty = true
ascii (Range first last) = nat_lt last 128
ascii (Then p q) = ascii p && ascii q
ascii (Or p q) = ascii p && ascii q
ascii (Many p) = ascii p

mutual_many : (p : Pattern) (parts : List (List ℕ)) → ((text : List ℕ) → Matches p text → IsAscii text) → AllByRecursion (Matches p) parts → IsAscii (concat parts)
mutual_many p [] f h = IsAscii-nil
mutual_many p (x ∷ parts) f h = IsAscii-append x (concat parts) (f x h.0) (mutual_many p parts f h.1)

ascii_texts : (p : Pattern) → ascii p ≡ true → (text : List ℕ) → Matches p text → IsAscii text
ascii_texts Nothing e text h = absurd h
ascii_texts Empty e text h = subst IsAscii (sym h) IsAscii-nil
ascii_texts (Range first last) e text h =
    let t = and_parts (nat_le first h.0) (nat_le h.0 last) h.2 in
    subst IsAscii (sym h.1) (IsAscii-cons h.0 [] (omega (arith, leb-true h.0 last t.1, ltb-true last 128 e)) IsAscii-nil)
ascii_texts (Then p q) e text h =
    let t = and_parts (ascii p) (ascii q) e in
    subst IsAscii (sym h.2) (IsAscii-append h.0 h.1 (ascii_texts p t.0 h.0 h.3) (ascii_texts q t.1 h.1 h.4))
ascii_texts (Or p q) e text (inl h) = ascii_texts p (and_parts (ascii p) (ascii q) e).0 text h
ascii_texts (Or p q) e text (inr h) = ascii_texts q (and_parts (ascii p) (ascii q) e).1 text h
ascii_texts (Many p) e text h = subst IsAscii (sym h.1) (mutual_many p h.0 (ascii_texts p e) h.2)

-- the last byte
last_of : (xs : List ℕ) (b : ℕ) → get_or (xs ++ b ∷ []) (length xs) 0 ≡ b
last_of [] b = refl
last_of (x ∷ xs) b = last_of xs b

quoted_last : (text : List ℕ) → Matches quoted text → get_or text (length text - 1) 0 < 128
quoted_last text h =
    let xs = h.0 ++ h.4.0 in
    let b = h.4.4.0 in
    let split : text ≡ xs ++ b ∷ [] = h.2 ∙ ap (λ r. h.0 ++ r) (h.4.2 ∙ ap (λ e. h.4.0 ++ e) h.4.4.1) ∙ sym (append_assoc h.0 h.4.0 (b ∷ [])) in
    let place : length text - 1 ≡ length xs = omega (arith, ap length split, length_push xs b) in
    let test = and_parts (nat_le 34 b) (nat_le b 34) h.4.4.2 in
    let last : get_or text (length text - 1) 0 ≡ b = ap (λ t. get_or t (length text - 1) 0) split ∙ ap (λ k. get_or (xs ++ b ∷ []) k 0) place ∙ last_of xs b in
    omega (arith, last, leb-true b 34 test.1)

shape_last : (text : List ℕ) (shape : Shape) → shape_of text ≡ Some shape → get_or text (length text - 1) 0 < 128
shape_last text shape e = go shape (matches_meant (pattern_of shape) text (shape_matches text shape e))
  where
    go : (shape : Shape) → Matches (pattern_of shape) text → get_or text (length text - 1) 0 < 128
    go Word h = ascii_texts id refl text h (length text - 1)
    go Name h = ascii_texts package_name refl text h (length text - 1)
    go Path h = ascii_texts package_path refl text h (length text - 1)
    go Quoted h = quoted_last text h
    go Symbol h = ascii_texts symbol refl text h (length text - 1)

-- no character is cut after a prefix of a text that is ASCII
pub boundary_after_ascii : (text : List ℕ) (n : ℕ) → IsUtf8 text → 0 < n → n ≤ length text → get_or text (n - 1) 0 < 128 → IsCharBoundary text n
boundary_after_ascii text n utf8 positive h b =
    let back : n - 1 + 1 ≡ n = omega arith in
    subst (IsCharBoundary text) back (IsCharBoundary-after_ascii text (n - 1) utf8 (omega arith) b)

pub front_boundary : (text : List ℕ) (n : ℕ) (shape : Shape) → IsUtf8 text → 0 < n → n ≤ length text → shape_of (take n text) ≡ Some shape → IsCharBoundary text n
front_boundary text n shape utf8 positive h e =
    let last = subst (λ k. get_or (take n text) (k - 1) 0 < 128) (length-take-le n text h) (shape_last (take n text) shape e) in
    boundary_after_ascii text n utf8 positive h (subst (λ b. b < 128) (get_or-take n text (n - 1) 0 (omega arith)) last)

-- nor after blanks
pub blank_ascii : (b : ℕ) → is_blank b ≡ true → b < 128
blank_ascii b e =
    ⊎_elim (λ t. omega (arith, eqb-true b 32 t))
    (λ u. ⊎_elim (λ t. omega (arith, eqb-true b 9 t)) (λ v. ⊎_elim (λ t. omega (arith, eqb-true b 13 t)) (λ t. omega (arith, eqb-true b 10 t)) (or_cases (nat_eq b 13) (nat_eq b 10) v)) (or_cases (nat_eq b 9) (nat_eq b 13 || nat_eq b 10) u))
    (or_cases (nat_eq b 32) (nat_eq b 9 || (nat_eq b 13 || nat_eq b 10)) e)

-- what the longest match makes of a text that isn't empty and in which no comment begins
pub first_item_is : (text : List ℕ) (found : Option (ℕ × Token)) → (length text == 0) ≡ false → opens text ≡ false → longest_token text (length text) ≡ found → first_item text ≡ with_fault found (fault_of text)
first_item_is text found e o f =
    (λ i. cond (e i) None (cond (o i) (Some (Err UnterminatedComment, length text)) (with_fault (f i) (fault_of text))))

pub fault_quote : (text : List ℕ) → get_or text 0 0 ≡ 34 → fault_of text ≡ (Err UnterminatedString, 1)
fault_quote text e = ap (λ b. cond b (Err UnterminatedString, 1) (Err UnexpectedToken, first_char_len text)) (eq-eqb (get_or text 0 0) 34 e)

pub fault_other : (text : List ℕ) → (get_or text 0 0 ≡ 34 → ⊥) → fault_of text ≡ (Err UnexpectedToken, first_char_len text)
fault_other text e = ap (λ b. cond b (Err UnterminatedString, 1) (Err UnexpectedToken, first_char_len text)) (ne_eqb (get_or text 0 0) 34 e)
