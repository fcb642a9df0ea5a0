-- The tokens' tables and patterns: what the texts of a table and of a pattern are.
use Rattle.wac_lexer.proofs.Common.{◌≡◌, ℕ, Bool, true, false, cond, List, [], ◌∷◌, ◌++◌, map, sym, refl, ap, ◌∙◌, subst, inl, inr, ⊎_elim, arith, Option, Some, None, ◌&&◌, nat_eq, nat_le, is_some, bytes_eq, and_parts, eqb-true, eq-eqb, false≢true, true≢false, cases_Bool, leb-true, and_from}
use Rattle.wac_lexer.specs.Pattern.{Matches, matches}
use Rattle.wac_lexer.specs.Words.{find, keywords, symbols, fixed_texts}
use Rattle.wac_lexer.specs.Shapes.{literal, any_of, shape_of, pattern_of, id, package_name, package_path, quoted, symbol}
use Rattle.wac_lexer.specs.declared.token.Token.{Token}
use Rattle.wac_lexer.specs.declared.token.Token.TheVariants.{Ident, PackageName, PackagePath, String}
use Rattle.wac_lexer.specs.declared.shape.Shape.{Shape}
use Rattle.wac_lexer.specs.declared.shape.Shape.TheVariants.{Word, Name, Path, Quoted, Symbol}
use Rattle.wac_lexer.proofs.Patterns.{matches_meant}

-- equal texts, as a test
pub bytes_eq_is : (a b : List ℕ) → bytes_eq a b ≡ true → a ≡ b
bytes_eq_is [] [] e = refl
bytes_eq_is [] (y ∷ b) e = absurd (false≢true e)
bytes_eq_is (x ∷ a) [] e = absurd (false≢true e)
bytes_eq_is (x ∷ a) (y ∷ b) e =
    let t = and_parts (nat_eq x y) (bytes_eq a b) e in
    let head : x ≡ y = eqb-true x y t.0 in
    let tail : a ≡ b = bytes_eq_is a b t.1 in
    cc

pub bytes_eq_same : (a : List ℕ) → bytes_eq a a ≡ true
bytes_eq_same [] = refl
bytes_eq_same (x ∷ a) = and_from (nat_eq x x) (bytes_eq a a) (eq-eqb x x refl) (bytes_eq_same a)

-- a literal has one text
literal_meant : (t text : List ℕ) → Matches (literal t) text → text ≡ t
literal_meant [] text h = h
literal_meant (b ∷ t) text h =
    let rest = literal_meant t h.1 h.4 in
    let same : h.3.0 ≡ b = let x = and_parts (nat_le b h.3.0) (nat_le h.3.0 b) h.3.2 in omega (arith, leb-true b h.3.0 x.0, leb-true h.3.0 b x.1) in
    h.2 ∙ (λ i. h.3.1 i ++ rest i) ∙ ap (λ x. x ∷ t) same

-- a text of a table's patterns is in the table
find_any : (table : List (List ℕ × Token)) (text : List ℕ) → Matches (any_of (map (λ entry. entry.0) table)) text → find text table ≡ None → ⊥
find_any [] text h e = h
find_any (entry ∷ table) text (inl h) e =
    let test : bytes_eq text entry.0 ≡ true = subst (λ t. bytes_eq t entry.0 ≡ true) (sym (literal_meant entry.0 text h)) (bytes_eq_same entry.0) in
    let some : Some entry.1 ≡ None = subst (λ v. cond v (Some entry.1) (find text table) ≡ None) test e in
    cc
find_any (entry ∷ table) text (inr h) e =
    ⊎_elim
    (λ test. let some : Some entry.1 ≡ None = subst (λ v. cond v (Some entry.1) (find text table) ≡ None) test e in cc)
    (λ test. find_any table text h (subst (λ v. cond v (Some entry.1) (find text table) ≡ None) test e))
    (cases_Bool (bytes_eq text entry.0))

-- each text of the table has a shape
abbrev pub each_shaped : List (List ℕ × Token) → Bool
each_shaped [] = true
each_shaped (entry ∷ table) = is_some (shape_of entry.0) && each_shaped table

pub find_shaped : (table : List (List ℕ × Token)) (text : List ℕ) (token : Token) → each_shaped table ≡ true → find text table ≡ Some token → shape_of text ≡ None → ⊥
find_shaped [] text token all e none = let d : None ≡ Some token = e in cc
find_shaped (entry ∷ table) text token all e none =
    let t = and_parts (is_some (shape_of entry.0)) (each_shaped table) all in
    ⊎_elim
    (λ test. true≢false (sym t.0 ∙ ap (λ x. is_some (shape_of x)) (sym (bytes_eq_is text entry.0 test)) ∙ ap is_some none))
    (λ test. find_shaped table text token t.1 (subst (λ v. cond v (Some entry.1) (find text table) ≡ Some token) test e) none)
    (cases_Bool (bytes_eq text entry.0))

pub fixed_shaped : each_shaped fixed_texts ≡ true
fixed_shaped = refl

-- the token of a text by its entry and by its patterns
abbrev pub token_by : Option Token → Bool → Bool → Bool → Bool → Option Token
token_by entry i n p q =
    elim entry [
      | Some token ↦ Some token
      | None ↦ cond i (Some Ident) (cond n (Some PackageName) (cond p (Some PackagePath) (cond q (Some String) None)))
    ]

abbrev pub shape_by : Bool → Bool → Bool → Bool → Bool → Option Shape
shape_by i n p q s = cond i (Some Word) (cond n (Some Name) (cond p (Some Path) (cond q (Some Quoted) (cond s (Some Symbol) None))))

-- which test found the shape
abbrev Passed : Bool → Bool → Bool → Bool → Bool → Option Shape → Type 0
Passed i n p q s None = Unit {0}
Passed i n p q s (Some Word) = i ≡ true
Passed i n p q s (Some Name) = n ≡ true
Passed i n p q s (Some Path) = p ≡ true
Passed i n p q s (Some Quoted) = q ≡ true
Passed i n p q s (Some Symbol) = s ≡ true

passed : (i n p q s : Bool) → Passed i n p q s (shape_by i n p q s)
passed true n p q s = refl
passed false true p q s = refl
passed false false true q s = refl
passed false false false true s = refl
passed false false false false true = refl
passed false false false false false = tt

-- a text of a shape is one of the shape's pattern
pub shape_matches : (text : List ℕ) (shape : Shape) → shape_of text ≡ Some shape → matches (pattern_of shape) text ≡ true
shape_matches text shape e =
    go shape (subst (Passed (matches id text) (matches package_name text) (matches package_path text) (matches quoted text) (matches symbol text)) e
    (passed (matches id text) (matches package_name text) (matches package_path text) (matches quoted text) (matches symbol text)))
  where
    go : (shape : Shape) → Passed (matches id text) (matches package_name text) (matches package_path text) (matches quoted text) (matches symbol text) (Some shape) → matches (pattern_of shape) text ≡ true
    go Word h = h
    go Name h = h
    go Path h = h
    go Quoted h = h
    go Symbol h = h

-- a text of a symbol's shape is in the table of symbols
pub symbol_is_found : (text : List ℕ) → shape_of text ≡ Some Symbol → find text symbols ≡ None → ⊥
symbol_is_found text e none = find_any symbols text (matches_meant symbol text (shape_matches text Symbol e)) none

-- a table after another
pub find_first : (a b : List (List ℕ × Token)) (text : List ℕ) (token : Token) → find text a ≡ Some token → find text (a ++ b) ≡ Some token
find_first [] b text token e = let f : None ≡ Some token = e in absurd cc
find_first (entry ∷ a) b text token e =
    ⊎_elim
    (λ test. subst (λ v. cond v (Some entry.1) (find text (a ++ b)) ≡ Some token) (sym test) (subst (λ v. cond v (Some entry.1) (find text a) ≡ Some token) test e))
    (λ test. subst (λ v. cond v (Some entry.1) (find text (a ++ b)) ≡ Some token) (sym test) (find_first a b text token (subst (λ v. cond v (Some entry.1) (find text a) ≡ Some token) test e)))
    (cases_Bool (bytes_eq text entry.0))

pub find_next : (a b : List (List ℕ × Token)) (text : List ℕ) → find text a ≡ None → find text (a ++ b) ≡ find text b
find_next [] b text e = refl
find_next (entry ∷ a) b text e =
    ⊎_elim
    (λ test. let some : Some entry.1 ≡ None = subst (λ v. cond v (Some entry.1) (find text a) ≡ None) test e in absurd cc)
    (λ test. subst (λ v. cond v (Some entry.1) (find text (a ++ b)) ≡ find text b) (sym test) (find_next a b text (subst (λ v. cond v (Some entry.1) (find text a) ≡ None) test e)))
    (cases_Bool (bytes_eq text entry.0))

-- the texts of a table have one shape
abbrev pub is_shape : Shape → Option Shape → Bool
is_shape Word (Some Word) = true
is_shape Name (Some Name) = true
is_shape Path (Some Path) = true
is_shape Quoted (Some Quoted) = true
is_shape Symbol (Some Symbol) = true
is_shape shape found = false

pub is_shape_is : (shape : Shape) (found : Option Shape) → is_shape shape found ≡ true → found ≡ Some shape
is_shape_is Word (Some Word) e = refl
is_shape_is Name (Some Name) e = refl
is_shape_is Path (Some Path) e = refl
is_shape_is Quoted (Some Quoted) e = refl
is_shape_is Symbol (Some Symbol) e = refl
is_shape_is shape found e = absurd (false≢true e)

abbrev each_is : Shape → List (List ℕ × Token) → Bool
each_is shape [] = true
each_is shape (entry ∷ table) = is_shape shape (shape_of entry.0) && each_is shape table

found_shape : (shape : Shape) (table : List (List ℕ × Token)) (text : List ℕ) (token : Token) → each_is shape table ≡ true → find text table ≡ Some token → shape_of text ≡ Some shape
found_shape shape [] text token all e = let d : None ≡ Some token = e in absurd cc
found_shape shape (entry ∷ table) text token all e =
    let t = and_parts (is_shape shape (shape_of entry.0)) (each_is shape table) all in
    ⊎_elim
    (λ test. ap shape_of (bytes_eq_is text entry.0 test) ∙ is_shape_is shape (shape_of entry.0) t.0)
    (λ test. found_shape shape table text token t.1 (subst (λ v. cond v (Some entry.1) (find text table) ≡ Some token) test e))
    (cases_Bool (bytes_eq text entry.0))

abbrev same_shape : Shape → Shape → Bool
same_shape a b = is_shape a (Some b)

-- a text of another shape isn't in the table
not_found : (shape other : Shape) (table : List (List ℕ × Token)) (text : List ℕ) → each_is shape table ≡ true → shape_of text ≡ Some other → same_shape shape other ≡ false → find text table ≡ None
not_found shape other table text all e apart = go (find text table) refl
  where
    go : (found : Option Token) → find text table ≡ found → find text table ≡ None
    go None f = f
    go (Some token) f =
        let same : Some shape ≡ Some other = sym (found_shape shape table text token all f) ∙ e in
        let is : is_shape shape (Some shape) ≡ false = ap (is_shape shape) same ∙ apart in
        absurd (reflexive shape is)
      where
        reflexive : (shape : Shape) → is_shape shape (Some shape) ≡ false → ⊥
        reflexive Word e = true≢false e
        reflexive Name e = true≢false e
        reflexive Path e = true≢false e
        reflexive Quoted e = true≢false e
        reflexive Symbol e = true≢false e

no_symbol : (text : List ℕ) (shape : Shape) → shape_of text ≡ Some shape → same_shape Symbol shape ≡ false → find text symbols ≡ None
no_symbol text shape e apart = not_found Symbol shape symbols text refl e apart

no_keyword : (text : List ℕ) (shape : Shape) → shape_of text ≡ Some shape → same_shape Word shape ≡ false → find text keywords ≡ None
no_keyword text shape e apart = not_found Word shape keywords text refl e apart

-- a text of a word's shape is sought among the keywords alone, one of a symbol's among the symbols
pub word_found : (text : List ℕ) (token : Token) → find text keywords ≡ Some token → find text fixed_texts ≡ Some token
word_found text token e = find_first keywords symbols text token e

pub word_not_found : (text : List ℕ) → shape_of text ≡ Some Word → find text keywords ≡ None → find text fixed_texts ≡ None
word_not_found text e none = find_next keywords symbols text none ∙ no_symbol text Word e refl

pub symbol_found : (text : List ℕ) (token : Token) → shape_of text ≡ Some Symbol → find text symbols ≡ Some token → find text fixed_texts ≡ Some token
symbol_found text token e found = find_next keywords symbols text (no_keyword text Symbol e refl) ∙ found

pub other_not_found : (text : List ℕ) (shape : Shape) → shape_of text ≡ Some shape → same_shape Word shape ≡ false → same_shape Symbol shape ≡ false → find text fixed_texts ≡ None
other_not_found text shape e word symbol = find_next keywords symbols text (no_keyword text shape e word) ∙ no_symbol text shape e symbol
