-- A text has at most one of the shapes, and is at most one token.
use Rattle.wac_lexer.proofs.Common.{◌≡◌, ℕ, ◌<◌, Bool, true, false, cond, List, [], ◌∷◌, ◌++◌, sym, refl, ap, ◌∙◌, subst, inl, inr, ⊎_elim, arith, Option, Some, None, append_assoc, ◌&&◌, ◌||◌, not, nat_lt, nat_le, is_none, concat, AllByRecursion, bytes_eq, and_parts, false≢true, cases_Bool, ltb-true, leb-true}
use Rattle.wac_lexer.specs.Pattern.{Pattern, Matches, matches, may_stop}
use Rattle.wac_lexer.specs.Pattern.Pattern.{Nothing, Empty, Range, Then, Or, Many}
use Rattle.wac_lexer.specs.Words.{find, fixed_texts, keywords, symbols}
use Rattle.wac_lexer.specs.Shapes.{shape_of, pattern_of, id, package_name, package_path, quoted, symbol}
use Rattle.wac_lexer.specs.Tokens.{token_of, InTable, IsToken}
use Rattle.wac_lexer.specs.Tokens.IsToken.{fixed, identifier, string, name, path}
use Rattle.wac_lexer.specs.Automaton.{shape_at, step_of, class_of}
use Rattle.wac_lexer.specs.declared.token.Token.{Token}
use Rattle.wac_lexer.specs.declared.token.Token.TheVariants.{Ident, PackageName, PackagePath, String}
use Rattle.wac_lexer.specs.declared.shape.Shape.{Shape}
use Rattle.wac_lexer.specs.declared.shape.Shape.TheVariants as shapes
use Rattle.wac_lexer.specs.Automaton.Package.{Name, Path}
use Rattle.wac_lexer.specs.Automaton.Part.{First, Later}
use Rattle.wac_lexer.specs.Automaton.{State}
use Rattle.wac_lexer.specs.Automaton.State.{Start, Joined, Small, Capital, After, Version, Digits, Point, Tail, Inside, Closed, Minus, OneDot, TwoDots, Ended, Dead}
use Rattle.wac_lexer.proofs.Patterns.{matches_made, matches_meant}
use Rattle.wac_lexer.proofs.States.{Reads, rest_of, reads_none, reads_more, shape_is}
use Rattle.wac_lexer.proofs.Texts.{bytes_eq_is, bytes_eq_same, is_shape, is_shape_is, find_first, word_not_found, other_not_found, token_by}
use Rattle.wac_lexer.proofs.Fronts.{token_fixed, token_plain}

-- the texts of the patterns are bytes
abbrev pub AreBytes : List ℕ → Type 0
AreBytes text = AllByRecursion (λ b. b < 256) text

abbrev of_bytes : Pattern → Bool
of_bytes Nothing = true
of_bytes Empty = true
of_bytes (Range first last) = nat_lt last 256
of_bytes (Then p q) = of_bytes p && of_bytes q
of_bytes (Or p q) = of_bytes p && of_bytes q
of_bytes (Many p) = of_bytes p

bytes-append : (xs ys : List ℕ) → AreBytes xs → AreBytes ys → AreBytes (xs ++ ys)
bytes-append [] ys a b = b
bytes-append (x ∷ xs) ys a b = (a.0, bytes-append xs ys a.1 b)

many_bytes : (p : Pattern) (parts : List (List ℕ)) → ((text : List ℕ) → Matches p text → AreBytes text) → AllByRecursion (Matches p) parts → AreBytes (concat parts)
many_bytes p [] f h = tt
many_bytes p (x ∷ parts) f h = bytes-append x (concat parts) (f x h.0) (many_bytes p parts f h.1)

bytes_of : (p : Pattern) → of_bytes p ≡ true → (text : List ℕ) → Matches p text → AreBytes text
bytes_of Nothing e text h = absurd h
bytes_of Empty e text h = subst AreBytes (sym h) tt
bytes_of (Range first last) e text h =
    let t = and_parts (nat_le first h.0) (nat_le h.0 last) h.2 in
    let below : h.0 < 256 = omega (arith, leb-true h.0 last t.1, ltb-true last 256 e) in
    subst AreBytes (sym h.1) (below, tt)
bytes_of (Then p q) e text h =
    let t = and_parts (of_bytes p) (of_bytes q) e in
    subst AreBytes (sym h.2) (bytes-append h.0 h.1 (bytes_of p t.0 h.0 h.3) (bytes_of q t.1 h.1 h.4))
bytes_of (Or p q) e text (inl h) = bytes_of p (and_parts (of_bytes p) (of_bytes q) e).0 text h
bytes_of (Or p q) e text (inr h) = bytes_of q (and_parts (of_bytes p) (of_bytes q) e).1 text h
bytes_of (Many p) e text h = subst AreBytes (sym h.1) (many_bytes p h.0 (bytes_of p e) h.2)

pub shape_bytes : (shape : Shape) (text : List ℕ) → Matches (pattern_of shape) text → AreBytes text
shape_bytes shapes.Word text h = bytes_of id refl text h
shape_bytes shapes.Name text h = bytes_of package_name refl text h
shape_bytes shapes.Path text h = bytes_of package_path refl text h
shape_bytes shapes.Quoted text h = bytes_of quoted refl text h
shape_bytes shapes.Symbol text h = bytes_of symbol refl text h

-- each text of bytes leads to a state
pub state_after : (before rest : List ℕ) (state : State) → Reads state before → AreBytes rest → (next : State) × Reads next (before ++ rest)
state_after before [] state r h = (state, subst (Reads state) (sym (append-none before)) r)
  where
    append-none : (xs : List ℕ) → xs ++ [] ≡ xs
    append-none [] = refl
    append-none (x ∷ xs) = ap (λ l. x ∷ l) (append-none xs)
state_after before (b ∷ rest) state r h =
    let next = state_after (before ++ b ∷ []) rest (step_of state (class_of b)) (reads_more state before b r h.0) h.1 in
    (next.0, subst (Reads next.0) (append_assoc before (b ∷ []) rest) next.1)

-- a state ends the texts of one shape alone
abbrev stops_with : State → Shape → Bool
stops_with state shape = not (may_stop (rest_of state shape)) || is_shape shape (shape_at state)

abbrev stops_once : State → Bool
stops_once state =
    stops_with state shapes.Word && (stops_with state shapes.Name && (stops_with state shapes.Path
    && (stops_with state shapes.Quoted && stops_with state shapes.Symbol)))

each_stops_once : (state : State) → stops_once state ≡ true
each_stops_once Start = refl
each_stops_once (Joined First) = refl
each_stops_once (Joined (Later Name)) = refl
each_stops_once (Joined (Later Path)) = refl
each_stops_once (Small First) = refl
each_stops_once (Small (Later Name)) = refl
each_stops_once (Small (Later Path)) = refl
each_stops_once (Capital First) = refl
each_stops_once (Capital (Later Name)) = refl
each_stops_once (Capital (Later Path)) = refl
each_stops_once (After Name) = refl
each_stops_once (After Path) = refl
each_stops_once (Version Name) = refl
each_stops_once (Version Path) = refl
each_stops_once (Digits Name) = refl
each_stops_once (Digits Path) = refl
each_stops_once (Point Name) = refl
each_stops_once (Point Path) = refl
each_stops_once (Tail Name) = refl
each_stops_once (Tail Path) = refl
each_stops_once Inside = refl
each_stops_once Closed = refl
each_stops_once Minus = refl
each_stops_once OneDot = refl
each_stops_once TwoDots = refl
each_stops_once Ended = refl
each_stops_once Dead = refl

stops_each : (state : State) (shape : Shape) → stops_once state ≡ true → stops_with state shape ≡ true
stops_each state shape e = go shape
  where
    w : (stops_with state shapes.Word ≡ true) × ((stops_with state shapes.Name && (stops_with state shapes.Path && (stops_with state shapes.Quoted && stops_with state shapes.Symbol))) ≡ true)
    w = and_parts (stops_with state shapes.Word) _ e

    n : (stops_with state shapes.Name ≡ true) × ((stops_with state shapes.Path && (stops_with state shapes.Quoted && stops_with state shapes.Symbol)) ≡ true)
    n = and_parts (stops_with state shapes.Name) _ w.1

    p : (stops_with state shapes.Path ≡ true) × ((stops_with state shapes.Quoted && stops_with state shapes.Symbol) ≡ true)
    p = and_parts (stops_with state shapes.Path) _ n.1

    q : (stops_with state shapes.Quoted ≡ true) × (stops_with state shapes.Symbol ≡ true)
    q = and_parts (stops_with state shapes.Quoted) _ p.1

    go : (shape : Shape) → stops_with state shape ≡ true
    go shapes.Word = w.0
    go shapes.Name = n.0
    go shapes.Path = p.0
    go shapes.Quoted = q.0
    go shapes.Symbol = q.1

stops : (state : State) (shape : Shape) → may_stop (rest_of state shape) ≡ true → shape_at state ≡ Some shape
stops state shape e =
    is_shape_is shape (shape_at state)
    (subst (λ b. (not b || is_shape shape (shape_at state)) ≡ true) e (stops_each state shape (each_stops_once state)))

-- a text of a shape's pattern has that shape, and no other
pub shape_found : (text : List ℕ) (shape : Shape) → Matches (pattern_of shape) text → shape_of text ≡ Some shape
shape_found text shape h =
    let state = state_after [] text Start reads_none (shape_bytes shape text h) in
    let stop : may_stop (rest_of state.0 shape) ≡ true = ap may_stop (sym (state.1 shape)) ∙ matches_made (pattern_of shape) text h in
    shape_is state.0 text state.1 ∙ stops state.0 shape stop

-- looking up finds the entries of a table
pub found_in : (table : List (List ℕ × Token)) (text : List ℕ) (token : Token) → find text table ≡ Some token → InTable text token table
found_in [] text token e = let d : None ≡ Some token = e in absurd cc
found_in (entry ∷ table) text token e =
    ⊎_elim
    (λ test.
    let here : Some entry.1 ≡ Some token = subst (λ v. cond v (Some entry.1) (find text table) ≡ Some token) test e in
    let same : token ≡ entry.1 = cc in
    inl (bytes_eq_is text entry.0 test, same))
    (λ test. inr (found_in table text token (subst (λ v. cond v (Some entry.1) (find text table) ≡ Some token) test e)))
    (cases_Bool (bytes_eq text entry.0))

abbrev all_differ : List (List ℕ × Token) → Bool
all_differ [] = true
all_differ (entry ∷ table) = is_none (find entry.0 table) && all_differ table

in_found : (table : List (List ℕ × Token)) (text : List ℕ) (token : Token) → all_differ table ≡ true → InTable text token table → find text table ≡ Some token
in_found [] text token d h = absurd h
in_found (entry ∷ table) text token d (inl h) =
    let test : bytes_eq text entry.0 ≡ true = subst (λ t. bytes_eq t entry.0 ≡ true) (sym h.0) (bytes_eq_same entry.0) in
    subst (λ v. cond v (Some entry.1) (find text table) ≡ Some token) (sym test) (ap Some (sym h.1))
in_found (entry ∷ table) text token d (inr h) =
    let t = and_parts (is_none (find entry.0 table)) (all_differ table) d in
    let later = in_found table text token t.1 h in
    ⊎_elim
    (λ test.
    let twice : find entry.0 table ≡ Some token = ap (λ x. find x table) (sym (bytes_eq_is text entry.0 test)) ∙ later in
    let none : false ≡ true = ap is_none (sym twice) ∙ t.0 in
    absurd (false≢true none))
    (λ test. subst (λ v. cond v (Some entry.1) (find text table) ≡ Some token) (sym test) later)
    (cases_Bool (bytes_eq text entry.0))

texts_differ : all_differ fixed_texts ≡ true
texts_differ = refl

no_entry : (text : List ℕ) → ((token : Token) → InTable text token keywords → ⊥) → find text keywords ≡ None
no_entry text absent = go (find text keywords) refl
  where
    go : (found : Option Token) → find text keywords ≡ found → find text keywords ≡ None
    go None e = e
    go (Some token) e = absurd (absent token (found_in keywords text token e))

-- what a text is, and what it is found to be
pub token_found : (text : List ℕ) (token : Token) → IsToken token text → token_of text ≡ Some token
token_found text token (fixed h) = token_fixed text token (in_found fixed_texts text token texts_differ h)
token_found text token (identifier h absent) = let s = shape_found text shapes.Word h in token_plain text shapes.Word (word_not_found text s (no_entry text absent)) s
token_found text token (string h) = let s = shape_found text shapes.Quoted h in token_plain text shapes.Quoted (other_not_found text shapes.Quoted s refl refl) s
token_found text token (name h) = let s = shape_found text shapes.Name h in token_plain text shapes.Name (other_not_found text shapes.Name s refl refl) s
token_found text token (path h) = let s = shape_found text shapes.Path h in token_plain text shapes.Path (other_not_found text shapes.Path s refl refl) s

pub token_meant : (text : List ℕ) (token : Token) → token_of text ≡ Some token → IsToken token text
token_meant text token e = go (find text fixed_texts) refl
  where
    plain : (i n p q : Bool) → find text fixed_texts ≡ None → matches id text ≡ i → matches package_name text ≡ n → matches package_path text ≡ p → matches quoted text ≡ q
        → token_by None i n p q ≡ Some token → IsToken token text
    plain true n p q none ei en ep eq is =
        let found : Some Ident ≡ Some token = is in
        let same : Ident ≡ token = cc in
        subst (λ t. IsToken t text) same
        (identifier (matches_meant id text ei) (λ keyword h. let k = find_first keywords symbols text keyword (keyword_found keyword h) in let both : None ≡ Some keyword = sym none ∙ k in absurd cc))
      where
        keyword_found : (keyword : Token) → InTable text keyword keywords → find text keywords ≡ Some keyword
        keyword_found keyword h = in_found keywords text keyword refl h
    plain false true p q none ei en ep eq is = let found : Some PackageName ≡ Some token = is in let same : PackageName ≡ token = cc in subst (λ t. IsToken t text) same (name (matches_meant package_name text en))
    plain false false true q none ei en ep eq is = let found : Some PackagePath ≡ Some token = is in let same : PackagePath ≡ token = cc in subst (λ t. IsToken t text) same (path (matches_meant package_path text ep))
    plain false false false true none ei en ep eq is = let found : Some String ≡ Some token = is in let same : String ≡ token = cc in subst (λ t. IsToken t text) same (string (matches_meant quoted text eq))
    plain false false false false none ei en ep eq is = let found : None ≡ Some token = is in absurd cc

    go : (found : Option Token) → find text fixed_texts ≡ found → IsToken token text
    go (Some k) f =
        let found : Some k ≡ Some token = sym (token_fixed text k f) ∙ e in
        let same : k ≡ token = cc in
        fixed (found_in fixed_texts text token (f ∙ ap Some same))
    go None f =
        plain (matches id text) (matches package_name text) (matches package_path text) (matches quoted text) f refl refl refl refl
        (sym (ap (λ entry. token_by entry (matches id text) (matches package_name text) (matches package_path text) (matches quoted text)) f) ∙ e)

pub one_token : (text : List ℕ) (a b : Token) → IsToken a text → IsToken b text → a ≡ b
one_token text a b ha hb = let both : Some a ≡ Some b = sym (token_found text a ha) ∙ token_found text b hb in cc
