-- What is read from a place on is what items end with.
use Rattle.std.proofs.Common.{◌≡◌, refl, sym, ap, ◌∙◌, ℕ, List, [], ◌∷◌, ◌++◌, map, Bool, true, false, Option, Some, None, Ok, Err, eqb-true}
use Rattle.std.specs.Prelude.{Result, nat_lt, ◌&&◌, if◌then◌else◌}
use Rattle.std.proofs.lemmas.List.{append_assoc, map-append}
use Rattle.wac_lexer.specs.Item.{Item, NextToken, next_token, after_first_item}
use Rattle.wac_lexer.specs.Span.{Span}
use Rattle.wac_lexer.specs.declared.token.Token.{Token}
use Rattle.wac_lexer.specs.declared.token.Token.TheVariants as t
use Rattle.wac_lexer.specs.declared.error.Error.{Error}
use Rattle.wac_ast_grammar.specs.Arguments.{EndsWithArgument}
use Rattle.wac_ast_grammar.specs.Tokens.{is_token, kind}
use Rattle.wac_completion.specs.Faults.{last_is_string}
use Rattle.wac_completion.specs.Standing.{are_rest, reads_from}

-- ---- one item after another

abbrev read_at : ℕ → Token → Option Token → NextToken → List Item → Bool
read_at place k next None rest = false
read_at place k next (Some x) rest = if nat_lt x.1.offset place then reads_from place k next rest else is_token k x.0 && are_rest next rest

one_more : (place : ℕ) (k : Token) (next : Option Token) (xs : List Item) → reads_from place k next xs ≡ read_at place k next (next_token xs) (after_first_item xs)
one_more place k next [] = refl
one_more place k next (x ∷ xs) = refl

-- none is left
pub none_left : (place : ℕ) (k : Token) (next : Option Token) (xs : List Item) → None ≡ next_token xs → false ≡ reads_from place k next xs
none_left place k next xs e = sym (one_more place k next xs ∙ ap (λ h. read_at place k next h (after_first_item xs)) (sym e))

module _ (place : ℕ) (k : Token) (next : Option Token) (old new : List Item) (x : Result Token Error) (s : Span) (gives : Some (x, s) ≡ next_token old) (rest : new ≡ after_first_item old) where
  here : reads_from place k next old ≡ read_at place k next (Some (x, s)) new
  here = one_more place k next old ∙ ap (λ h. read_at place k next h (after_first_item old)) (sym gives) ∙ ap (read_at place k next (Some (x, s))) (sym rest)

  -- an item before the place
  pub before : nat_lt s.offset place ≡ true → reads_from place k next old ≡ reads_from place k next new
  before less = here ∙ rw less refl

  -- the first one after it
  pub after : nat_lt s.offset place ≡ false → reads_from place k next old ≡ (is_token k x && are_rest next new)
  after less = here ∙ rw less refl

-- ---- the last item

abbrev token_of : Item → Result Token Error
token_of x = x.token

-- the last of a list, or else this one
abbrev last_or : {X : Type 0} → X → List X → X
last_or d [] = d
last_or d (x ∷ xs) = last_or x xs

last_or_end : {X : Type 0} (d x : X) (xs : List X) → last_or d (xs ++ (x ∷ [])) ≡ x
last_or_end d x [] = refl
last_or_end d x (y ∷ xs) = last_or_end y x xs

abbrev last_token : Token → Option Token → Token
last_token k None = k
last_token k (Some next) = next

left_one : (b c : Bool) → (b && c) ≡ true → b ≡ true
left_one true c h = refl
left_one false c h = absurd cc

right_one : (b c : Bool) → (b && c) ≡ true → c ≡ true
right_one true c h = h
right_one false c h = absurd cc

last_rest : (k : Token) (next : Option Token) (x : Result Token Error) (xs : List Item) → (is_token k x && are_rest next xs) ≡ true → is_token (last_token k next) (last_or x (map token_of xs)) ≡ true
last_rest k None x [] h = left_one (is_token k x) true h
last_rest k None x (y ∷ xs) h = let e = right_one (is_token k x) false h in absurd cc
last_rest k (Some next) x [] h = let e = right_one (is_token k x) false h in absurd cc
last_rest k (Some next) x (y ∷ []) h = left_one (is_token next y.token) true (right_one (is_token k x) (is_token next y.token && true) h)
last_rest k (Some next) x (y ∷ z ∷ xs) h = let e = right_one (is_token next y.token) false (right_one (is_token k x) (is_token next y.token && false) h) in absurd cc

step_read : (b : Bool) (k : Token) (next : Option Token) (rest : Bool) (x : Result Token Error) (xs : List Item) → (rest ≡ true → is_token (last_token k next) (last_or x (map token_of xs)) ≡ true)
    → (if b then rest else is_token k x && are_rest next xs) ≡ true → is_token (last_token k next) (last_or x (map token_of xs)) ≡ true
step_read true k next rest x xs more h = more h
step_read false k next rest x xs more h = last_rest k next x xs h

last_read : (place : ℕ) (k : Token) (next : Option Token) (d : Result Token Error) (xs : List Item) → reads_from place k next xs ≡ true → is_token (last_token k next) (last_or d (map token_of xs)) ≡ true
last_read place k next d [] h = absurd cc
last_read place k next d (x ∷ xs) h = step_read (nat_lt x.span.offset place) k next (reads_from place k next xs) x.token xs (last_read place k next x.token xs) h

string_last : (k : Token) (next : Option Token) → is_token t.String (Ok (last_token k next)) ≡ last_is_string k next
string_last k None = refl
string_last k (Some next) = refl

-- what is two tokens, both are one
one_token : (k l : Token) (r : Result Token Error) → is_token k r ≡ true → is_token l r ≡ true → is_token l (Ok k) ≡ true
one_token k l (Err e) h i = absurd cc
one_token k l (Ok a) h i = rw (sym (eqb-true (kind a) (kind k) h)) i

-- items that are read from a place on, of which the last is no string, don't end with a string
pub no_argument : (place : ℕ) (xs : List Item) (k : Token) (next : Option Token) → reads_from place k next xs ≡ true → last_is_string k next ≡ false → EndsWithArgument xs → ⊥
no_argument place xs k next reads none ends =
    let d : Result Token Error = Ok t.Ident in
    let before = ends.before ++ (ends.opening ∷ []) in
    let two : xs ≡ before ++ (ends.string ∷ []) = ends.ends ∙ sym (append_assoc ends.before (ends.opening ∷ []) (ends.string ∷ [])) in
    let last : last_or d (map token_of xs) ≡ ends.string.token = ap (λ ys. last_or d (map token_of ys)) two ∙ ap (last_or d) (map-append token_of before (ends.string ∷ [])) ∙ last_or_end d ends.string.token (map token_of before) in
    let is : is_token (last_token k next) ends.string.token ≡ true = ap (is_token (last_token k next)) (sym last) ∙ last_read place k next d xs reads in
    let string : is_token t.String (Ok (last_token k next)) ≡ true = one_token (last_token k next) t.String ends.string.token is ends.is_string in
    let other : is_token t.String (Ok (last_token k next)) ≡ false = string_last k next ∙ none in
    absurd cc
