-- What a parser returns, against what reading gives.
use Rattle.std.specs.Prelude.{◌≡◌, ℕ, List, [], ◌∷◌, ◌++◌, map, take, length, Option, Some, None, Result, Ok, Err, Bool, true, false, codes, ◌⊎◌, ◌-◌}
use Rattle.wac_lexer.specs.Span.{Span, span, end_of}
use Rattle.wac_lexer.specs.Item.{Item, next_token}
use Rattle.wac_lexer.specs.Reading.{Reading, left, shown}
use Rattle.wac_lexer.specs.declared.token.Token.{Token}
use Rattle.wac_lexer.specs.declared.token.Token.TheVariants as tokens
use Rattle.wac_lexer.specs.declared.error.Error.{Error as Fault}
use Rattle.wac_lexer.specs.declared.error.Error.TheVariants as faults
use Rattle.wac_ast_base.specs.declared.error.Error.{Error}
use Rattle.wac_ast_grammar.specs.Version.{version_text}
use Rattle.wac_ast_grammar.specs.Grammar.{Body, variant_body, record_body, flags_body, enum_body}
use Rattle.wac_ast_grammar.specs.Reading.{Stop, Tried, Why, other, empty_body, version, before, read_token, not_fault}
use Rattle.wac_ast_grammar.specs.Tokens.{at, is_token}
use Rattle.wac_ast_base.specs.Error.{Told, told_by, expected, expected_one, empty_type, invalid_version, no_memory}
use Rattle.wac_ast_base.specs.Lookahead.{refusal}

-- ---- the end of the input

-- the source, and the span of its last item
pub record End : Type 0 where
  pub source : List ℕ
  pub final : Span

-- the span of the last of these items, or where there is none the span before them
abbrev pub final_span : Span → List Item → Span
final_span before [] = before
final_span before (x ∷ xs) = final_span x.span xs

-- Taking items leaves it as it is.
unfoldable pub end_of_input : Reading → End
end_of_input l = record { source = l.source; final = final_span l.last (left l) }

-- the place after the last byte
abbrev pub empty_end : List ℕ → Span
empty_end source = span (length source) 0

-- The span that is reported at the end of the input: one token alone was expected in a sequence, several at an alternative or in a list.
abbrev pub end_span : End → List Tried → Span
end_span end (t ∷ []) = shown end.source (empty_end end.source)
end_span end ts = shown end.source end.final

-- ---- what is reported of a stop

abbrev pub body_name : Body → List ℕ
body_name variant_body = codes "variant"
body_name record_body = codes "record"
body_name flags_body = codes "flags"
body_name enum_body = codes "enum"

abbrev pub part_name : Body → List ℕ
part_name variant_body = codes "case"
part_name record_body = codes "field"
part_name flags_body = codes "flag"
part_name enum_body = codes "case"

abbrev pub first_span : List Item → Span
first_span [] = span 0 0
first_span (x ∷ xs) = x.span

abbrev pub first_text : List Item → List ℕ
first_text [] = []
first_text (x ∷ xs) = x.text

abbrev pub some_text : Option (List ℕ) → List ℕ
some_text None = []
some_text (Some text) = text

-- a version text that ends a span
abbrev pub version_told_at : List ℕ → Span → Told
version_told_at text s = invalid_version text (span (end_of s - length text) (length text))

-- the version text of a package, and where it lies
abbrev pub version_told : List ℕ → Span → Told
version_told text s = version_told_at (some_text (version_text text)) s

abbrev pub told_at : End → Why → List Item → List Tried → Told
told_at end (empty_body body) xs ts = empty_type (body_name body) (part_name body) (first_span xs)
told_at end version xs ts = version_told (first_text xs) (first_span xs)
told_at end why xs ts = refusal (next_token (before why ++ xs)) (end_span end ts) (expected (take 10 (map (λ t. t.token) ts)) (length ts))

-- what an error reports of the place where reading stopped
unfoldable pub told : End → Stop → Told
told end stop = told_at end stop.why stop.left stop.expected

abbrev pub told_in : {A : Type 0} → End → Result A Stop → Option Told
told_in end (Ok x) = None
told_in end (Err stop) = Some (told end stop)

-- ---- results

-- The error reports the stop, unless memory ran out.
abbrev pub Fails : {A : Type 0} → Error → End → Result A Stop → Type 0
Fails error end r = (told_by error ≡ no_memory) ⊎ (told_in end r ≡ Some (told_by error))

-- The error is made of one that reports the stop, unless memory ran out.
abbrev pub FailsAs : {A E : Type 0} → (Error → E → Type 0) → End → Result A Stop → E → Type 0
FailsAs made end r x = (error : Error) × made error x × Fails error end r

-- The error reports where taking this token stops, unless memory ran out.
abbrev pub FailsToTake : Token → Reading → Error → Type 0
FailsToTake token old error = Fails error (end_of_input old) (read_token [] token (left old))

-- Another token than this one, or a fault or the end, is next, and the error reports it.
abbrev pub RefusesNext : Token → Reading → Error → Type 0
RefusesNext token old error =
    (at token (left old) ≡ false)
    × (told_by error ≡ refusal (next_token (left old)) (shown old.source (empty_end old.source)) (expected_one token))

-- The item that was found is not this token, and the error reports it.
abbrev pub RefusesFound : Token → Result Token Fault × Span → Error → Type 0
RefusesFound token found error =
    (is_token token found.0 ≡ false) × (told_by error ≡ refusal (Some found) found.1 (expected_one token))

-- A closing brace is next, and the error reports there that a type of this name has no such part.
abbrev pub RefusesEmpty : List ℕ → List ℕ → Reading → Error → Type 0
RefusesEmpty ty kind now error =
    (at tokens.CloseBrace (left now) ≡ true) × (told_by error ≡ empty_type ty kind (first_span (left now)))

-- Memory ran out, or no version is read, and the error reports that.
abbrev pub RefusesVersion : Bool → Told → Error → Type 0
RefusesVersion reads told error = (told_by error ≡ no_memory) ⊎ ((reads ≡ false) × (told_by error ≡ told))

-- The result, seen by view, and the items then left are what reading gives.
abbrev pub Gives : {X Y : Type 0} → (X → Y) → Result X Error → Reading → Reading → Result (Y × List Item) Stop → Type 0
Gives view (Ok x) old new r = (r ≡ Ok (view x, left new)) × (end_of_input new ≡ end_of_input old)
Gives view (Err error) old new r = Fails error (end_of_input old) r

-- the token's text is right whatever it is
abbrev pub plain : Token → Bool
plain tokens.PackageName = false
plain tokens.PackagePath = false
plain _ = true

abbrev pub no_item : Item
no_item = record { token = Err faults.UnexpectedToken; text = []; span = span 0 0; docs = [] }

abbrev pub first_item : List Item → Item
first_item [] = no_item
first_item (x ∷ xs) = x

-- A token was taken, and its span is the result.
abbrev pub Takes : Token → Result Span Error → Reading → Reading → Type 0
Takes token (Ok s) old new = (read_token [] token (left old) ≡ Ok (first_item (left old), left new)) × (s ≡ (first_item (left old)).span) × (end_of_input new ≡ end_of_input old)
Takes token (Err error) old new = FailsToTake token old error

abbrev pub has_more : List Item → Bool
has_more [] = false
has_more (x ∷ xs) = true

-- An optional token was taken, or is not there and no fault is in its place.
abbrev pub TakesOptional : Token → Result Bool Error → Reading → Reading → Type 0
TakesOptional token (Ok true) old new = (at token (left old) ≡ true) × (read_token [] token (left old) ≡ Ok (first_item (left old), left new)) × (end_of_input new ≡ end_of_input old)
TakesOptional token (Ok false) old new = (at token (left old) ≡ false) × (not_fault (left old) ≡ true) × (new ≡ old)
TakesOptional token (Err error) old new = (told_by error ≡ no_memory) ⊎ ((at token (left old) ≡ false) × (not_fault (left old) ≡ false) × ((ts : List Tried) → told (end_of_input old) (record { left = left old; expected = ts; why = other }) ≡ told_by error))
