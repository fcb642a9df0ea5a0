-- What a message says of an error.
use Rattle.std.specs.Prelude.{◌≡◌, refl, ℕ, ◌-◌, ◌==◌, nat_lt, List, [], ◌∷◌, ◌++◌, Option, Some, None, codes, if◌then◌else◌}
use Rattle.wac_lexer.specs.Span.{Span}
use Rattle.wac_lexer.specs.Messages.{name_of, text_of}
use Rattle.wac_lexer.specs.declared.token.Token.{Token}
use Rattle.wac_lexer.specs.declared.token.Token.TheVariants as t
use Rattle.wac_lexer.specs.declared.error.Error.TheVariants as faults
use Rattle.wac_ast_base.specs.Error.{Told, faulty, expected_one, expected_either, expected_many, empty_type, invalid_version, no_memory, places}
use Rattle.wac_ast_base.specs.Lookahead.{kept_in}

-- the token that was found, or the end of the input
abbrev pub found_text : Option Token → List ℕ
found_text None = codes "end of input"
found_text (Some token) = name_of token

-- the name of a token, after `or` where it is the last of those that were tried
abbrev pub entry : (left : ℕ) → Token → List ℕ
entry left token = (if left == 1 then codes "or " else []) ++ name_of token

-- the names of tokens, where so many were tried, these first
abbrev pub entries : (count : ℕ) → List Token → List (List ℕ)
entries count [] = []
entries count (token ∷ tokens) = entry count token ∷ entries (count - 1) tokens

-- the texts, a comma and a blank before each but the first
abbrev pub joined : List (List ℕ) → List ℕ
joined [] = []
joined (text ∷ []) = text
joined (text ∷ texts) = text ++ (codes ", " ++ joined texts)

-- One of several tokens was expected: so many were tried, and of these the first ten at most are kept.
unfoldable pub several_expected : (kept : List Token) → (count : ℕ) → (found : Option Token) → List ℕ
several_expected kept count found = codes "expected either " ++ (joined (entries count kept) ++ ((if nat_lt 10 count then codes ", or more..." else []) ++ (codes ", found " ++ found_text found)))

-- what a message says
abbrev pub message_of : Told → List ℕ
message_of (faulty fault at) = text_of fault
message_of (expected_one token found at) = codes "expected " ++ (name_of token ++ (codes ", found " ++ found_text found))
message_of (expected_either first second found at) = codes "expected " ++ (name_of first ++ (codes " or " ++ (name_of second ++ (codes ", found " ++ found_text found))))
message_of (expected_many kept count found at) = several_expected (kept_in kept) count found
message_of (empty_type ty kind at) = ty ++ (codes " must contain at least one " ++ kind)
message_of (invalid_version version at) = codes "`" ++ (version ++ codes "` is not a valid semantic version")
message_of no_memory = codes "out of memory"

-- ---- messages, written out

a_fault : (at : Span) → message_of (faulty faults.UnterminatedString at) ≡ codes "an unterminated string was encountered"
a_fault at = refl

one_token : (at : Span) → message_of (expected_one t.Semicolon None at) ≡ codes "expected `;`, found end of input"
one_token at = refl

two_tokens : (at : Span) → message_of (expected_either t.Ident t.String (Some t.LetKeyword) at) ≡ codes "expected identifier or string literal, found `let` keyword"
two_tokens at = refl

three_tokens : (at : Span) → message_of (expected_many (places 10 (t.Colon ∷ t.Dot ∷ t.Ident ∷ [])) 3 (Some t.At) at) ≡ codes "expected either `:`, `.`, or identifier, found `@`"
unfolding several_expected
three_tokens at = refl

ten_tokens : (at : Span) → message_of (expected_many (places 10 (t.Colon ∷ t.Dot ∷ t.Comma ∷ t.At ∷ t.Slash ∷ t.Equals ∷ t.Arrow ∷ t.Semicolon ∷ t.OpenBrace ∷ t.Ident ∷ [])) 10 None at) ≡ codes "expected either `:`, `.`, `,`, `@`, `/`, `=`, `->`, `;`, `{`, or identifier, found end of input"
unfolding several_expected
ten_tokens at = refl

eleven_tokens : (at : Span) → message_of (expected_many (places 10 (t.Colon ∷ t.Dot ∷ t.Comma ∷ t.At ∷ t.Slash ∷ t.Equals ∷ t.Arrow ∷ t.Semicolon ∷ t.OpenBrace ∷ t.Ident ∷ [])) 11 None at) ≡ codes "expected either `:`, `.`, `,`, `@`, `/`, `=`, `->`, `;`, `{`, identifier, or more..., found end of input"
unfolding several_expected
eleven_tokens at = refl

an_empty_type : (at : Span) → message_of (empty_type (codes "record") (codes "field") at) ≡ codes "record must contain at least one field"
an_empty_type at = refl

no_version : (at : Span) → message_of (invalid_version (codes "1") at) ≡ codes "`1` is not a valid semantic version"
no_version at = refl
