-- Which codes are those of texts that are no documents.
use Rattle.std.specs.Prelude.{◌≡◌, refl, codes, ℕ, Bool, true, false, ◌||◌, List}
use Rattle.std.specs.Str.{bytes_eq}
use Rattle.wac_lexer.specs.declared.error.Error.{Error as LexerError}
use Rattle.wac_lexer.specs.declared.error.Error.TheVariants.{UnexpectedToken}
use Rattle.wac_ast_base.specs.Error.{Told, faulty, no_memory}
use Rattle.wac_diagnostics.specs.Codes.{lexer_code}
use Rattle.wac_resolution_errors.specs.Error.{Error, memory}
use Rattle.wac_first_error.specs.Codes.{parse_code, resolution_code}

-- of a text with a rejected character, or an item that isn't closed
abbrev pub is_of_characters : List ℕ → Bool
is_of_characters code =
    bytes_eq code (codes "wac::unexpected-token")
    || (bytes_eq code (codes "wac::unterminated-string")
    || (bytes_eq code (codes "wac::unterminated-comment")
    || (bytes_eq code (codes "wac::disallowed-bidirectional-override")
    || (bytes_eq code (codes "wac::discouraged-unicode-codepoint")
    || bytes_eq code (codes "wac::disallowed-control-code")))))

-- of a text that the grammar doesn't have, or whose brackets are nested too deeply
abbrev pub is_of_grammar : List ℕ → Bool
is_of_grammar code =
    bytes_eq code (codes "wac::nested-too-deep")
    || (bytes_eq code (codes "wac::expected")
    || (bytes_eq code (codes "wac::expected-either")
    || (bytes_eq code (codes "wac::expected-multiple")
    || (bytes_eq code (codes "wac::empty-type")
    || bytes_eq code (codes "wac::invalid-version")))))

-- of a text that is no document
abbrev pub is_fault : List ℕ → Bool
is_fault code = is_of_characters code || is_of_grammar code

-- an error tells more than that memory ran out
abbrev is_told : Told → Bool
is_told no_memory = false
is_told e = true

-- each error of parsing has such a code
of_lexing : (e : LexerError) → is_fault (lexer_code e) ≡ true
of_lexing UnexpectedToken = refl
of_lexing _ = refl

of_parsing : (e : Told) → is_fault (parse_code e) ≡ is_told e
of_parsing (faulty fault at) = of_lexing fault
of_parsing no_memory = refl
of_parsing _ = refl

-- no error of resolving has one
of_resolving : (e : Error) → is_fault (resolution_code e) ≡ false
of_resolving memory = refl
of_resolving _ = refl
