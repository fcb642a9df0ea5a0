-- The tokens that are one text each: the keywords and the symbols.
use Rattle.std.specs.Prelude.{ℕ, ◌&&◌, nat_le, List, [], ◌∷◌, ◌++◌, length, if◌then◌else◌, Option, Some, None, codes}
use Rattle.std.specs.Str.{bytes_eq}
use Rattle.wac_lexer.specs.declared.token.Token.{Token}
use Rattle.wac_lexer.specs.declared.token.Token.TheVariants as tokens

-- the words of statements
abbrev pub statement_words : List (List ℕ × Token)
statement_words =
    (codes "import", tokens.ImportKeyword)
    ∷ (codes "let", tokens.LetKeyword)
    ∷ (codes "export", tokens.ExportKeyword)
    ∷ (codes "new", tokens.NewKeyword)
    ∷ (codes "as", tokens.AsKeyword)
    ∷ (codes "with", tokens.WithKeyword)
    ∷ (codes "package", tokens.PackageKeyword)
    ∷ (codes "targets", tokens.TargetsKeyword)
    ∷ (codes "use", tokens.UseKeyword)
    ∷ (codes "include", tokens.IncludeKeyword)
    ∷ []

-- the words that declare interfaces, worlds and types
abbrev pub declaration_words : List (List ℕ × Token)
declaration_words =
    (codes "interface", tokens.InterfaceKeyword)
    ∷ (codes "world", tokens.WorldKeyword)
    ∷ (codes "type", tokens.TypeKeyword)
    ∷ (codes "resource", tokens.ResourceKeyword)
    ∷ (codes "variant", tokens.VariantKeyword)
    ∷ (codes "record", tokens.RecordKeyword)
    ∷ (codes "flags", tokens.FlagsKeyword)
    ∷ (codes "enum", tokens.EnumKeyword)
    ∷ []

-- the words of functions
abbrev pub function_words : List (List ℕ × Token)
function_words =
    (codes "func", tokens.FuncKeyword)
    ∷ (codes "static", tokens.StaticKeyword)
    ∷ (codes "constructor", tokens.ConstructorKeyword)
    ∷ (codes "async", tokens.AsyncKeyword)
    ∷ []

-- all words that are no types
abbrev pub grammar_words : List (List ℕ × Token)
grammar_words = statement_words ++ (declaration_words ++ function_words)

-- the types of numbers
abbrev pub number_types : List (List ℕ × Token)
number_types =
    (codes "u8", tokens.U8Keyword)
    ∷ (codes "s8", tokens.S8Keyword)
    ∷ (codes "u16", tokens.U16Keyword)
    ∷ (codes "s16", tokens.S16Keyword)
    ∷ (codes "u32", tokens.U32Keyword)
    ∷ (codes "s32", tokens.S32Keyword)
    ∷ (codes "u64", tokens.U64Keyword)
    ∷ (codes "s64", tokens.S64Keyword)
    ∷ (codes "f32", tokens.F32Keyword)
    ∷ (codes "f64", tokens.F64Keyword)
    ∷ []

-- the other types that have a keyword
abbrev pub other_types : List (List ℕ × Token)
other_types =
    (codes "char", tokens.CharKeyword)
    ∷ (codes "bool", tokens.BoolKeyword)
    ∷ (codes "string", tokens.StringKeyword)
    ∷ (codes "tuple", tokens.TupleKeyword)
    ∷ (codes "list", tokens.ListKeyword)
    ∷ (codes "option", tokens.OptionKeyword)
    ∷ (codes "result", tokens.ResultKeyword)
    ∷ (codes "borrow", tokens.BorrowKeyword)
    ∷ (codes "stream", tokens.StreamKeyword)
    ∷ (codes "future", tokens.FutureKeyword)
    ∷ (codes "error-context", tokens.ErrorContextKeyword)
    ∷ []

-- all words that are types
abbrev pub type_words : List (List ℕ × Token)
type_words = number_types ++ other_types

abbrev pub keywords : List (List ℕ × Token)
keywords = grammar_words ++ type_words

-- the brackets
abbrev pub brackets : List (List ℕ × Token)
brackets =
    (codes "{", tokens.OpenBrace)
    ∷ (codes "}", tokens.CloseBrace)
    ∷ (codes "(", tokens.OpenParen)
    ∷ (codes ")", tokens.CloseParen)
    ∷ (codes "<", tokens.OpenAngle)
    ∷ (codes ">", tokens.CloseAngle)
    ∷ (codes "[", tokens.OpenBracket)
    ∷ (codes "]", tokens.CloseBracket)
    ∷ []

-- the other symbols of one byte
abbrev pub separators : List (List ℕ × Token)
separators =
    (codes ";", tokens.Semicolon)
    ∷ (codes ":", tokens.Colon)
    ∷ (codes "=", tokens.Equals)
    ∷ (codes "_", tokens.Underscore)
    ∷ (codes ".", tokens.Dot)
    ∷ (codes ",", tokens.Comma)
    ∷ (codes "/", tokens.Slash)
    ∷ (codes "@", tokens.At)
    ∷ []

-- the symbols of more than one byte
abbrev pub long_symbols : List (List ℕ × Token)
long_symbols =
    (codes "->", tokens.Arrow)
    ∷ (codes "...", tokens.Ellipsis)
    ∷ []

abbrev pub symbols : List (List ℕ × Token)
symbols = brackets ++ (separators ++ long_symbols)

abbrev pub fixed_texts : List (List ℕ × Token)
fixed_texts = keywords ++ symbols

-- the token whose text this is
abbrev pub find : List ℕ → List (List ℕ × Token) → Option Token
find text [] = None
find text (entry ∷ table) = if bytes_eq text entry.0 then Some entry.1 else find text table

-- the entries whose texts have from low to high bytes
abbrev pub with_lengths : ℕ → ℕ → List (List ℕ × Token) → List (List ℕ × Token)
with_lengths low high [] = []
with_lengths low high (entry ∷ table) =
    if nat_le low (length entry.0) && nat_le (length entry.0) high then entry ∷ with_lengths low high table else with_lengths low high table
