-- The shapes of the tokens, as sets of whole texts.
use Rattle.std.specs.Prelude.{◌+◌, ◌-◌, ℕ, List, [], ◌∷◌, map, if◌then◌else◌, Option, Some, None}
use Rattle.wac_lexer.specs.Ascii.{at_sign, capital_a, capital_z, colon, digit_nine, digit_zero, full_stop, hyphen, percent_sign, plus_sign, quotation_mark, slash, small_a, small_z}
use Rattle.wac_lexer.specs.Pattern.{Pattern, matches}
use Rattle.wac_lexer.specs.Pattern.Pattern.{Nothing, Empty, Range, Then, Or, Many}
use Rattle.wac_lexer.specs.Words.{symbols}
use Rattle.wac_lexer.specs.declared.shape.Shape.{Shape}
use Rattle.wac_lexer.specs.declared.shape.Shape.TheVariants.{Word, Name, Path, Quoted, Symbol}

abbrev pub byte : ℕ → Pattern
byte b = Range b b

abbrev pub optional : Pattern → Pattern
optional p = Or Empty p

-- this very text
abbrev pub literal : List ℕ → Pattern
literal [] = Empty
literal (b ∷ text) = Then (byte b) (literal text)

-- one of these texts
abbrev pub any_of : List (List ℕ) → Pattern
any_of [] = Nothing
any_of (text ∷ texts) = Or (literal text) (any_of texts)

-- a-z, A-Z, 0-9
abbrev pub lower : Pattern
lower = Range small_a small_z

abbrev pub upper : Pattern
upper = Range capital_a capital_z

abbrev pub digit : Pattern
digit = Range digit_zero digit_nine

-- [a-z][a-z0-9]* or [A-Z][A-Z0-9]*
abbrev pub word : Pattern
word = Or (Then lower (Many (Or lower digit))) (Then upper (Many (Or upper digit)))

-- an optional %, a word, any number of -word
abbrev pub id : Pattern
id = Then (optional (byte percent_sign)) (Then word (Many (Then (byte hyphen) word)))

-- one or more
abbrev pub some : Pattern → Pattern
some p = Then p (Many p)

-- [0-9]+(\.[0-9a-zA-Z+-]+)*
abbrev pub version_byte : Pattern
version_byte = Or digit (Or lower (Or upper (Or (byte plus_sign) (byte hyphen))))

abbrev pub version : Pattern
version = Then (some digit) (Many (Then (byte full_stop) (some version_byte)))

-- an optional @ and version text
abbrev pub at_version : Pattern
at_version = optional (Then (byte at_sign) version)

-- id(:id)+, and a version
abbrev pub package_name : Pattern
package_name = Then id (Then (some (Then (byte colon) id)) at_version)

-- id(:id)+(/id)+, and a version
abbrev pub package_path : Pattern
package_path = Then id (Then (some (Then (byte colon) id)) (Then (some (Then (byte slash) id)) at_version))

-- a quote, bytes that are none, a quote
abbrev pub quoted : Pattern
quoted = Then (byte quotation_mark) (Then (Many (Or (Range 0 (quotation_mark - 1)) (Range (quotation_mark + 1) 255))) (byte quotation_mark))

-- one of the symbols
abbrev pub symbol : Pattern
symbol = any_of (map (λ entry. entry.0) symbols)

-- the texts of a shape
abbrev pub pattern_of : Shape → Pattern
pattern_of Word = id
pattern_of Name = package_name
pattern_of Path = package_path
pattern_of Quoted = quoted
pattern_of Symbol = symbol

-- the shape of a whole text
abbrev pub shape_of : List ℕ → Option Shape
shape_of text =
    if matches id text then Some Word
    else (if matches package_name text then Some Name
    else (if matches package_path text then Some Path
    else (if matches quoted text then Some Quoted
    else (if matches symbol text then Some Symbol else None))))
