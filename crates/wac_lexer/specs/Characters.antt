-- The characters that a source may not have.
use Rattle.std.specs.Prelude.{◌≡◌, refl, ℕ, ◌+◌, ◌++◌, sum_by, Bool, ◌&&◌, ◌||◌, nat_eq, nat_lt, nat_le, List, [], ◌∷◌, drop, if◌then◌else◌, Option, Some, None, MatchOption}
use Rattle.std.specs.Char.{len_utf8}
use Rattle.std.specs.List.{AllByRecursion}
use Rattle.std.specs.Str.{chars}
use Rattle.wac_lexer.specs.Ascii.{carriage_return, line_feed, tab}
use Rattle.wac_lexer.specs.Span.{Span, span}
use Rattle.wac_lexer.specs.declared.error.Error.{Error}
use Rattle.wac_lexer.specs.declared.error.Error.TheVariants.{DisallowedBidirectionalOverride, DiscouragedUnicodeCodepoint, DisallowedControlCode}

abbrev pub is_within : ℕ → ℕ → ℕ → Bool
is_within first last c = nat_le first c && nat_le c last

-- U+202A to U+202E, U+2066 to U+2069
abbrev pub is_bidirectional : ℕ → Bool
is_bidirectional c = is_within 0x202a 0x202e c || is_within 0x2066 0x2069 c

abbrev pub is_discouraged : ℕ → Bool
is_discouraged c =
    nat_eq c 0x149 || (nat_eq c 0x673 || (nat_eq c 0xf77 || (nat_eq c 0xf79 || (is_within 0x17a3 0x17a4 c || is_within 0x17b4 0x17b5 c))))

-- U+0000 to U+001F and U+007F to U+009F, but for TAB, LF and CR
abbrev pub is_refused_control : ℕ → Bool
is_refused_control c =
    if nat_eq c tab || (nat_eq c line_feed || nat_eq c carriage_return) then nat_lt c 0
    else is_within 0 0x1f c || is_within 0x7f 0x9f c

-- the fault that a character is
abbrev pub fault_of : ℕ → Option Error
fault_of c =
    if is_bidirectional c then Some (DisallowedBidirectionalOverride c)
    else (if is_discouraged c then Some (DiscouragedUnicodeCodepoint c)
    else (if is_refused_control c then Some (DisallowedControlCode c) else None))

-- the characters of one byte that every source may have: printable ASCII, TAB, LF and CR
abbrev pub is_plain : ℕ → Bool
is_plain b = is_within 0x20 0x7e b || (nat_eq b line_feed || (nat_eq b tab || nat_eq b carriage_return))

-- the first rejected one of these characters, which begin at a place
abbrev pub refused_from : ℕ → List ℕ → Option (Error × Span)
refused_from place [] = None
refused_from place (c ∷ cs) =
    elim (fault_of c) [ Some fault ↦ Some (fault, span place (len_utf8 c)) | None ↦ refused_from (place + len_utf8 c) cs ]

-- the first rejected character of a source that does not come before a place
abbrev pub refused_after : List ℕ → ℕ → Option (Error × Span)
refused_after source place = refused_from place (chars (drop place source))

-- the first rejected character of a text
abbrev pub refused : List ℕ → Option (Error × Span)
refused text = refused_from 0 (chars text)

-- the first rejected character, with its fault, its offset and its length
pub record IsFirstRefused (text : List ℕ) (fault : Error) (at : Span) : Type 0 where
  pub before : List ℕ
  pub character : ℕ
  pub after : List ℕ
  pub stands : chars text ≡ before ++ character ∷ after
  pub passed : AllByRecursion (λ c. fault_of c ≡ None) before
  pub is : fault_of character ≡ Some fault
  pub place : at ≡ span (sum_by len_utf8 before) (len_utf8 character)

-- what is found in a text is its first rejected character, or that it has none
abbrev pub FindsRefused : List ℕ → Option (Error × Span) → Type 0
FindsRefused text found =
    MatchOption found (AllByRecursion (λ c. fault_of c ≡ None) (chars text)) (λ f. IsFirstRefused text f.0 f.1)

-- an example: TAB passes, and after it U+202A is rejected
override : refused (tab ∷ 0xe2 ∷ 0x80 ∷ 0xaa ∷ []) ≡ Some (DisallowedBidirectionalOverride 0x202a, span 1 3)
unfolding chars
override = refl
