-- Bytes as a text whose brackets aren't nested too deeply.
use Rattle.std.specs.Prelude.{◌≡◌, ℕ, ◌⊎◌, List, IsUtf8, None, Some}
use Rattle.wac_lexer.specs.Span.{Span}
use Rattle.wac_comments_layout.specs.Nesting.{too_deep}
use Rattle.wac_diagnostics.specs.declared.diagnostic.Diagnostic.{Diagnostic}
use Rattle.wac_first_error.specs.Reading.{IsNotUtf8, IsMarked, SaysTooDeep}
use Rattle.wac_first_error.specs.declared.reading.Reading.{Reading}
use Rattle.wac_first_error.specs.declared.reading.Reading.TheVariants.{Text, Rejected}

-- brackets of the text are nested too deeply, and this is said of the first one
abbrev pub IsTooDeep : List ℕ → Diagnostic → Type 0
IsTooDeep text d = (at : Span) × (too_deep text ≡ Some at) × SaysTooDeep at d

-- what a text is that was read
abbrev pub IsFlatText : List ℕ → Reading → Type 0
IsFlatText text (Text read) = (read.now ≡ text) × (too_deep text ≡ None)
IsFlatText text (Rejected d) = IsTooDeep text d

-- what reading bytes returns: the bytes as a text, or what is wrong with them first
abbrev pub IsFlat : List ℕ → Reading → Type 0
IsFlat bytes (Text read) = (read.now ≡ bytes) × IsUtf8 bytes × (too_deep bytes ≡ None)
IsFlat bytes (Rejected d) = (IsNotUtf8 bytes d ⊎ IsMarked bytes d) ⊎ IsTooDeep bytes d
