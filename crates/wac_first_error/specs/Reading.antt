-- Bytes as a text.
use Rattle.std.specs.Prelude.{◌≡◌, ℕ, ◌⊎◌, List, Bool, true, false, ◌&&◌, nat_eq, nat_le, length, slice_index, ◌++◌, Some, codes, decimal, IsUtf8}
use Rattle.std.specs.Str.{IsValidUpTo}
use Rattle.wac_lexer.specs.Span.{Span, span}
use Rattle.wac_diagnostics.specs.Reports.{Says}
use Rattle.wac_diagnostics.specs.declared.diagnostic.Diagnostic.{Diagnostic}
use Rattle.wac_first_error.specs.declared.reading.Reading.{Reading}
use Rattle.wac_first_error.specs.declared.reading.Reading.TheVariants.{Text, Rejected}

-- whether bytes begin with a byte order mark, as UTF-8 has it
abbrev pub begins_with_mark : List ℕ → Bool
begins_with_mark bytes = nat_le 3 (length bytes) && (nat_eq (slice_index bytes 0) 239 && (nat_eq (slice_index bytes 1) 187 && nat_eq (slice_index bytes 2) 191))

-- what is said of bytes that are UTF-8 only up to an offset
abbrev pub SaysNotUtf8 : ℕ → Diagnostic → Type 0
SaysNotUtf8 at =
    Says (codes "wac::not-utf-8") (codes "not UTF-8, the first bad byte is at offset " ++ decimal at) (Some (span at 1))

-- what is said of a byte order mark
abbrev pub SaysMarked : Diagnostic → Type 0
SaysMarked = Says (codes "wac::byte-order-mark") (codes "the text begins with a byte order mark") (Some (span 0 3))

-- what is said of the first bracket that is nested too deeply
abbrev pub SaysTooDeep : Span → Diagnostic → Type 0
SaysTooDeep at = Says (codes "wac::nested-too-deep") (codes "brackets are nested deeper than 1,000") (Some at)

-- The bytes are UTF-8 only up to an offset, and this is said of them there.
abbrev pub IsNotUtf8 : List ℕ → Diagnostic → Type 0
IsNotUtf8 bytes d = ¬ (IsUtf8 bytes) × ((at : ℕ) × IsValidUpTo bytes at × SaysNotUtf8 at d)

-- The bytes begin with a byte order mark, and this is said of it.
abbrev pub IsMarked : List ℕ → Diagnostic → Type 0
IsMarked bytes d = (begins_with_mark bytes ≡ true) × SaysMarked d

-- what reading bytes returns
abbrev pub IsReading : List ℕ → Reading → Type 0
IsReading bytes (Text text) = (text.now ≡ bytes) × IsUtf8 bytes × (begins_with_mark bytes ≡ false)
IsReading bytes (Rejected d) = IsNotUtf8 bytes d ⊎ IsMarked bytes d
