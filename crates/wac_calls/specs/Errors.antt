-- What asking for the first error comes to.
use Rattle.std.specs.Prelude.{◌≡◌, ◌⊎◌, ℕ, List, [], ◌∷◌, ◌++◌, true, String, string_bytes}
use Rattle.std.specs.declared.alloc.Global.{Global}
use Rattle.wac_lexer.specs.Ascii.{line_feed}
use Rattle.wac_diagnostics.specs.declared.diagnostic.Diagnostic.{Diagnostic}
use Rattle.wac_first_error.specs.Reading.{IsNotUtf8, IsMarked}
use Rattle.wac_first_error.specs.Findings.{IsOfText}
use Rattle.wac_first_error.specs.Verdicts.{IsGood, IsUnresolved}
use Rattle.wac_calls.specs.declared.outcome.Outcome.{Outcome}
use Rattle.wac_calls.specs.declared.outcome.Outcome.TheVariants.{Written, Rejected, NotUtf8, OutOfMemory, NestedTooDeep, BadPackage}

-- the bytes have no error that is asked for: they are a document that breaks no rule, or one that mentions foreign
-- packages
abbrev pub IsWell : List ℕ → Type 0
IsWell bytes = IsGood bytes true ⊎ IsUnresolved bytes true

-- the diagnostic is that of the first error of the bytes
abbrev pub IsFirstError : List ℕ → Diagnostic → Type 0
IsFirstError bytes d = IsNotUtf8 bytes d ⊎ (IsMarked bytes d ⊎ IsOfText bytes true d)

-- a text that ends with a line feed, and so isn't empty
abbrev pub EndsLine : List ℕ → Type 0
EndsLine text = (line : List ℕ) × (text ≡ line ++ (line_feed ∷ []))

abbrev pub IsLine : String Global → Type 0
IsLine line = EndsLine (string_bytes line)

-- No text is written where there is no error, and a line where there is one. What stands in the line is tested.
abbrev pub WritesErrors : List ℕ → List ℕ → Type 0
WritesErrors bytes text = ((text ≡ []) × IsWell bytes) ⊎ (EndsLine text × ((d : Diagnostic) × IsFirstError bytes d))

abbrev pub SaysErrors : List ℕ → Outcome → Type 0
SaysErrors bytes (Written text) = WritesErrors bytes text.items
SaysErrors bytes OutOfMemory = Unit {0}
SaysErrors bytes outcome = ⊥
