-- What is told of bytes.
use Rattle.std.specs.Prelude.{◌≡◌, ℕ, List, [], ◌∷◌, ◌⊎◌, Bool, string_bytes}
use Rattle.wac_diagnostics.specs.declared.diagnostic.Diagnostic.{Diagnostic}
use Rattle.wac_first_error.specs.Verdicts.{IsGood, IsUnresolved, IsVerdict}
use Rattle.wac_first_error.specs.declared.first.Verdict.TheVariants as verdicts
use Rattle.wac_all_errors.specs.declared.finding.Finding.{Finding}

-- another diagnostic has the code, the message and the place of this one, and is an error as it is
abbrev pub SaysSame : Diagnostic → Diagnostic → Type 0
SaysSame d e =
    (e.severity ≡ d.severity) × (e.code.now ≡ d.code.now) × (string_bytes e.message ≡ string_bytes d.message)
    × (e.span ≡ d.span)

-- the first of these findings says what this diagnostic does
abbrev pub BeginsWith : Diagnostic → List Finding → Type 0
BeginsWith d [] = ⊥
BeginsWith d (finding ∷ others) = SaysSame d finding.diagnostic

-- Nothing is told of bytes that are a document; and of those that aren't, or break a rule, the first that is told is
-- what is wrong first.
abbrev pub IsTold : List ℕ → Bool → List Finding → Type 0
IsTold bytes resolve [] = IsGood bytes resolve ⊎ IsUnresolved bytes resolve
IsTold bytes resolve (finding ∷ others) = IsVerdict bytes resolve (verdicts.Rejected finding.diagnostic)
