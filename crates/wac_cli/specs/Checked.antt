-- What became of files that were checked.
use Rattle.std.specs.Prelude.{◌≢◌, ℕ, true, List, [], ◌∷◌, Result, MatchOption, MatchResult, Vec}
use Rattle.std.specs.declared.alloc.Global.{Global}
use Rattle.wac_diagnostics.specs.declared.diagnostic.Diagnostic.{Diagnostic}
use Rattle.wac_first_error.specs.Verdicts.{IsGood, IsUnresolved, IsVerdict}
use Rattle.wac_first_error.specs.declared.first.Verdict.TheVariants as verdicts
use Rattle.wac_files.specs.declared.error.FileError.{FileError}
use Rattle.wac_files.specs.declared.walk.Found.{Found}
use Rattle.wac_cli_console.specs.Outcomes.{IsFailure}
use Rattle.wac_cli_console.specs.declared.outcome.Outcome.{Outcome}
use Rattle.wac_cli_console.specs.declared.outcome.Outcome.TheVariants.{Good, Untidy, Unresolved, Rejected, Failed, OutOfMemory}

-- The outcome of bytes: they are a document that describes a composition, or one that mentions foreign packages; or a diagnostic says what is wrong
-- with them first; or memory ran out.
abbrev pub IsCheckOf : List ℕ → Outcome → Type 0
IsCheckOf bytes Good = IsGood bytes true
IsCheckOf bytes Untidy = ⊥
IsCheckOf bytes Unresolved = IsUnresolved bytes true
IsCheckOf bytes Rejected = (d : Diagnostic) × IsVerdict bytes true (verdicts.Rejected d)
IsCheckOf bytes Failed = ⊥
IsCheckOf bytes OutOfMemory = Unit {0}

-- The outcome of what was read of a file, or of the failure to read it.
abbrev pub IsReadCheck : Result (Vec ℕ Global) FileError → Outcome → Type 0
IsReadCheck read outcome = MatchResult read (λ bytes. IsCheckOf bytes.items outcome) (λ error. IsFailure error outcome)

-- The outcome of what was found: of the file at its path, of which nobody asks whether it is tidy, or of its failure.
abbrev pub IsFoundCheck : Found → Outcome → Type 0
IsFoundCheck found outcome = MatchOption found.failure (outcome ≢ Untidy) (λ error. IsFailure error outcome)

-- All that was found came to these outcomes: to one each, in order.
abbrev pub AreChecks : List Found → List Outcome → Type 0
AreChecks [] [] = Unit {0}
AreChecks [] (_ ∷ _) = ⊥
AreChecks (_ ∷ _) [] = ⊥
AreChecks (found ∷ more) (outcome ∷ outcomes) = IsFoundCheck found outcome × AreChecks more outcomes
