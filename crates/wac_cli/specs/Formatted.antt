-- What became of files that were formatted.
use Rattle.std.specs.Prelude.{◌≡◌, ◌≢◌, ◌⊎◌, ℕ, List, ◌++◌, [], ◌∷◌, Result, Vec, IfOk, MatchOption, MatchResult, string_bytes}
use Rattle.std.specs.declared.alloc.Global.{Global}
use Rattle.wac_files.specs.Replacements.{Replacement}
use Rattle.wac_files.specs.declared.error.FileError.{FileError}
use Rattle.wac_files.specs.declared.error.FileError.TheVariants as errors
use Rattle.wac_files.specs.declared.walk.Found.{Found}
use Rattle.wac_cli_console.specs.Outcomes.{IsFailure}
use Rattle.wac_cli.specs.Replacing.{IsFormatting}
use Rattle.wac_cli_console.specs.declared.options.Action.TheVariants.{Write}
use Rattle.wac_cli.specs.declared.options.FormatOptions.{FormatOptions}
use Rattle.wac_cli_console.specs.declared.outcome.Outcome.{Outcome}
use Rattle.wac_cli_console.specs.declared.outcome.Outcome.TheVariants.{Good, Untidy, Unresolved, Rejected, Failed, OutOfMemory}

-- The file at this path was made to hold its tidy text, and nothing else was replaced.
abbrev pub IsReplaced : FormatOptions → List ℕ → List Replacement → List Replacement → Type 0
IsReplaced options path before after =
    (r : Replacement) × (r.path ≡ path) × IsFormatting options r × (after ≡ before ++ r ∷ [])

-- The outcome of the file at a path, and what was replaced before and after. One that isn't tidy is made to hold its
-- tidy text, or stays as it is where nothing was to be written. Memory can run out after a file was replaced too.
abbrev pub ComesTo : FormatOptions → List ℕ → Outcome → List Replacement → List Replacement → Type 0
ComesTo options path Good before after = after ≡ before
ComesTo options path Untidy before after =
    IsReplaced options path before after ⊎ ((options.action ≢ Write) × (after ≡ before))
ComesTo options path Unresolved before after = ⊥
ComesTo options path Rejected before after = after ≡ before
ComesTo options path Failed before after = after ≡ before
ComesTo options path OutOfMemory before after = (after ≡ before) ⊎ IsReplaced options path before after

-- The file at a path could not be read or written, and so was not replaced, or memory ran out.
abbrev pub FailsWith : FormatOptions → List ℕ → FileError → List Replacement → List Replacement → Type 0
FailsWith options path error before after =
    (after ≡ before) ⊎ ((error ≡ errors.OutOfMemory) × IsReplaced options path before after)

-- The outcome of what was found: of the file at its path, or of its failure, by which nothing was replaced.
abbrev pub FoundComesTo : FormatOptions → Found → Outcome → List Replacement → List Replacement → Type 0
FoundComesTo options found outcome before after =
    MatchOption found.failure
    (ComesTo options (string_bytes found.path) outcome before after)
    (λ error. IsFailure error outcome × (after ≡ before))

-- All that was found came to these outcomes: to one each, in order, one file after another.
abbrev pub ComeTo : FormatOptions → List Found → List Outcome → List Replacement → List Replacement → Type 0
ComeTo options [] [] before after = after ≡ before
ComeTo options [] (_ ∷ _) before after = ⊥
ComeTo options (_ ∷ _) [] before after = ⊥
ComeTo options (found ∷ more) (outcome ∷ outcomes) before after =
    (between : List Replacement)
    × FoundComesTo options found outcome before between
    × ComeTo options more outcomes between after

-- Formatting the file at a path returns its outcome, or why it failed.
abbrev pub ReturnsOutcome : FormatOptions → List ℕ → Result Outcome FileError → List Replacement → List Replacement
    → Type 0
ReturnsOutcome options path result before after =
    MatchResult result
    (λ outcome. ComesTo options path outcome before after)
    (λ error. FailsWith options path error before after)

-- Where formatting all that was found succeeds, it returns an outcome for each.
abbrev pub ReturnsOutcomes : {E : Type 0} → FormatOptions → List Found → Result (Vec Outcome Global) E → List Replacement
    → List Replacement → Type 0
ReturnsOutcomes options all result before after =
    IfOk result (λ outcomes. ComeTo options all outcomes.items before after)
