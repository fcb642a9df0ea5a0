-- What the outcome of a file comes to, and the number that the program ends with.
use Rattle.std.specs.Prelude.{◌≡◌, ◌⊎◌, ℕ}
use Rattle.wac_files.specs.declared.error.FileError.{FileError}
use Rattle.wac_files.specs.declared.error.FileError.TheVariants as errors
use Rattle.wac_cli_console.specs.declared.options.Action.{Action}
use Rattle.wac_cli_console.specs.declared.options.Action.TheVariants.{Write, Check, Diff}
use Rattle.wac_cli_console.specs.declared.outcome.Outcome.{Outcome}
use Rattle.wac_cli_console.specs.declared.outcome.Outcome.TheVariants.{Good, Untidy, Unresolved, Rejected, Failed, OutOfMemory}
use Rattle.wac_cli_console.specs.declared.outcome.Status.{Status}
use Rattle.wac_cli_console.specs.declared.outcome.Status.TheVariants.{Well, Wrong, FileFailed, MemoryFailed}

-- The number that the program ends with.
abbrev pub code_of : Status → ℕ
code_of Well = 0
code_of Wrong = 1
code_of FileFailed = 3
code_of MemoryFailed = 4

-- What a file that was not tidy comes to: it is an error where nothing was to be written.
abbrev pub untidy_status : Action → Status
untidy_status Write = Well
untidy_status Check = Wrong
untidy_status Diff = Wrong

-- What the outcome of a file comes to.
abbrev pub status_of : Outcome → Action → Status
status_of Good _ = Well
status_of Untidy action = untidy_status action
status_of Unresolved _ = Well
status_of Rejected _ = Wrong
status_of Failed _ = FileFailed
status_of OutOfMemory _ = MemoryFailed

-- What becomes of a file by a failure.
abbrev pub failure_of : FileError → Outcome
failure_of errors.NotFound = Failed
failure_of errors.PermissionDenied = Failed
failure_of errors.ReadOnly = Failed
failure_of errors.NotAFile = Failed
failure_of errors.ChangedMeanwhile = Failed
failure_of errors.NameNotUtf8 = Failed
failure_of errors.NameTooLong = Failed
failure_of (errors.TooLarge _) = Failed
failure_of (errors.Interrupted _) = Failed
failure_of (errors.HalfWritten _) = Failed
failure_of (errors.System _) = Failed
failure_of errors.OutOfMemory = OutOfMemory

-- This outcome is that of a failure. Memory can run out while it is reported.
abbrev pub IsFailure : FileError → Outcome → Type 0
IsFailure error outcome = (outcome ≡ failure_of error) ⊎ (outcome ≡ OutOfMemory)
