-- What `fmt` makes of bytes.
use Rattle.std.specs.Prelude.{◌≡◌, ◌≢◌, ◌⊎◌, ℕ, Bool, true, false, List, string_bytes}
use Rattle.wac_comments.specs.Errors.{IsErrorOf}
use Rattle.wac_comments.specs.declared.error.TidyError.{TidyError}
use Rattle.wac_comments.specs.declared.error.TidyError.TheVariants.{Parse, NestedTooDeep, NotKept, Memory}
use Rattle.wac_cli.specs.Tidying.{IsText, IsTidyOf}
use Rattle.wac_cli.specs.declared.options.FormatOptions.{FormatOptions}
use Rattle.wac_cli.specs.declared.planning.Plan.{Plan}
use Rattle.wac_cli.specs.declared.planning.Plan.TheVariants.{Tidy, Untidy, Rejected}

-- whether memory ran out
abbrev pub is_memory : TidyError → Bool
is_memory (Parse _) = false
is_memory (NestedTooDeep _) = false
is_memory NotKept = false
is_memory (Memory _) = true

-- The bytes are no text, or tidying them failed, and not since memory ran out.
abbrev pub IsRejected : List ℕ → Type 0
IsRejected bytes = ¬ (IsText bytes) ⊎ ((error : TidyError) × IsErrorOf bytes error × (is_memory error ≡ false))

abbrev pub IsPlan : FormatOptions → List ℕ → Plan → Type 0
IsPlan options bytes Tidy = IsTidyOf options bytes bytes
IsPlan options bytes (Untidy text) = IsTidyOf options bytes (string_bytes text) × (string_bytes text ≢ bytes)
IsPlan options bytes (Rejected _) = IsRejected bytes
