-- What a command of `wac` comes to.
use Rattle.std.specs.Prelude.{◌≡◌, ℕ, List, IsUtf8, string_bytes}
use Rattle.wac_tool.specs.Running.{Refuses, Writes}
use Rattle.wac_tool.specs.declared.command.Command.{Command}
use Rattle.wac_tool.specs.declared.error.RunError.{RunError}
use Rattle.wac_tool.specs.declared.error.RunError.TheVariants as errors
use Rattle.wac_calls.specs.declared.outcome.Outcome.{Outcome}
use Rattle.wac_calls.specs.declared.outcome.Outcome.TheVariants.{Written, Rejected, NotUtf8, OutOfMemory, NestedTooDeep, BadPackage}

-- the command writes this of the source, or rejects it so
abbrev pub SaysCommand : Command → List ℕ → Outcome → Type 0
SaysCommand command source (Written text) = Writes command source text.items
SaysCommand command source (Rejected place message) = Refuses command source place (string_bytes message)
SaysCommand command source NotUtf8 = ¬ (IsUtf8 source)
SaysCommand command source OutOfMemory = Unit {0}
SaysCommand command source (NestedTooDeep at) = ⊥
SaysCommand command source (BadPackage at message) = ⊥

-- A command of a text in memory fails so. What is written is kept in memory, so a writer that fails is out of it.
abbrev pub Fails : Command → List ℕ → RunError → Type 0
Fails command source (errors.Refused place message) = Refuses command source place (string_bytes message)
Fails command source errors.NotUtf8 = ¬ (IsUtf8 source)
Fails command source errors.Input = ⊥
Fails command source errors.Output = Unit {0}
Fails command source (errors.Memory e) = Unit {0}

-- whatever the command and the source: where the command fails so, this is what it comes to
abbrev pub SaysFailed : RunError → Outcome → Type 0
SaysFailed error outcome =
    (command : Command) (source : List ℕ) → Fails command source error → SaysCommand command source outcome
