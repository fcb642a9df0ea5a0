-- What a command has written of a text in memory, and how it fails.
use Rattle.std.proofs.Common.{◌≡◌, ◌∙◌, ℕ, ◌+◌, List, [], ◌++◌, arith, ap, subst, sym, Some, Err}
use Rattle.std.specs.Prelude.{IsUtf8, string_bytes}
use Rattle.wac_tool.specs.Running.{Answers, ReadsAll, Refuses, Writes, input_failures}
use Rattle.wac_tool.specs.declared.command.Command.{Command}
use Rattle.wac_tool.specs.declared.error.RunError.{RunError}
use Rattle.wac_tool.specs.declared.error.RunError.TheVariants.{Refused, Input, Output, Memory, NotUtf8}
use Rattle.wac_calls.specs.Commands.{Fails}

-- what is kept is what the command writes of the text, where a feed had that text left, and a sink held nothing
pub writes_of : (command : Command) (text input left old new kept out : List ℕ) → input ≡ left → left ≡ text → old ≡ [] → new ≡ old ++ out
    → kept ≡ new → Writes command input out → Writes command text kept
writes_of command text input left old new kept out read is empty grown all writes =
    let written : out ≡ kept = sym (all ∙ grown ∙ ap (λ xs. xs ++ out) empty) in
    subst (λ s. Writes command s kept) (read ∙ is) (subst (λ o. Writes command input o) written writes)

-- how the command fails, where a feed that never fails had the text left
pub fails_of : (command : Command) (text input left old new : List ℕ) (e : RunError) → left ≡ text → ReadsAll {A = Unit {0}} (Err e) (Some left) input
    → Answers command (Err e) input old new → 0 ≡ 0 + input_failures {A = Unit {0}} (Err e) → Fails command text e
fails_of command text input left old new (Refused place message) is read answers none =
    subst (λ s. Refuses command s place (string_bytes message)) (read ∙ is) answers.1
fails_of command text input left old new Input is read answers none = absurd (omega arith)
fails_of command text input left old new Output is read answers none = tt
fails_of command text input left old new (Memory e) is read answers none = tt
fails_of command text input left old new NotUtf8 is read answers none = λ utf8. answers.0 (subst IsUtf8 (sym (read ∙ is)) utf8)
