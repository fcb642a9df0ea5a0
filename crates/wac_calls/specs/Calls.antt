-- What a call of a word comes to.
use Rattle.std.specs.Prelude.{◌⊎◌, ℕ, List, IsUtf8}
use Rattle.wac_calls.specs.Told.{IsFlat, IsNoText, IsTooDeep, Told}
use Rattle.wac_calls.specs.declared.answer.Answer.{Answer}
use Rattle.wac_calls.specs.declared.outcome.Outcome.{Outcome}
use Rattle.wac_calls.specs.Commands.{SaysCommand}
use Rattle.wac_calls.specs.Errors.{SaysErrors}
use Rattle.wac_calls.specs.Tidying.{SaysTidy}
use Rattle.wac_calls.specs.declared.calls.Task.{Task}
use Rattle.wac_calls.specs.declared.word.Word.{Word}
use Rattle.wac_calls.specs.declared.word.Word.TheVariants.{Wac, Tidy, Errors}

-- What a word comes to where no bracket is nested too deep. Only the first error is asked for of bytes that are no
-- text.
abbrev pub Says : Word → List ℕ → Outcome → Type 0
Says (Wac command) source outcome = IsNoText source outcome ⊎ (IsUtf8 source × SaysCommand command source outcome)
Says Tidy source outcome = IsNoText source outcome ⊎ (IsUtf8 source × SaysTidy source outcome)
Says Errors source outcome = SaysErrors source outcome

-- what a word comes to for a source
abbrev pub Comes : Task → List ℕ → Outcome → Type 0
Comes task source outcome =
    IsTooDeep task.limit source outcome ⊎ (IsFlat task.limit source × Says task.word source outcome)

-- what a call of a word tells of a source
abbrev pub Answered : Task → List ℕ → Answer → List ℕ → List ℕ → List ℕ → List ℕ → Type 0
Answered task source answer out out' said said' = Told (Comes task source) answer out out' said said'
