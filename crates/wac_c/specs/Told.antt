-- What a call from C comes to.
use Rattle.std.specs.Prelude.{◌≡◌, ◌≢◌, ◌⊎◌, ℕ, ◌==◌, List, Option, Some, None, if◌then◌else◌}
use Rattle.wac_lexer.specs.Span.{Span}
use Rattle.wac_calls.specs.Calls.{Answered}
use Rattle.wac_calls.specs.Compositions.{ComesToGraph}
use Rattle.wac_calls.specs.Numbers.{status_number, word_number}
use Rattle.wac_calls.specs.Told.{Told}
use Rattle.wac_calls.specs.declared.answer.Answer.{Answer}
use Rattle.wac_calls.specs.declared.answer.Status.TheVariants.{Unknown}
use Rattle.wac_calls.specs.declared.calls.Task.{Task}
use Rattle.wac_calls.specs.declared.word.Word.{Word}
use Rattle.wac_c.specs.declared.answer.WacAnswer.{WacAnswer}

-- the limit of nested brackets that is meant
abbrev pub limit_of : ℕ → ℕ
limit_of limit = if limit == 0 then 256 else limit

-- a place at fault in three numbers
abbrev pub IsPlace : Option Span → ℕ → ℕ → ℕ → Type 0
IsPlace (Some s) has_place offset len = (has_place ≡ 1) × (offset ≡ s.offset) × (len ≡ s.len)
IsPlace None has_place offset len = (has_place ≡ 0) × (offset ≡ 0) × (len ≡ 0)

-- an answer as C has it
pub record Tells (answer : Answer) (told : WacAnswer) : Type 0 where
  pub status : told.status ≡ status_number answer.status
  pub place : IsPlace answer.place told.has_place told.offset told.length
  pub written : told.written ≡ answer.written
  pub needed : told.needed ≡ answer.needed
  pub message_written : told.message_written ≡ answer.message_written
  pub message_needed : told.message_needed ≡ answer.message_needed

-- the answer where no word has the number
pub record IsUnknown (told : WacAnswer) : Type 0 where
  pub status : told.status ≡ status_number Unknown
  pub place : IsPlace None told.has_place told.offset told.length
  pub written : told.written ≡ 0
  pub needed : told.needed ≡ 0
  pub message_written : told.message_written ≡ 0
  pub message_needed : told.message_needed ≡ 0

abbrev pub task_of : Word → ℕ → Task
task_of word limit = record { word = word; limit = limit_of limit }

-- the call of the word of a number
abbrev pub RunsWord : ℕ → ℕ → List ℕ → WacAnswer → List ℕ → List ℕ → List ℕ → List ℕ → Type 0
RunsWord number limit source told out out' message message' =
    (word : Word) × (answer : Answer) × (number ≡ word_number word)
    × Answered (task_of word limit) source answer out out' message message' × Tells answer told

-- no word has the number
abbrev pub IsNoWord : ℕ → Type 0
IsNoWord number = (word : Word) → number ≢ word_number word

-- What a call leaves in the answer, in the room for what is written and in that for a message: what the word of the
-- number comes to, or, where no word has it, all room as it was.
abbrev pub Runs : ℕ → ℕ → List ℕ → WacAnswer → List ℕ → List ℕ → List ℕ → List ℕ → Type 0
Runs number limit source told out out' message message' =
    RunsWord number limit source told out out' message message'
    ⊎ (IsNoWord number × IsUnknown told × (out' ≡ out) × (message' ≡ message))

-- what a call of a graph leaves there
abbrev pub Graphs : ℕ → List ℕ → List ℕ → WacAnswer → List ℕ → List ℕ → List ℕ → List ℕ → Type 0
Graphs limit source packages told out out' message message' =
    (answer : Answer) × Told (ComesToGraph (limit_of limit) source packages) answer out out' message message'
    × Tells answer told
