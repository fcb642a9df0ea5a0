-- What a call told its caller of the outcome that it came to.
use Rattle.std.specs.Prelude.{◌≡◌, ℕ, List, Some, None, IsUtf8}
use Rattle.wac_lexer.specs.Span.{Span}
use Rattle.wac_calls.specs.Nesting.{first_deeper}
use Rattle.wac_calls.specs.Answers.{Ends, PutsMessage, PutsText}
use Rattle.wac_calls.specs.declared.answer.Answer.{Answer}
use Rattle.wac_calls.specs.declared.outcome.Outcome.{Outcome}
use Rattle.wac_calls.specs.declared.outcome.Outcome.TheVariants.{NotUtf8, NestedTooDeep}

-- bytes that are no text
abbrev pub IsNoText : List ℕ → Outcome → Type 0
IsNoText source outcome = ¬ (IsUtf8 source) × (outcome ≡ NotUtf8)

-- a bracket of the text is nested deeper than the limit, and the outcome has the first one
abbrev pub IsTooDeep : ℕ → List ℕ → Outcome → Type 0
IsTooDeep limit source outcome =
    IsUtf8 source × ((at : Span) × (first_deeper limit source ≡ Some at) × (outcome ≡ NestedTooDeep at))

-- no bracket of a text is nested deeper than the limit
abbrev pub IsFlat : ℕ → List ℕ → Type 0
IsFlat limit source = IsUtf8 source → first_deeper limit source ≡ None

-- What a call returned, and what the room for what is written and the room for a message then hold: they tell what the
-- call comes to.
pub record Told (Comes : Outcome → Type 0) (answer : Answer) (out out' said said' : List ℕ) : Type 0 where
  pub outcome : Outcome
  pub comes : Comes outcome
  pub ends : Ends outcome answer
  pub text : PutsText outcome answer out out'
  pub message : PutsMessage outcome answer said said'
