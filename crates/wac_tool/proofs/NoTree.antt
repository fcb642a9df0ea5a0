-- What is returned for a source that has no tree.
use Rattle.wac_tool.proofs.Common.{◌≡◌, ◌∙◌, ℕ, List, Option, Some, Err, inl, refl, ⊎_elim, Span, ◌⊎◌, ◌≢◌, IsUtf8, alloc_error, string_bytes, Document, IsTreeOf}
use Rattle.wac_ast.specs.Document.{ErrorOf}
use Rattle.wac_ast_base.specs.Error.{told_by}
use Rattle.wac_ast_base.specs.declared.error.Error.{Error}
use Rattle.wac_ast_base.specs.declared.error.Error.TheVariants as errors
use Rattle.wac_tool.specs.Running.{Answers, IsRefusal, HasNoTree, Refuses, Rejects, place_of}
use Rattle.wac_tool.specs.declared.command.Command.{Command}
use Rattle.wac_tool.specs.declared.error.RunError.{RunError}
use Rattle.wac_tool.specs.declared.error.RunError.TheVariants.{Refused, Input, Output, Memory, NotUtf8}

-- an error has a place, unless memory ran out
lies : (e : Error) → e ≢ errors.Memory alloc_error → (at : Span) × (place_of (told_by e) ≡ Some at)
lies (errors.Lexer fault span) h = (span, refl)
lies (errors.Expected token found span) h = (span, refl)
lies (errors.ExpectedEither first second found span) h = (span, refl)
lies (errors.ExpectedMultiple tokens count found span) h = (span, refl)
lies (errors.EmptyType ty kind span) h = (span, refl)
lies (errors.InvalidVersion version span) h = (span, refl)
lies (errors.Memory a) h = absurd (h refl)

-- This holds of each command that rejects a source where it has no tree.
pub rejects : (command : Command) (source : List ℕ) → ((place : Option Span) (text : List ℕ) → HasNoTree source place text → Refuses command source place text)
    → (e : Error) (answer : RunError) → ((tree : Document) → IsTreeOf source tree → e ≡ errors.Memory alloc_error)
    → (e ≡ errors.Memory alloc_error) ⊎ ErrorOf (told_by e) source → IsRefusal e answer → Rejects command source answer
rejects command source shown e (Refused place message) only told is =
    let at = lies e is.1 in
    shown place (string_bytes message) (λ tree t. is.1 (only tree t), (told_by e, at.0, ⊎_elim (λ m. absurd (is.1 m)) (λ x. x) told, at.1, is.0 ∙ at.1, is.2))
rejects command source shown e (Memory a) only told is = tt
rejects command source shown e Input only told is = absurd is
rejects command source shown e Output only told is = absurd is
rejects command source shown e NotUtf8 only told is = absurd is

-- Where a source was rejected, nothing was written.
pub rejected : (command : Command) (source : List ℕ) (answer : RunError) (old : List ℕ) → IsUtf8 source → Rejects command source answer → Answers command (Err answer) source old old
rejected command source (Refused place message) old utf8 is = (utf8, is, refl)
rejected command source (Memory a) old utf8 is = inl refl
rejected command source Input old utf8 is = absurd is
rejected command source Output old utf8 is = absurd is
rejected command source NotUtf8 old utf8 is = absurd is

-- Both together.
pub refuses : (command : Command) (source : List ℕ) → ((place : Option Span) (text : List ℕ) → HasNoTree source place text → Refuses command source place text)
    → (e : Error) (answer : RunError) (old : List ℕ) → IsUtf8 source → ((tree : Document) → IsTreeOf source tree → e ≡ errors.Memory alloc_error)
    → (e ≡ errors.Memory alloc_error) ⊎ ErrorOf (told_by e) source → IsRefusal e answer → Answers command (Err answer) source old old
refuses command source shown e answer old utf8 only told is = rejected command source answer old utf8 (rejects command source shown e answer only told is)
