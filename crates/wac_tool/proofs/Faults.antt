-- What is returned for a source with a character that no text may have.
use Rattle.wac_tool.proofs.Common.{◌≡◌, ℕ, List, Some, Err, inl, refl, IsUtf8, Span, refused}
use Rattle.wac_lexer.specs.declared.error.Error.{Error as Fault}
use Rattle.wac_ast_base.specs.declared.error.Error.TheVariants as errors
use Rattle.wac_tool.specs.Running.{Answers, IsRefusal}
use Rattle.wac_tool.specs.declared.command.Command.TheVariants.{Tokens}
use Rattle.wac_tool.specs.declared.error.RunError.{RunError}
use Rattle.wac_tool.specs.declared.error.RunError.TheVariants.{Refused, Input, Output, Memory, NotUtf8}

-- Its items are not listed, and nothing was written.
pub not_listed : (source : List ℕ) (fault : Fault × Span) (answer : RunError) (old : List ℕ) → IsUtf8 source → refused source ≡ Some fault → IsRefusal (errors.Lexer fault.0 fault.1) answer → Answers Tokens (Err answer) source old old
not_listed source fault (Refused place message) old utf8 has is = (utf8, (fault.0, fault.1, has, is.0, is.2), refl)
not_listed source fault (Memory a) old utf8 has is = inl refl
not_listed source fault Input old utf8 has is = absurd is
not_listed source fault Output old utf8 has is = absurd is
not_listed source fault NotUtf8 old utf8 has is = absurd is
