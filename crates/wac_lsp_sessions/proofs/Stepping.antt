-- Steps of a session.
use Rattle.std.proofs.Common.{◌≡◌, ℕ, List, Ok, Err}
use Rattle.std.specs.Prelude.{Result, IfOk}
use Rattle.wac_lsp_messages.specs.Meaning.{IsMessageIn}
use Rattle.wac_lsp_messages.specs.declared.message.Message.{Message}
use Rattle.wac_lsp.specs.Answers.{ServerAnswers}
use Rattle.wac_lsp.specs.Opened.{ServerHolds}
use Rattle.wac_lsp.specs.Replies.{AreReplies, replied_to, replies}
use Rattle.wac_lsp.specs.Steps.{Steps}
use Rattle.wac_lsp.specs.declared.server.Server.{Server}
use Rattle.wac_lsp_sessions.specs.declared.session.Stepped.{Stepped}

-- what is done after a message is done after its body
pub stepped : {E : Type 0} (old new : Server) (body : List ℕ) (message : Message) (done : Result Stepped E)
    → IsMessageIn body message → IfOk done (λ stepped. replies stepped.outcome.messages.items ≡ replied_to message) → IfOk done (λ stepped. AreReplies stepped.outcome.messages.items)
    → IfOk done (λ stepped. ServerAnswers old message stepped.outcome.messages.items)
    → IfOk done (λ stepped. ServerHolds old new message) → IfOk done (λ stepped. Steps old new body stepped.outcome.messages.items)
stepped old new body message (Ok done) is_in ids written answers holds = record { message = message; is_in = is_in; ids = ids; written = written; answers = answers; holds = holds }
stepped old new body message (Err error) is_in ids written answers holds = tt
