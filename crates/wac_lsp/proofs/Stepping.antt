-- Steps of a server.
use Rattle.std.proofs.Common.{◌≡◌, ℕ, List, Ok, Err}
use Rattle.std.specs.Prelude.{Result, IfOk}
use Rattle.wac_lsp_messages.specs.Meaning.{IsMessageIn}
use Rattle.wac_lsp_messages.specs.declared.message.Message.{Message}
use Rattle.wac_lsp.specs.Answers.{ServerAnswers}
use Rattle.wac_lsp.specs.Opened.{ServerHolds}
use Rattle.wac_lsp.specs.Replies.{AreReplies, replied_to, replies}
use Rattle.wac_lsp.specs.Steps.{Steps}
use Rattle.wac_lsp.specs.declared.server.Outcome.{Outcome}
use Rattle.wac_lsp.specs.declared.server.Server.{Server}

-- what is done after a message is done after its body
pub stepped : {E : Type 0} (old new : Server) (body : List ℕ) (message : Message) (done : Result Outcome E)
    → IsMessageIn body message → IfOk done (λ outcome. replies outcome.messages.items ≡ replied_to message) → IfOk done (λ outcome. AreReplies outcome.messages.items)
    → IfOk done (λ outcome. ServerAnswers old message outcome.messages.items)
    → IfOk done (λ outcome. ServerHolds old new message) → IfOk done (λ outcome. Steps old new body outcome.messages.items)
stepped old new body message (Ok outcome) is_in ids written answers holds = record { message = message; is_in = is_in; ids = ids; written = written; answers = answers; holds = holds }
stepped old new body message (Err error) is_in ids written answers holds = tt
