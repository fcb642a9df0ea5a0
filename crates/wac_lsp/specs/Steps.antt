-- What a server does after a message, by the bytes of its body.
use Rattle.std.specs.Prelude.{◌≡◌, ℕ, List}
use Rattle.wac_lsp_messages.specs.Meaning.{IsMessageIn}
use Rattle.wac_lsp_messages.specs.declared.message.Message.{Message}
use Rattle.wac_lsp.specs.Answers.{ServerAnswers}
use Rattle.wac_lsp.specs.Opened.{ServerHolds}
use Rattle.wac_lsp.specs.Replies.{AreReplies, replied_to, replies}
use Rattle.wac_lsp.specs.declared.server.Sent.{Sent}
use Rattle.wac_lsp.specs.declared.server.Server.{Server}

-- it is what `answer` does after a message that the body is
pub record Steps (old new : Server) (body : List ℕ) (sent : List Sent) : Type 0 where
  pub message : Message
  pub is_in : IsMessageIn body message
  pub ids : replies sent ≡ replied_to message
  pub written : AreReplies sent
  pub answers : ServerAnswers old message sent
  pub holds : ServerHolds old new message
