-- The replies among the messages of a server.
use Rattle.std.specs.Prelude.{List, [], ◌∷◌, Option, Some, None, string_bytes}
use Rattle.wac_lsp_messages.specs.Replying.{IsReplyTo}
use Rattle.wac_lsp_messages.specs.declared.id.Id.{Id}
use Rattle.wac_lsp_messages.specs.declared.message.Message.{Message}
use Rattle.wac_lsp_messages.specs.declared.message.Message.TheVariants as messages
use Rattle.wac_lsp.specs.declared.server.Sent.{Sent}
use Rattle.wac_lsp.specs.declared.server.Sent.TheVariants as sent

-- the ids of the replies among messages, in order
abbrev pub replies : List Sent → List (Option Id)
replies [] = []
replies (sent.Reply id body ∷ more) = id ∷ replies more
replies (sent.Notification body ∷ more) = replies more

-- what is replied to a message: to a request once, with its id; to what is no message once, without one; to all else
-- nothing
abbrev pub replied_to : Message → List (Option Id)
replied_to (messages.Request id call) = Some id ∷ []
replied_to (messages.Notification notice) = []
replied_to messages.Reply = []
replied_to (messages.Wrong why) = None ∷ []

-- the text of each reply among messages has its id
abbrev pub AreReplies : List Sent → Type 0
AreReplies [] = Unit {0}
AreReplies (sent.Reply id body ∷ more) = IsReplyTo id (string_bytes body) × AreReplies more
AreReplies (sent.Notification body ∷ more) = AreReplies more
