-- Notifications among messages.
use Rattle.std.proofs.Common.{◌≡◌, refl, List, [], ◌∷◌, ◌++◌}
use Rattle.std.specs.Prelude.{String}
use Rattle.std.specs.declared.alloc.Global.{Global}
use Rattle.wac_lsp.specs.declared.server.Sent.{Sent}
use Rattle.wac_lsp.specs.declared.server.Sent.TheVariants as sent
use Rattle.wac_lsp.specs.Replies.{AreReplies, replies}

-- a notification more is no reply
pub notified : (messages : List Sent) (body : String Global) → replies messages ≡ [] → replies (messages ++ sent.Notification body ∷ []) ≡ []
notified [] body none = refl
notified (sent.Reply id text ∷ more) body none = cc
notified (sent.Notification text ∷ more) body none = notified more body none

-- the replies stay what they are
pub still_replies : (messages : List Sent) (body : String Global) → AreReplies messages → AreReplies (messages ++ sent.Notification body ∷ [])
still_replies [] body all = tt
still_replies (sent.Reply id text ∷ more) body all = (all.0, still_replies more body all.1)
still_replies (sent.Notification text ∷ more) body all = still_replies more body all
