use Rattle.std.proofs.Common.{◌≡◌, []}
use Rattle.wac_lsp.specs.Replies.{AreReplies, replies}
use Rattle.wac_lsp.proofs.server.Server.refreshed.Given as goal

abbrev pub invariant-loop-document : goal.invariant-loop-document
invariant-loop-document l = record {
  none : replies l.messages.items ≡ [];
  written : AreReplies l.messages.items;
}
