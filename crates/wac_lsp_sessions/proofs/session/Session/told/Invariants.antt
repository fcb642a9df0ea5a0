use Rattle.std.proofs.Common.{◌≡◌, []}
use Rattle.wac_lsp.specs.Replies.{AreReplies, replies}
use Rattle.wac_lsp_sessions.proofs.session.Session.told.Given as goal

abbrev pub invariant-loop-line : goal.invariant-loop-line
invariant-loop-line l = record {
  none : replies l.messages.items ≡ [];
  written : AreReplies l.messages.items;
}
