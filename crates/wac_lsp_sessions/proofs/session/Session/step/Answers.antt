use Rattle.wac_lsp_sessions.proofs.Stepping.{stepped}
use Rattle.wac_lsp_sessions.proofs.session.Session.step.Goals as goal

pub returns : goal.returns
returns c = stepped _ _ _ _ _ c.in_ok-message.ensures c.prepared.ensures.ids c.prepared.ensures.written c.prepared.ensures.answers c.prepared.ensures.holds
