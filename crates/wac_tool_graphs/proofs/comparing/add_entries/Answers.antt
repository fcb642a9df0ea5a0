use Rattle.wac_tool_graphs.proofs.Common.{refl}
use Rattle.wac_tool_graphs.proofs.Forms.{if_ok_leads, entries_reduce}
use Rattle.wac_tool_graphs.proofs.comparing.add_entries.Goals as goal

pub returns : goal.returns
returns c = if_ok_leads _ _ c.add_parts.result (λ same r p q apart.
    entries_reduce c.args.first.now c.args.second.now p q same _ _ ((c.if-not-same_label.ensures p q apart).0 refl) r) c.add_parts.ensures
