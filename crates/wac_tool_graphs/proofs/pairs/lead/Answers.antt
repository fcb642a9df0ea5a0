use Rattle.wac_tool_graphs.proofs.Agreeing.{led}
use Rattle.wac_tool_graphs.proofs.pairs.lead.Goals as goal

pub returns-in-Ok : goal.returns-in-Ok
returns-in-Ok c = λ means h same. rw c.in-Ok.ensures.entries (led means c.args.leaders.now.entries c.args.entry c.args.leader h same)
