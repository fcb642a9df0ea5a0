use Rattle.wac_tool_graphs.proofs.Common.{◌∙◌}
use Rattle.wac_tool_graphs.proofs.Agreeing.{if_led}
use Rattle.wac_tool_graphs.proofs.pairs.leader.Goals as goal

pub returns : goal.returns
returns c = if_led c.args.leaders.now.entries c.args.entry c.copied.result (c.copied.ensures ∙ c.get.ensures.value)
