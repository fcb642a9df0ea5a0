use Rattle.wac_names.proofs.Alone.{left}
use Rattle.wac_names.proofs.standing.are_found.Goals as goal

pub loop-mention-preserved : goal.loop-mention-preserved
loop-mention-preserved c =
    left c.args.mentions.now c.loop-mention.mention-index c.mention-item.result c.args.all.now c.loop-mention.rest.now c.in-Some.left.now c.loop-mention.invariant c.loop-mention-test.true c.mention-item.is c.in-Some.ensures
