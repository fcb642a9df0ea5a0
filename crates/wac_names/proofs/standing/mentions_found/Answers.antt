use Rattle.std.proofs.Common.{◌∙◌}
use Rattle.wac_names.proofs.Alone.{one_more}
use Rattle.wac_names.proofs.standing.mentions_found.Goals as goal

pub loop-found-preserved : goal.loop-found-preserved
loop-found-preserved c =
    one_more c.args.all.now c.loop-found.found-index c.found-item.result c.loop-found.mentions.items c.push.new.self.items c.len.result c.loop-found.invariant c.loop-found-test.true c.found-item.is (c.len.ensures ∙ c.loop-found.mentions.ok.0) c.in_ok-push.ensures.items
