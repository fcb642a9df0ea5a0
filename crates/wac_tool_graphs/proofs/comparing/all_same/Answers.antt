use Rattle.wac_tool_graphs.proofs.Common.{sym}
use Rattle.wac_tool_graphs.proofs.Reaching.{step, end, refute}
use Rattle.wac_tool_graphs.proofs.comparing.all_same.Goals as goal

pub returns-in-None : goal.returns-in-None
returns-in-None c = end c.args.entries.now c.requires c.loop-at.at c.args.pairs.now c.loop-at.pairs (sym c.in-None.ensures) c.loop-at.invariant

pub returns-then-not-branch : goal.returns-then-not-branch
returns-then-not-branch c = refute c.args.entries.now c.requires c.loop-at.at c.in-Some.first c.in-Some.second c.args.pairs.now c.loop-at.pairs c.add_pair.new.pairs (sym c.in-Some.ensures)
    (λ o one. rw (sym c.if-not-branch.true) (c.in_ok-add_pair-in-Some.ensures.reduces o one)) c.loop-at.invariant

pub loop-at-preserved : goal.loop-at-preserved
loop-at-preserved c = step c.args.entries.now c.requires c.loop-at.at c.in-Some.first c.in-Some.second c.args.pairs.now c.loop-at.pairs c.add_pair.new.pairs (sym c.in-Some.ensures) c.in_ok-add_pair-in-Some.ensures.within
    (λ o one. rw (sym c.if-not-branch.false) (c.in_ok-add_pair-in-Some.ensures.reduces o one)) c.loop-at.invariant
