use Rattle.wac_tool_graphs.proofs.Common.{◌∙◌}
use Rattle.wac_tool_graphs.proofs.pairs.root.Goals as goal

pub returns-in-None-clause-kept : goal.returns-in-None-clause-kept
returns-in-None-clause-kept c = λ means h. (c.loop.invariant means h).0

pub returns-in-None-clause-root : goal.returns-in-None-clause-root
returns-in-None-clause-root c = λ means h. (c.loop.invariant means h).1

pub returns-in-None-leader-clause-kept : goal.returns-in-None-leader-clause-kept
returns-in-None-leader-clause-kept c = λ means h. (c.loop.invariant means h).0

pub returns-in-None-leader-clause-root : goal.returns-in-None-leader-clause-root
returns-in-None-leader-clause-root c = λ means h. (let so_far = c.loop.invariant means h in so_far.1 ∙ c.in-Some.ensures means so_far.0)

pub returns-in_err-lead-in-Some-leader-clause-kept : goal.returns-in_err-lead-in-Some-leader-clause-kept
returns-in_err-lead-in-Some-leader-clause-kept c = λ means h. (let so_far = c.loop.invariant means h in
    c.lead.ensures means so_far.0 (c.in-Some.ensures means so_far.0 ∙ c.in-Some-leader.ensures means so_far.0))

pub loop-preserved : goal.loop-preserved
loop-preserved c = λ means h. (let so_far = c.loop.invariant means h in
    let up = c.in-Some.ensures means so_far.0 ∙ c.in-Some-leader.ensures means so_far.0 in
    (c.lead.ensures means so_far.0 up, so_far.1 ∙ up))

pub returns-clause-kept : goal.returns-clause-kept
returns-clause-kept c = λ means h. (c.loop.invariant means h).0
