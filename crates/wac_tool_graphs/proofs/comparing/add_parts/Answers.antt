use Rattle.wac_tool_graphs.proofs.Common.{refl, sym, arith, children}
use Rattle.wac_graph_types.proofs.Rows.{none_within}
use Rattle.wac_tool_graphs.proofs.Levels.{step, end, slots_deny, kinds_deny, lengths_deny}
use Rattle.wac_tool_graphs.proofs.comparing.add_parts.Goals as goal

pub returns-then-len-count : goal.returns-then-len-count
returns-then-len-count c = lengths_deny (children c.args.first.now) (children c.args.second.now) c.args.pairs.now (λ same. omega (arith, same))

pub returns-then-not-same : goal.returns-then-not-same
returns-then-not-same c = slots_deny (children c.args.first.now) (children c.args.second.now) c.loop-at.at _ _ _ _ (sym c.in-Some-Some.ensures) (sym c.in-Some-Some.ensures') (λ slot. let no = c.if-not-same.ensures.1 slot in cc) c.loop-at.invariant

pub returns-then-not-branch : goal.returns-then-not-branch
returns-then-not-branch c = kinds_deny (children c.args.first.now) (children c.args.second.now) c.loop-at.at _ _ _ _ _ (sym c.in-Some-Some.ensures) (sym c.in-Some-Some.ensures') (rw (sym c.if-not-branch.true) c.in_ok-add_kinds-in-Some-Some.ensures) c.loop-at.invariant

pub returns-in_default : goal.returns-in_default
returns-in_default c = absurd (none_within (children c.args.second.now) c.loop-at.at (sym c.in_default.ensures') (omega arith))

pub returns-in_default-2 : goal.returns-in_default-2
returns-in_default-2 c = absurd (none_within (children c.args.first.now) c.loop-at.at (sym c.in_default.ensures) (omega arith))

pub loop-at-preserved : goal.loop-at-preserved
loop-at-preserved c = step (children c.args.first.now) (children c.args.second.now) c.loop-at.at _ _ _ _ _ (sym c.in-Some-Some.ensures) (sym c.in-Some-Some.ensures') (c.if-not-same.ensures.0 refl) (rw (sym c.if-not-branch.false) c.in_ok-add_kinds-in-Some-Some.ensures) c.loop-at.invariant

pub returns : goal.returns
returns c = end (children c.args.first.now) (children c.args.second.now) c.loop-at.at _ _ (omega arith) (omega arith) c.loop-at.invariant
