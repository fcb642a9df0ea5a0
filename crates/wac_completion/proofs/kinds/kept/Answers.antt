use Rattle.wac_completion.specs.Standing.{CanFollow}
use Rattle.wac_completion.proofs.Ends.{no, yes}
use Rattle.wac_completion.proofs.Keeping.{kept_all, kept_none, kept_one}
use Rattle.wac_completion.proofs.kinds.kept.Goals as goal

pub loop-kind-preserved-then-not-can : goal.loop-kind-preserved-then-not-can
loop-kind-preserved-then-not-can c =
    kept_none (CanFollow c.args.text.now) c.args.kinds.now c.loop-kind.found.items c.loop-kind.kind-index _ c.loop-kind.invariant c.loop-kind-test.true
    (no (CanFollow c.args.text.now _) c.in_ok-can.can c.in_ok-can.ensures c.if-not-can.true)

pub loop-kind-preserved : goal.loop-kind-preserved
loop-kind-preserved c =
    kept_one (CanFollow c.args.text.now) c.args.kinds.now c.loop-kind.found.items c.push.new.self.items c.loop-kind.kind-index _ c.loop-kind.invariant c.loop-kind-test.true
    (yes (CanFollow c.args.text.now _) c.in_ok-can.can c.in_ok-can.ensures c.if-not-can.false) c.in_ok-push.ensures.items

pub returns : goal.returns
returns c = kept_all (CanFollow c.args.text.now) c.args.kinds.now c.loop-kind.found.items c.loop-kind.kind-index c.loop-kind.invariant c.loop-kind-test.false
