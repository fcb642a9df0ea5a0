use Rattle.std.proofs.Common.{◌<◌, length, sym, subst}
use Rattle.std.specs.List.{AllByRecursion}
use Rattle.wac_composition.proofs.conflicts.has_other.Goals as goal

pub loop-other-init : goal.loop-other-init
loop-other-init c = subst (AllByRecursion (λ k. k < length c.args.graph.now.nodes)) (sym c.into_iter-other-iterator.ensures.into_iter_gives) c.nodes-other-items.ensures.there

pub loop-other-preserved : goal.loop-other-preserved
loop-other-preserved c = (subst (AllByRecursion (λ k. k < length c.args.graph.now.nodes)) c.in-Some.ensures.steps c.loop-other.invariant).1
