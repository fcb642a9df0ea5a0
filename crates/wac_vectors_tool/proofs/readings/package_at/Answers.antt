use Rattle.std.proofs.Common.{◌<◌, length, sym, subst}
use Rattle.std.specs.List.{AllByRecursion}
use Rattle.wac_vectors_tool.proofs.readings.package_at.Goals as goal

pub loop-id-init : goal.loop-id-init
loop-id-init c = subst (AllByRecursion (λ k. k < length c.args.graph.now.packages)) (sym c.into_iter-id-iterator.ensures.into_iter_gives) c.packages-id-items.ensures.there

pub loop-id-preserved : goal.loop-id-preserved
loop-id-preserved c = (subst (AllByRecursion (λ k. k < length c.args.graph.now.packages)) c.in-Some.ensures.steps c.loop-id.invariant).1
