use Rattle.std.proofs.Common.{◌<◌, length, sym, subst}
use Rattle.std.specs.List.{AllByRecursion}
use Rattle.wac_vectors_component_rules.proofs.pairs.node_named.Goals as goal

pub loop-node-init : goal.loop-node-init
loop-node-init c = subst (AllByRecursion (λ k. k < length c.args.graph.now.nodes)) (sym c.into_iter-node-iterator.ensures.into_iter_gives) c.nodes-node-items.ensures.there

pub loop-node-preserved : goal.loop-node-preserved
loop-node-preserved c = (subst (AllByRecursion (λ k. k < length c.args.graph.now.nodes)) c.in-Some.ensures.steps c.loop-node.invariant).1
