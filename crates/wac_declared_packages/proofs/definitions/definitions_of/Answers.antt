use Rattle.wac_declared_packages.proofs.Common.{by_name}
use Rattle.wac_declared_packages.proofs.Defining.{defining_new, defining_step, defining_end}
use Rattle.wac_declared_packages.proofs.definitions.definitions_of.Goals as goal

pub push-requires : goal.push-requires
push-requires c = defining_new c.args.graph.now (by_name c.loop-name.all.entries) c.loop-name.name-iterator c.next.new.self (c.in-Some.name.now, c.in-Some.node.0) c.in-Some.ensures.steps c.loop-name.invariant

pub loop-name-preserved : goal.loop-name-preserved
loop-name-preserved c = defining_step c.args.graph.now (by_name c.loop-name.all.entries) (by_name c.push.new.all.entries) c.loop-name.name-iterator c.next.new.self (c.in-Some.name.now, c.in-Some.node.0) c.kind.result c.in-Some.ensures.steps c.loop-name.invariant c.kind.ensures.kind c.in_ok-push.ensures.ok

pub returns : goal.returns
returns c = defining_end c.args.graph.now (by_name c.loop-name.all.entries) c.loop-name.name-iterator c.in-None.ensures.steps.0 c.loop-name.invariant
