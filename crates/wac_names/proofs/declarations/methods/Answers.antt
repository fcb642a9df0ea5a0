use Rattle.wac_ast_types.specs.Declarations.{resource_method_of}
use Rattle.wac_names.specs.Steps.{method_steps}
use Rattle.wac_names.proofs.Taking.{none, next, all}
use Rattle.wac_names.proofs.declarations.methods.Goals as goal

pub loop-one-init : goal.loop-one-init
loop-one-init c = none c.args.finder.now

pub loop-one-preserved : goal.loop-one-preserved
loop-one-preserved c = next resource_method_of (method_steps c.args.here.level) c.args.methods.now c.loop-one.one-index c.one-item.result c.args.finder.now c.loop-one.finder c.constructor_or_method.new.finder c.loop-one-test.true c.one-item.is c.loop-one.invariant c.in_ok-constructor_or_method.ensures

pub returns : goal.returns
returns c = all resource_method_of (method_steps c.args.here.level) c.args.methods.now c.loop-one.one-index c.args.finder.now c.loop-one.finder c.loop-one-test.false c.loop-one.invariant
