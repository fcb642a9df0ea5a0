use Rattle.wac_ast_types.specs.Declarations.{named_type_of}
use Rattle.wac_names.specs.Steps.{named_type_steps}
use Rattle.wac_names.proofs.Taking.{none, next, all}
use Rattle.wac_names.proofs.types.named_types.Goals as goal

pub loop-one-init : goal.loop-one-init
loop-one-init c = none c.args.finder.now

pub loop-one-preserved : goal.loop-one-preserved
loop-one-preserved c = next named_type_of (named_type_steps c.args.here.level) c.args.all.now c.loop-one.one-index c.one-item.result c.args.finder.now c.loop-one.finder c.named_type.new.finder c.loop-one-test.true c.one-item.is c.loop-one.invariant c.in_ok-named_type.ensures

pub returns : goal.returns
returns c = all named_type_of (named_type_steps c.args.here.level) c.args.all.now c.loop-one.one-index c.args.finder.now c.loop-one.finder c.loop-one-test.false c.loop-one.invariant
