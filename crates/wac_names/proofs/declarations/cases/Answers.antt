use Rattle.wac_ast_types.specs.Declarations.{variant_case_of}
use Rattle.wac_names.specs.Steps.{case_steps}
use Rattle.wac_names.proofs.Taking.{none, next, all}
use Rattle.wac_names.proofs.declarations.cases.Goals as goal

pub loop-one-init : goal.loop-one-init
loop-one-init c = none c.args.finder.now

pub loop-one-preserved : goal.loop-one-preserved
loop-one-preserved c = next variant_case_of (case_steps c.args.here.level) c.args.cases.now c.loop-one.one-index c.one-item.result c.args.finder.now c.loop-one.finder c.case.new.finder c.loop-one-test.true c.one-item.is c.loop-one.invariant c.in_ok-case.ensures

pub returns : goal.returns
returns c = all variant_case_of (case_steps c.args.here.level) c.args.cases.now c.loop-one.one-index c.args.finder.now c.loop-one.finder c.loop-one-test.false c.loop-one.invariant
