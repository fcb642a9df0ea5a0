use Rattle.std.proofs.Common.{◌∙◌, ap}
use Rattle.std.specs.Prelude.{option_and_then}
use Rattle.wac_names.specs.LookUps.{if_spelled, looked_up}
use Rattle.wac_names.specs.Traced.{step_of}
use Rattle.wac_names.proofs.Finding.{begun, in_turn, one_more, ended}
use Rattle.wac_names.proofs.found.found_in.Goals as goal

pub loop-step-init : goal.loop-step-init
loop-step-init c = begun c.args.source.now c.args.own.now c.args.steps.now c.new-scopes.result c.new-all.result.items c.new-scopes.ensures c.new-all.ensures.items

pub loop-step-preserved : goal.loop-step-preserved
loop-step-preserved c =
    one_more c.args.source.now c.args.own.now c.args.steps.now c.loop-step.step-index c.step-item.result c.loop-step.scopes c.take.new.self c.loop-step.all.items c.add.new.all.items c.spelled-found.result
    c.loop-step.invariant c.loop-step-test.true c.step-item.is c.in_ok-take.ensures
    (c.spelled-found.ensures ∙ ap (option_and_then (if_spelled c.args.source.now)) c.found_by.ensures ∙ in_turn c.args.source.now (looked_up c.args.own.now c.loop-step.scopes (step_of c.step-item.result)))
    c.in_ok-add.ensures

pub returns : goal.returns
returns c = ended c.args.source.now c.args.own.now c.args.steps.now c.loop-step.step-index c.loop-step.scopes c.loop-step.all.items c.loop-step.invariant c.loop-step-test.false
