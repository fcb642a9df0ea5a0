use Rattle.wac_cli.proofs.Common.{List, subst, arith, ◌∙◌, take_all, Found}
use Rattle.wac_cli.specs.Checked.{AreChecks}
use Rattle.wac_cli.proofs.Checked.{checks_step}
use Rattle.wac_cli.proofs.checking.check_each.Goals as goal

pub loop-found-preserved : goal.loop-found-preserved
loop-found-preserved g c = record {
  looks = c.check_found-outcome.ensures.looks ∙ c.loop-found.invariant.looks;
  checks =
      checks_step c.args.found.now c.loop-found.found-index c.found-item.result c.loop-found.outcomes.items c.push.new.self.items c.check_found-outcome.result
      c.loop-found-test.true c.found-item.is c.in_ok-push.ensures.items c.loop-found.invariant.checks c.check_found-outcome.ensures.outcome;
}

pub returns-clause-each : goal.returns-clause-each
returns-clause-each g c =
    let P : List Found → Type 0 = λ all. AreChecks all c.loop-found.outcomes.items in
    subst P (take_all c.loop-found.found-index c.args.found.now (omega arith)) c.loop-found.invariant.checks
