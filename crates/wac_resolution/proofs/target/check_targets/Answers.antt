use Rattle.wac_resolution.proofs.Common.{package_path_of, error_model, reports, on_ok, if_err, rules_of}
use Rattle.wac_resolution.proofs.Ending.{target_met, no_target, target_missed}
use Rattle.wac_resolution.proofs.target.check_targets.Goals as goal

pub returns-in-Some-clause-ok : goal.returns-in-Some-clause-ok
returns-in-Some-clause-ok g c =
    rw c.in-Some.is
    (on_ok _ _ c.check_target.result (target_met c.args.scope.now.context.now (rules_of g.R.Rules c.args.scope.now.rules.now) c.args.state.now.graph c.check_target.new.state.graph c.args.scope.now.root.now (package_path_of c.in-Some.target) c.requires.agrees) c.check_target.ensures.ok)

pub returns-in-Some-clause-err : goal.returns-in-Some-clause-err
returns-in-Some-clause-err g c =
    rw c.in-Some.is
    (if_err _ _ c.check_target.result (λ e u. reports u (target_missed c.args.scope.now.context.now (rules_of g.R.Rules c.args.scope.now.rules.now) c.args.state.now.graph c.args.scope.now.root.now c.args.externs.now (package_path_of c.in-Some.target) (error_model e))) c.check_target.ensures.err)

pub returns-in-None-clause-ok : goal.returns-in-None-clause-ok
returns-in-None-clause-ok g c = rw c.in-None.is (no_target c.args.scope.now.context.now (rules_of g.R.Rules c.args.scope.now.rules.now) c.args.state.now.graph c.args.scope.now.root.now c.requires.supplied)
