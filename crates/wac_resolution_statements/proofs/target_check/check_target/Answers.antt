use Rattle.wac_resolution_statements.proofs.Common.{err_from_is_err_and, by_name, package_path_of, Reports, error_model, reports, items_named, rules_of}
use Rattle.wac_resolution_statements.specs.Outcome.{WorldMet, WorldUnmet, Meets, Unmeets}
use Rattle.wac_resolution_statements.specs.Testing.{testing}
use Rattle.wac_resolution_statements.proofs.Firsts.{as_ok, as_err}
use Rattle.wac_resolution_statements.proofs.Ending.{path_broken, no_world, target_met, target_unmet}
use Rattle.wac_resolution_statements.proofs.target_check.check_target.Goals as goal

pub path-requires-clause-root : goal.path-requires-clause-root
path-requires-clause-root g c = items_named c.args.state.now.graph c.args.scope.now.root.now c.requires.agrees

pub returns-in_err-kind-clause-err : goal.returns-in_err-kind-clause-err
returns-in_err-kind-clause-err g c =
    let p = err_from_is_err_and c.from_residual.result c.from_residual.ensures.1 in
    rw (p.1, p.2) (reports c.in_err-kind.ensures.err (path_broken c.args.scope.now.context.now (rules_of g.R.Rules c.args.scope.now.rules.now) c.args.state.now.graph c.args.scope.now.root.now (record { path = c.args.target; world = record { 0 = 0 } }) c.requires.agrees (by_name c.args.externs.now.imported.entries) (by_name c.args.externs.now.exported.entries) (error_model c.in_err-kind.field-0.0)))

pub returns-in_err-world-clause-err : goal.returns-in_err-world-clause-err
returns-in_err-world-clause-err g c =
    let p = err_from_is_err_and c.from_residual-in_err-world.result c.from_residual-in_err-world.ensures.1 in
    rw (p.1, p.2) (reports c.in_err-world.ensures.err (no_world c.args.scope.now.context.now (rules_of g.R.Rules c.args.scope.now.rules.now) c.args.state.now.graph c.args.scope.now.root.now (record { path = c.args.target; world = record { 0 = 0 } }) c.requires.agrees c.path.new.state.graph c.in_ok-kind.kind (by_name c.args.externs.now.imported.entries) (by_name c.args.externs.now.exported.entries) (error_model c.in_err-world.field-0.0) c.in_ok-kind.ensures.ok))

pub returns-clause-ok : goal.returns-clause-ok
returns-clause-ok g c =
    as_ok c.check_world.result (WorldMet (testing c.path.new.state.graph (rules_of g.R.Rules c.args.scope.now.rules.now) (record { path = c.args.target; world = c.in_ok-world.world }))) (Meets c.args.scope.now.context.now (rules_of g.R.Rules c.args.scope.now.rules.now) c.args.state.now.graph c.path.new.state.graph c.args.scope.now.root.now (package_path_of c.args.target.now)) (target_met c.args.scope.now.context.now (rules_of g.R.Rules c.args.scope.now.rules.now) c.args.state.now.graph c.args.scope.now.root.now (record { path = c.args.target; world = c.in_ok-world.world }) c.requires.agrees c.path.new.state.graph c.in_ok-kind.kind c.in_ok-kind.ensures.ok c.in_ok-world.ensures.ok c.nodes-nodes.ensures.sound c.types-types.ensures.means) c.check_world.ensures.ok

pub returns-clause-err : goal.returns-clause-err
returns-clause-err g c =
    as_err c.check_world.result (λ e. Reports (error_model e) (WorldUnmet (testing c.path.new.state.graph (rules_of g.R.Rules c.args.scope.now.rules.now) (record { path = c.args.target; world = c.in_ok-world.world })) (by_name c.args.externs.now.imported.entries) (by_name c.args.externs.now.exported.entries) (error_model e))) (λ e. Reports (error_model e) (Unmeets c.args.scope.now.context.now (rules_of g.R.Rules c.args.scope.now.rules.now) c.args.state.now.graph c.args.scope.now.root.now (package_path_of c.args.target.now) (by_name c.args.externs.now.imported.entries) (by_name c.args.externs.now.exported.entries) (error_model e))) (λ e u. reports u (target_unmet c.args.scope.now.context.now (rules_of g.R.Rules c.args.scope.now.rules.now) c.args.state.now.graph c.args.scope.now.root.now (record { path = c.args.target; world = c.in_ok-world.world }) c.requires.agrees c.path.new.state.graph c.in_ok-kind.kind c.in_ok-kind.ensures.ok c.in_ok-world.ensures.ok c.nodes-nodes.ensures.sound c.types-types.ensures.means (by_name c.args.externs.now.imported.entries) (by_name c.args.externs.now.exported.entries) (error_model e)))
    c.check_world.ensures.err
