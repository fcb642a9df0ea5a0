use Rattle.wac_resolution_statements.proofs.Common.{inl, inr, err_from_is_err_and, by_name, world_exports, Reports, error_model, reports, rules_of}
use Rattle.wac_resolution_statements.specs.Imported.{of_kind}
use Rattle.wac_resolution_statements.specs.Outcome.{WorldMet, WorldUnmet}
use Rattle.wac_resolution_statements.specs.Testing.{testing, AllMet, SomeUnmet}
use Rattle.wac_resolution_statements.proofs.Firsts.{as_ok, as_err}
use Rattle.wac_resolution_statements.proofs.target_check.check_world.Goals as goal

pub returns-in_err-check_imports-clause-err : goal.returns-in_err-check_imports-clause-err
returns-in_err-check_imports-clause-err g c =
    let p = err_from_is_err_and c.from_residual.result c.from_residual.ensures.1 in
    rw (p.1, p.2) (reports c.in_err-check_imports.ensures.err (inl))

pub returns-in_err-check_open_imports-clause-err : goal.returns-in_err-check_open_imports-clause-err
returns-in_err-check_open_imports-clause-err g c =
    let p = err_from_is_err_and c.from_residual-in_err-check_open_imports.result c.from_residual-in_err-check_open_imports.ensures.1 in
    rw (p.1, p.2) (reports c.in_err-check_open_imports.ensures.err (λ err. inr (inl (c.in_ok-check_imports.ensures.ok, err))))

pub returns-clause-ok : goal.returns-clause-ok
returns-clause-ok g c =
    as_ok c.check_exports.result (AllMet (testing c.args.state.now.graph (rules_of g.R.Rules c.args.rules.now) c.args.target.now) (of_kind c.args.state.now.graph) (world_exports c.args.state.now.graph.types c.args.target.now.world.0)) (WorldMet (testing c.args.state.now.graph (rules_of g.R.Rules c.args.rules.now) c.args.target.now)) (λ m. record { nodes = c.in_ok-check_imports.ensures.ok; opens = c.in_ok-check_open_imports.ensures.ok; exports = m }) c.check_exports.ensures.ok

pub returns-clause-err : goal.returns-clause-err
returns-clause-err g c =
    as_err c.check_exports.result (λ e. Reports (error_model e) (SomeUnmet (testing c.args.state.now.graph (rules_of g.R.Rules c.args.rules.now) c.args.target.now) (by_name c.args.externs.now.exported.entries) (of_kind c.args.state.now.graph) (world_exports c.args.state.now.graph.types c.args.target.now.world.0) (error_model e))) (λ e. Reports (error_model e) (WorldUnmet (testing c.args.state.now.graph (rules_of g.R.Rules c.args.rules.now) c.args.target.now) (by_name c.args.externs.now.imported.entries) (by_name c.args.externs.now.exported.entries) (error_model e))) (λ e d. reports d (λ u. inr (inr (c.in_ok-check_imports.ensures.ok, c.in_ok-check_open_imports.ensures.ok, u)))) c.check_exports.ensures.err
