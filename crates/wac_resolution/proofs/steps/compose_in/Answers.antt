use Rattle.wac_resolution.proofs.Common.{map, option_map, statement_of, package_path_of, error_model, rules_of, reports, on_ok, if_err}
use Rattle.wac_resolution.proofs.Starting.{start_stands}
use Rattle.wac_resolution.proofs.Ending.{all_composed, statement_breaks, target_breaks}
use Rattle.wac_resolution.proofs.steps.compose_in.Goals as goal

pub carry_out-requires : goal.carry_out-requires
carry_out-requires g c =
    start_stands c.args.given.now.context.now c.args.state.now.graph c.new-root.result c.new-externs.result (record { graph = c.requires; nodes = c.new-root.ensures.nodes; kinds = c.new-root.ensures.kinds; imported = c.new-externs.ensures.imported; exported = c.new-externs.ensures.exported })

pub check_targets-requires : goal.check_targets-requires
check_targets-requires g c = c.in-Ok.ensures.ok.stand

pub returns-in-Ok-clause-ok : goal.returns-in-Ok-clause-ok
returns-in-Ok-clause-ok g c =
    on_ok _ _ c.check_targets.result
    (all_composed c.args.given.now.context.now (rules_of g.R.Rules c.args.given.now.rules.now) c.args.state.now.graph c.carry_out.new.state.graph c.check_targets.new.state.graph c.new-root.result c.carry_out.new.root c.new-externs.result c.carry_out.new.externs
    (map statement_of c.args.statements) (option_map package_path_of c.args.targets.now) (record { graph = c.requires; nodes = c.new-root.ensures.nodes; kinds = c.new-root.ensures.kinds; imported = c.new-externs.ensures.imported; exported = c.new-externs.ensures.exported })
    c.in-Ok.ensures.ok)
    c.check_targets.ensures.ok

pub returns-in-Ok-clause-err : goal.returns-in-Ok-clause-err
returns-in-Ok-clause-err g c =
    if_err _ _ c.check_targets.result
    (λ e missed. reports missed
    (target_breaks c.args.given.now.context.now (rules_of g.R.Rules c.args.given.now.rules.now) c.args.state.now.graph c.carry_out.new.state.graph c.new-root.result c.carry_out.new.root c.new-externs.result c.carry_out.new.externs (map statement_of c.args.statements)
    (option_map package_path_of c.args.targets.now) (error_model e) (record { graph = c.requires; nodes = c.new-root.ensures.nodes; kinds = c.new-root.ensures.kinds; imported = c.new-externs.ensures.imported; exported = c.new-externs.ensures.exported })
    c.in-Ok.ensures.ok))
    c.check_targets.ensures.err

pub returns-clause-err : goal.returns-clause-err
returns-clause-err g c =
    reports c.in-Err.ensures.err
    (statement_breaks c.args.given.now.context.now (rules_of g.R.Rules c.args.given.now.rules.now) c.args.state.now.graph c.new-root.result c.new-externs.result (map statement_of c.args.statements) (option_map package_path_of c.args.targets.now)
    (error_model c.in-Err.error) (record { graph = c.requires; nodes = c.new-root.ensures.nodes; kinds = c.new-root.ensures.kinds; imported = c.new-externs.ensures.imported; exported = c.new-externs.ensures.exported }))
