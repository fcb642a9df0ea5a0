use Rattle.wac_resolution_state.proofs.Common.{refl, inr, package_path_of, held_of, error_model, key_of_path, if_reports}
use Rattle.wac_resolution_state.proofs.Finding.{foreign_found, foreign_broken, foreign_unknown}
use Rattle.wac_resolution_state.proofs.foreign.foreign_path.Goals as goal

pub returns-in-Some-clause-ok : goal.returns-in-Some-clause-ok
returns-in-Some-clause-ok c =
    let loads = rw c.in-Some.is at c.in_ok-loaded.ensures in
    foreign_found c.args.context.now c.args.state.now.graph c.load.new.state.graph (package_path_of c.args.path.now) (held_of c.package-held.result) c.in-Some.id.0 (key_of_path (package_path_of c.args.path.now)) c.defined_path.result
    refl loads c.package-held.ensures.found c.defined_path.ensures.ok

pub returns-in-Some-clause-err : goal.returns-in-Some-clause-err
returns-in-Some-clause-err c =
    let loads = rw c.in-Some.is at c.in_ok-loaded.ensures in
    if_reports _ _
    (λ r. foreign_broken c.args.context.now c.args.state.now.graph c.load.new.state.graph (package_path_of c.args.path.now) (held_of c.package-held.result) c.in-Some.id.0 (key_of_path (package_path_of c.args.path.now)) r
    refl loads c.package-held.ensures.found)
    c.defined_path.result c.defined_path.ensures.err

pub returns-in_ok-unknown-in-None-clause-err : goal.returns-in_ok-unknown-in-None-clause-err
returns-in_ok-unknown-in-None-clause-err c =
    let none = rw c.in-None.is at c.in_ok-loaded.ensures in
    inr (foreign_unknown c.args.context.now (package_path_of c.args.path.now) (key_of_path (package_path_of c.args.path.now)) (error_model c.in_ok-unknown-in-None.field-0) refl none c.in_ok-unknown-in-None.ensures)
