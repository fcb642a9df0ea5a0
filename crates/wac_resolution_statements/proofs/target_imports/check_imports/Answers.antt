use Rattle.wac_resolution_statements.proofs.Common.{◌<◌, List, ℕ, length, err_from_is_err_and, by_name, look_up, error_model, reports, rules_of}
use Rattle.wac_resolution_statements.specs.Imported.{of_node}
use Rattle.wac_resolution_statements.specs.Testing.{testing, Allowed, Denied}
use Rattle.wac_resolution_statements.proofs.Firsts.{through_next, through_all, fails_here, first_there, left_there}
use Rattle.wac_resolution_statements.proofs.Tested.{node_allowed, node_fails}
use Rattle.wac_resolution_statements.proofs.target_imports.check_imports.Goals as goal

pub kind-kind-requires : goal.kind-kind-requires
kind-kind-requires g c = first_there (λ (x : List ℕ × ℕ). x.1 < length c.args.state.now.graph.nodes) _ c.next.new.self (c.in-Some.name.now, c.in-Some.node.0) c.in-Some.ensures.steps c.loop-name.invariant.there

pub returns-in_err-check_import-clause-err : goal.returns-in_err-check_import-clause-err
returns-in_err-check_import-clause-err g c =
    let p = err_from_is_err_and c.from_residual.result c.from_residual.ensures.1 in
    rw (p.1, p.2) (reports c.in_err-check_import.ensures.err (λ err. fails_here (λ (x : List ℕ × ℕ). Allowed (testing c.args.state.now.graph (rules_of g.R.Rules c.args.rules.now) c.args.target.now) (of_node c.args.state.now.graph x)) (λ (x : List ℕ × ℕ) e. Denied (testing c.args.state.now.graph (rules_of g.R.Rules c.args.rules.now) c.args.target.now) (of_node c.args.state.now.graph x) (look_up x.0 (by_name c.args.places.now.entries)) e) c.args.state.now.graph.imports _ c.next.new.self
    (c.in-Some.name.now, c.in-Some.node.0) (error_model c.in_err-check_import.field-0.0) c.in-Some.ensures.steps c.loop-name.invariant.through
    (node_fails c.args.state.now.graph (rules_of g.R.Rules c.args.rules.now) c.args.target.now c.in-Some.name.now c.in-Some.node.0 c.kind-kind.result c.find-span.result (look_up c.in-Some.name.now (by_name c.args.places.now.entries)) (error_model c.in_err-check_import.field-0.0) c.kind-kind.ensures.kind c.find-span.ensures err)))

pub loop-name-preserved : goal.loop-name-preserved
loop-name-preserved g c = record {
  can = tt;
  finite = tt;
  there = left_there (λ (x : List ℕ × ℕ). x.1 < length c.args.state.now.graph.nodes) _ c.next.new.self (c.in-Some.name.now, c.in-Some.node.0) c.in-Some.ensures.steps c.loop-name.invariant.there;
  through = through_next (λ (x : List ℕ × ℕ). Allowed (testing c.args.state.now.graph (rules_of g.R.Rules c.args.rules.now) c.args.target.now) (of_node c.args.state.now.graph x)) c.args.state.now.graph.imports _ c.next.new.self (c.in-Some.name.now, c.in-Some.node.0) c.in-Some.ensures.steps
      (node_allowed c.args.state.now.graph (rules_of g.R.Rules c.args.rules.now) c.args.target.now c.in-Some.name.now c.in-Some.node.0 c.kind-kind.result c.kind-kind.ensures.kind c.in_ok-check_import.ensures.ok) c.loop-name.invariant.through;
}

pub returns-clause-ok : goal.returns-clause-ok
returns-clause-ok g c = through_all (λ (x : List ℕ × ℕ). Allowed (testing c.args.state.now.graph (rules_of g.R.Rules c.args.rules.now) c.args.target.now) (of_node c.args.state.now.graph x)) c.args.state.now.graph.imports _ c.in-None.ensures.steps.0 c.loop-name.invariant.through
