use Rattle.wac_resolution_statements.proofs.Common.{◌<◌, List, ℕ, length, ap, flat_map, err_from_is_err_and, ItemKind, numbers, error_model, reports, rules_of}
use Rattle.wac_resolution_statements.specs.Imported.{of_kind, open_at}
use Rattle.wac_resolution_statements.specs.Testing.{testing, Allowed, Denied, nowhere}
use Rattle.wac_resolution_statements.proofs.Firsts.{through_more, through_all, fails_within, first_there, left_there}
use Rattle.wac_resolution_statements.proofs.open.check_open_imports.Goals as goal

pub check_node-requires-clause-there : goal.check_node-requires-clause-there
check_node-requires-clause-there g c = first_there (λ (i : ℕ). i < length c.args.state.now.graph.nodes) _ c.next.new.self c.in-Some.node.0 c.in-Some.ensures.steps c.loop-node.invariant.there

pub returns-in_err-check_node-clause-err : goal.returns-in_err-check_node-clause-err
returns-in_err-check_node-clause-err g c =
    let p = err_from_is_err_and c.from_residual.result c.from_residual.ensures.1 in
    rw (p.1, p.2) (reports c.in_err-check_node.ensures.err (fails_within (λ (x : List ℕ × ItemKind). Allowed (testing c.args.state.now.graph (rules_of g.R.Rules c.args.rules.now) c.args.target.now) (of_kind c.args.state.now.graph x)) (λ (x : List ℕ × ItemKind) e. Denied (testing c.args.state.now.graph (rules_of g.R.Rules c.args.rules.now) c.args.target.now) (of_kind c.args.state.now.graph x) (nowhere x) e) (flat_map (open_at c.args.state.now.graph) (numbers 0 (length c.args.state.now.graph.nodes))) _ (flat_map (open_at c.args.state.now.graph) c.next.new.self) (open_at c.args.state.now.graph c.in-Some.node.0) (error_model c.in_err-check_node.field-0.0) (ap (flat_map (open_at c.args.state.now.graph)) c.in-Some.ensures.steps)
    c.loop-node.invariant.through))

pub loop-node-preserved : goal.loop-node-preserved
loop-node-preserved g c = record {
  can = tt;
  finite = tt;
  there = left_there (λ (i : ℕ). i < length c.args.state.now.graph.nodes) _ c.next.new.self c.in-Some.node.0 c.in-Some.ensures.steps c.loop-node.invariant.there;
  through = through_more (λ (x : List ℕ × ItemKind). Allowed (testing c.args.state.now.graph (rules_of g.R.Rules c.args.rules.now) c.args.target.now) (of_kind c.args.state.now.graph x)) (flat_map (open_at c.args.state.now.graph) (numbers 0 (length c.args.state.now.graph.nodes))) _ (flat_map (open_at c.args.state.now.graph) c.next.new.self) (open_at c.args.state.now.graph c.in-Some.node.0) (ap (flat_map (open_at c.args.state.now.graph)) c.in-Some.ensures.steps) c.in_ok-check_node.ensures.ok c.loop-node.invariant.through;
}

pub returns-clause-ok : goal.returns-clause-ok
returns-clause-ok g c = through_all (λ (x : List ℕ × ItemKind). Allowed (testing c.args.state.now.graph (rules_of g.R.Rules c.args.rules.now) c.args.target.now) (of_kind c.args.state.now.graph x)) (flat_map (open_at c.args.state.now.graph) (numbers 0 (length c.args.state.now.graph.nodes))) _ (ap (flat_map (open_at c.args.state.now.graph)) c.in-None.ensures.steps.0) c.loop-node.invariant.through
