use Rattle.wac_resolution_statements.proofs.Common.{List, ℕ, ap, subst, string_bytes, err_from_is_err_and, ItemKind, by_name, Names, error_model, reports, rules_of}
use Rattle.wac_resolution_statements.specs.Imported.{of_kind}
use Rattle.wac_resolution_statements.specs.Testing.{testing, Met, Unmet}
use Rattle.wac_resolution_statements.proofs.Firsts.{through_next, through_all, fails_here, first_there, left_there}
use Rattle.wac_resolution_statements.proofs.target_exports.check_each.Goals as goal

pub check_export-requires-clause-named : goal.check_export-requires-clause-named
check_export-requires-clause-named g c =
    first_there (λ (x : List ℕ × ItemKind). Names c.args.state.now.graph.types x.1) _ (by_name c.next.new.self) (string_bytes c.in-Some.name.now, c.in-Some.kind.now) (ap by_name c.in-Some.ensures.steps) c.loop-name.invariant.named

pub returns-in_err-check_export-clause-err : goal.returns-in_err-check_export-clause-err
returns-in_err-check_export-clause-err g c =
    let p = err_from_is_err_and c.from_residual.result c.from_residual.ensures.1 in
    rw (p.1, p.2) (reports c.in_err-check_export.ensures.err (λ err. fails_here (λ (x : List ℕ × ItemKind). Met (testing c.args.state.now.graph (rules_of g.R.Rules c.args.rules.now) c.args.target.now) (of_kind c.args.state.now.graph x)) (λ (x : List ℕ × ItemKind) e. Unmet (testing c.args.state.now.graph (rules_of g.R.Rules c.args.rules.now) c.args.target.now) (by_name c.args.places.now.entries) (of_kind c.args.state.now.graph x) e) (by_name c.args.exports.now.entries) _ (by_name c.next.new.self)
    (string_bytes c.in-Some.name.now, c.in-Some.kind.now) (error_model c.in_err-check_export.field-0.0) (ap by_name c.in-Some.ensures.steps) c.loop-name.invariant.through
    (subst (λ (n : List ℕ). Unmet (testing c.args.state.now.graph (rules_of g.R.Rules c.args.rules.now) c.args.target.now) (by_name c.args.places.now.entries) (of_kind c.args.state.now.graph (n, c.in-Some.kind.now)) (error_model c.in_err-check_export.field-0.0)) c.as_str.ensures.value err)))

pub loop-name-preserved : goal.loop-name-preserved
loop-name-preserved g c = record {
  named = left_there (λ (x : List ℕ × ItemKind). Names c.args.state.now.graph.types x.1) _ (by_name c.next.new.self) (string_bytes c.in-Some.name.now, c.in-Some.kind.now) (ap by_name c.in-Some.ensures.steps) c.loop-name.invariant.named;
  through = through_next (λ (x : List ℕ × ItemKind). Met (testing c.args.state.now.graph (rules_of g.R.Rules c.args.rules.now) c.args.target.now) (of_kind c.args.state.now.graph x)) (by_name c.args.exports.now.entries) _ (by_name c.next.new.self) (string_bytes c.in-Some.name.now, c.in-Some.kind.now) (ap by_name c.in-Some.ensures.steps)
      (subst (λ (n : List ℕ). Met (testing c.args.state.now.graph (rules_of g.R.Rules c.args.rules.now) c.args.target.now) (of_kind c.args.state.now.graph (n, c.in-Some.kind.now))) c.as_str.ensures.value c.in_ok-check_export.ensures.ok) c.loop-name.invariant.through;
}

pub returns-clause-ok : goal.returns-clause-ok
returns-clause-ok g c = through_all (λ (x : List ℕ × ItemKind). Met (testing c.args.state.now.graph (rules_of g.R.Rules c.args.rules.now) c.args.target.now) (of_kind c.args.state.now.graph x)) (by_name c.args.exports.now.entries) _ (ap by_name c.in-None.ensures.steps.0) c.loop-name.invariant.through
