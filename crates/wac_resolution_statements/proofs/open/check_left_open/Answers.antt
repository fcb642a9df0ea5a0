use Rattle.wac_resolution_statements.proofs.Common.{List, [], ◌∷◌, ℕ, ap, subst, string_bytes, err_from_is_err_and, ItemKind, by_name, Names, arguments_of, error_model, reports, rules_of}
use Rattle.wac_resolution_statements.specs.Imported.{of_kind, left_open}
use Rattle.wac_resolution_statements.specs.Testing.{testing, Allowed, Denied, AllAllowed, SomeDenied, nowhere}
use Rattle.wac_resolution_statements.proofs.Firsts.{through_more, through_all, fails_within, first_there, left_there}
use Rattle.wac_resolution_statements.proofs.Opens.{open_rest}
use Rattle.wac_resolution_statements.proofs.open.check_left_open.Goals as goal

pub check_open_import-requires-clause-named : goal.check_open_import-requires-clause-named
check_open_import-requires-clause-named g c =
    first_there (λ (x : List ℕ × ItemKind). Names c.args.state.now.graph.types x.1) _ (by_name c.next.new.self) (string_bytes c.in-Some.name.now, c.in-Some.kind.now) (ap by_name c.in-Some.ensures.steps) c.loop-name.invariant.named

pub returns-in_err-check_open_import-clause-err : goal.returns-in_err-check_open_import-clause-err
returns-in_err-check_open_import-clause-err g c =
    let p = err_from_is_err_and c.from_residual.result c.from_residual.ensures.1 in
    rw (p.1, p.2) (reports c.in_err-check_open_import.ensures.err (λ err. fails_within (λ (x : List ℕ × ItemKind). Allowed (testing c.args.state.now.graph (rules_of g.R.Rules c.args.rules.now) c.args.target.now) (of_kind c.args.state.now.graph x)) (λ (x : List ℕ × ItemKind) e. Denied (testing c.args.state.now.graph (rules_of g.R.Rules c.args.rules.now) c.args.target.now) (of_kind c.args.state.now.graph x) (nowhere x) e) (left_open (arguments_of c.args.state.now.graph c.args.node.0) (by_name c.args.imports.now.entries)) _ (left_open (arguments_of c.args.state.now.graph c.args.node.0) (by_name c.next.new.self)) (left_open (arguments_of c.args.state.now.graph c.args.node.0) ((string_bytes c.in-Some.name.now, c.in-Some.kind.now) ∷ []))
    (error_model c.in_err-check_open_import.field-0.0) (open_rest (arguments_of c.args.state.now.graph c.args.node.0) _ (by_name c.next.new.self) (string_bytes c.in-Some.name.now, c.in-Some.kind.now) (ap by_name c.in-Some.ensures.steps)) c.loop-name.invariant.through
    (subst (λ (n : List ℕ). SomeDenied (testing c.args.state.now.graph (rules_of g.R.Rules c.args.rules.now) c.args.target.now) (of_kind c.args.state.now.graph) nowhere (left_open (arguments_of c.args.state.now.graph c.args.node.0) ((n, c.in-Some.kind.now) ∷ [])) (error_model c.in_err-check_open_import.field-0.0)) c.as_str.ensures.value err)))

pub loop-name-preserved : goal.loop-name-preserved
loop-name-preserved g c = record {
  named = left_there (λ (x : List ℕ × ItemKind). Names c.args.state.now.graph.types x.1) _ (by_name c.next.new.self) (string_bytes c.in-Some.name.now, c.in-Some.kind.now) (ap by_name c.in-Some.ensures.steps) c.loop-name.invariant.named;
  through = through_more (λ (x : List ℕ × ItemKind). Allowed (testing c.args.state.now.graph (rules_of g.R.Rules c.args.rules.now) c.args.target.now) (of_kind c.args.state.now.graph x)) (left_open (arguments_of c.args.state.now.graph c.args.node.0) (by_name c.args.imports.now.entries)) _ (left_open (arguments_of c.args.state.now.graph c.args.node.0) (by_name c.next.new.self)) (left_open (arguments_of c.args.state.now.graph c.args.node.0) ((string_bytes c.in-Some.name.now, c.in-Some.kind.now) ∷ [])) (open_rest (arguments_of c.args.state.now.graph c.args.node.0) _ (by_name c.next.new.self) (string_bytes c.in-Some.name.now, c.in-Some.kind.now) (ap by_name c.in-Some.ensures.steps))
      (subst (λ (n : List ℕ). AllAllowed (testing c.args.state.now.graph (rules_of g.R.Rules c.args.rules.now) c.args.target.now) (of_kind c.args.state.now.graph) (left_open (arguments_of c.args.state.now.graph c.args.node.0) ((n, c.in-Some.kind.now) ∷ []))) c.as_str.ensures.value c.in_ok-check_open_import.ensures.ok) c.loop-name.invariant.through;
}

pub returns-clause-ok : goal.returns-clause-ok
returns-clause-ok g c = through_all (λ (x : List ℕ × ItemKind). Allowed (testing c.args.state.now.graph (rules_of g.R.Rules c.args.rules.now) c.args.target.now) (of_kind c.args.state.now.graph x)) (left_open (arguments_of c.args.state.now.graph c.args.node.0) (by_name c.args.imports.now.entries)) _ (ap (λ (l : _). left_open (arguments_of c.args.state.now.graph c.args.node.0) (by_name l)) c.in-None.ensures.steps.0) c.loop-name.invariant.through
