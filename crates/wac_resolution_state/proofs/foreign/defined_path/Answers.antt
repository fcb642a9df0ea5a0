use Rattle.wac_resolution_state.proofs.Common.{◌≡◌, ◌∙◌, [], ◌∷◌, None, sym, subst, rules, inr, string_bytes, err_from_is_err_and, Span, look_up, package_path_of, segment_spans, package_missing_export, error_model, reports}
use Rattle.wac_resolution_state.proofs.Scopes.{kind_is}
use Rattle.wac_graph_types.specs.Names.{by_name}
use Rattle.wac_graph_types.proofs.Found.{found_named}
use Rattle.wac_resolution_state.proofs.Leading.{segments_lead, foreign_misses, foreign_undefined}
use Rattle.wac_resolution_state.proofs.foreign.defined_path.Goals as goal

pub returns-in_err-kind-clause-err : goal.returns-in_err-kind-clause-err
returns-in_err-kind-clause-err c =
    let split : segment_spans (package_path_of c.args.path.now) ≡ (c.in-Some.first.now, c.in-Some.span) ∷ c.next.new.self = sym c.segment_spans-rest.ensures.segments ∙ c.in-Some.ensures.steps in
    let same : c.in-Some.span-in-Some-1-own.given.0.0.1 ≡ c.in-Some.span = search rules in
    let p = err_from_is_err_and c.from_residual.result c.from_residual.ensures.1 in
    rw (p.1, p.2) (reports c.in_err-kind.ensures.err (λ err. foreign_undefined (package_path_of c.args.path.now) c.in-Some.first.now c.in-Some.span c.next.new.self split c.args.state.now.graph (by_name c.args.definitions.now.entries) (error_model c.in_err-kind.field-0.0)
    (subst (λ (s : Span). (look_up c.in-Some.first.now (by_name c.args.definitions.now.entries) ≡ None) × (error_model c.in_err-kind.field-0.0 ≡ package_missing_export None [] c.args.path.now.name.now c.in-Some.first.now s)) same err)))

pub members-requires-clause-named : goal.members-requires-clause-named
members-requires-clause-named c = found_named c.args.state.now.graph.types c.in-Some.first.now (by_name c.args.definitions.now.entries) c.in_ok-kind.kind c.requires c.in_ok-kind.ensures.ok

pub returns-in-Ok-clause-ok : goal.returns-in-Ok-clause-ok
returns-in-Ok-clause-ok c =
    let split : segment_spans (package_path_of c.args.path.now) ≡ (c.in-Some.first.now, c.in-Some.span) ∷ c.next.new.self = sym c.segment_spans-rest.ensures.segments ∙ c.in-Some.ensures.steps in
    segments_lead (package_path_of c.args.path.now) c.in-Some.first.now c.in-Some.span c.next.new.self split c.args.state.now.graph (by_name c.args.definitions.now.entries) c.in_ok-kind.kind c.in-Ok.kind
    (kind_is (by_name c.args.definitions.now.entries) (record { string = c.in-Some.first.now; span = c.in-Some.span }) c.in_ok-kind.kind c.in_ok-kind.ensures.ok) c.in-Ok.ensures.ok

pub returns-in_ok-not_exported-in-Err-clause-err : goal.returns-in_ok-not_exported-in-Err-clause-err
returns-in_ok-not_exported-in-Err-clause-err c =
    let split : segment_spans (package_path_of c.args.path.now) ≡ (c.in-Some.first.now, c.in-Some.span) ∷ c.next.new.self = sym c.segment_spans-rest.ensures.segments ∙ c.in-Some.ensures.steps in
    inr (foreign_misses (package_path_of c.args.path.now) c.in-Some.first.now c.in-Some.span c.next.new.self split c.args.state.now.graph c.in_ok-kind.kind c.in-Err.missing c.in-Err.ensures.err (by_name c.args.definitions.now.entries)
    (error_model c.in_ok-not_exported-in-Err.field-0) (string_bytes c.in_ok-before-in-Err.before)
    (kind_is (by_name c.args.definitions.now.entries) (record { string = c.in-Some.first.now; span = c.in-Some.span }) c.in_ok-kind.kind c.in_ok-kind.ensures.ok) c.in_ok-before-in-Err.ensures c.in_ok-not_exported-in-Err.ensures)
