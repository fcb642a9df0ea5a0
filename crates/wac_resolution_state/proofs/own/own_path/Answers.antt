use Rattle.wac_resolution_state.proofs.Common.{◌≡◌, ◌∙◌, ◌∷◌, ℕ, List, Option, Bor, sym, ap, subst, rules, inr, unwrap_or, err_from_is_err_and, Span, package_path_of, segment_spans, error_model, IsUndefined, reports}
use Rattle.wac_resolution_state.specs.Bindings.{values_of}
use Rattle.wac_resolution_state.specs.Named.{scope_of, KindIs}
use Rattle.wac_resolution_state.proofs.Leading.{segments_lead, own_misses, own_undefined}
use Rattle.wac_resolution_state.proofs.own.own_path.Goals as goal

pub returns-in_err-kind-clause-err : goal.returns-in_err-kind-clause-err
returns-in_err-kind-clause-err c =
    let split : segment_spans (package_path_of c.args.path.now) ≡ (c.in-Some.string.now, c.in-Some.span) ∷ c.next.new.self = sym c.segment_spans-rest.ensures.segments ∙ c.in-Some.ensures.steps in
    let same : c.in-Some.span-in-Some-1-own.given.0.0.1 ≡ c.in-Some.span = search rules in
    let p = err_from_is_err_and c.from_residual.result c.from_residual.ensures.1 in
    rw (p.1, p.2) (reports c.in_err-kind.ensures.err (λ err numbering. own_undefined (package_path_of c.args.path.now) c.in-Some.string.now c.in-Some.span c.next.new.self split (scope_of numbering c.args.state.now.graph (values_of c.args.root.now)) (error_model c.in_err-kind.field-0.0)
    (subst (λ (s : Span). IsUndefined (scope_of numbering c.args.state.now.graph (values_of c.args.root.now)) (record { string = c.in-Some.string.now; span = s }) (error_model c.in_err-kind.field-0.0)) same (err numbering c.args.state.now.graph))))

pub returns-in-Ok-clause-ok : goal.returns-in-Ok-clause-ok
returns-in-Ok-clause-ok c =
    let split : segment_spans (package_path_of c.args.path.now) ≡ (c.in-Some.string.now, c.in-Some.span) ∷ c.next.new.self = sym c.segment_spans-rest.ensures.segments ∙ c.in-Some.ensures.steps in
    let same : c.in-Some.span-in-Some-1-own.given.0.0.1 ≡ c.in-Some.span = cc in
    segments_lead (package_path_of c.args.path.now) c.in-Some.string.now c.in-Some.span c.next.new.self split c.args.state.now.graph (values_of c.args.root.now) c.in_ok-kind.kind c.in-Ok.kind
    (subst (λ (s : Span). KindIs (values_of c.args.root.now) (record { string = c.in-Some.string.now; span = s }) c.in_ok-kind.kind) same c.in_ok-kind.ensures.ok) c.in-Ok.ensures.ok

pub returns-in_ok-not_exported-in-Err-clause-err : goal.returns-in_ok-not_exported-in-Err-clause-err
returns-in_ok-not_exported-in-Err-clause-err c =
    let split : segment_spans (package_path_of c.args.path.now) ≡ (c.in-Some.string.now, c.in-Some.span) ∷ c.next.new.self = sym c.segment_spans-rest.ensures.segments ∙ c.in-Some.ensures.steps in
    let same : c.in-Some.span-in-Some-1-own.given.0.0.1 ≡ c.in-Some.span = sym (ap (λ (o : Option (Bor (List ℕ) × Span)). (unwrap_or o (c.in-Some.string, c.in-Some.span)).1) c.in-Some.span-in-Some-1-own.given.1) in
    inr (own_misses (package_path_of c.args.path.now) c.in-Some.string.now c.in-Some.span c.next.new.self split c.args.state.now.graph c.in_ok-kind.kind c.in-Err.missing c.in-Err.ensures.err (values_of c.args.root.now) (error_model c.in_ok-not_exported-in-Err.field-0)
    (subst (λ (s : Span). KindIs (values_of c.args.root.now) (record { string = c.in-Some.string.now; span = s }) c.in_ok-kind.kind) same c.in_ok-kind.ensures.ok) c.in_ok-not_exported-in-Err.ensures)
