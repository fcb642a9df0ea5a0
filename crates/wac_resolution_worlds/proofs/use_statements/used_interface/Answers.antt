use Rattle.wac_resolution_worlds.proofs.Common.{ℕ, List, inl, inr, subst, err_from_is_err_and, ItemKind, use_path_of, means, Span, error_model, IsNoInterface, UseNames, use_path_name, values_of, scope_of, Found, packages_in, context_of, reports}
use Rattle.wac_resolution_worlds.proofs.use_statements.used_interface.Goals as goal

pub returns-in_err-kind-clause-err : goal.returns-in_err-kind-clause-err
returns-in_err-kind-clause-err c =
    let p = err_from_is_err_and c.from_residual.result c.from_residual.ensures.1 in
    rw (p.1, p.2) (reports c.in_err-kind.ensures.err (λ err numbering. inl (err numbering)))

pub returns-in_err-interface-clause-err : goal.returns-in_err-interface-clause-err
returns-in_err-interface-clause-err c =
    let p = err_from_is_err_and c.from_residual-in_err-interface.result c.from_residual-in_err-interface.ensures.1 in
    rw (p.1, p.2) (reports c.in_err-interface.ensures.err (λ err numbering. inr (
      means numbering c.use_path.new.state.graph c.in_ok-kind.kind,
      c.in_ok-kind.ensures.ok.is numbering,
      subst (λ (at : Span). IsNoInterface (means numbering c.use_path.new.state.graph c.in_ok-kind.kind) (use_path_name (use_path_of c.args.path.now)) at (error_model c.in_err-interface.field-0.0)) c.path_span.ensures
          (subst (λ (name : List ℕ). IsNoInterface (means numbering c.use_path.new.state.graph c.in_ok-kind.kind) name c.path_span.result (error_model c.in_err-interface.field-0.0)) c.path_name-name.ensures (err numbering c.use_path.new.state.graph)),
    )))

pub returns-clause-ok : goal.returns-clause-ok
returns-clause-ok c =
    subst (λ (k : ItemKind). Found (packages_in c.args.outer.now.context.now) c.args.state.now.graph c.use_path.new.state.graph (λ numbering m. UseNames (context_of numbering c.args.outer.now.context.now) (scope_of numbering c.args.state.now.graph (values_of c.args.outer.now.root.now)) (use_path_of c.args.path.now) m) k)
    c.in_ok-interface.ensures.ok c.in_ok-kind.ensures.ok
