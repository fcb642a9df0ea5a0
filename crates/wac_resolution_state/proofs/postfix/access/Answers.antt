use Rattle.wac_resolution_state.proofs.Common.{◌≡◌, ◌∙◌, inl, inr, rules, err_from_is_err_and, string_bytes, IsSome, None, postfix_expr_of, export_kind}
use Rattle.wac_resolution_state.proofs.Instances.{not_exported, access_goes}
use Rattle.wac_resolution_state.proofs.postfix.access.Goals as goal

pub returns-in_err-interface-clause-err : goal.returns-in_err-interface-clause-err
returns-in_err-interface-clause-err c =
    let p = err_from_is_err_and c.from_residual.result c.from_residual.ensures.1 in
    rw (p.1, p.2) (inr (λ numbering declared. inl (c.in_err-interface.ensures.err numbering declared)))

pub returns-then-is_none-clause-err : goal.returns-then-is_none-clause-err
returns-then-is_none-clause-err c = inr (λ numbering declared.
    let none : export_kind c.args.state.now.graph c.args.node.0 c.as_str.result.now ≡ None = search rules in
    let same : c.as_str.result.now ≡ string_bytes c.in_ok-name.name = c.as_str.ensures.value in
    inr (rw c.span.ensures (not_exported c.args.state.now.graph c.args.node.0 c.in_ok-interface.interface (postfix_expr_of c.args.access.now) (string_bytes c.in_ok-name.name) c.in_ok-interface.ensures.ok c.in_ok-name.ensures (rw same at none) numbering declared)))

pub returns-clause-ok : goal.returns-clause-ok
returns-clause-ok c =
    let same : c.as_str-2.result.now ≡ string_bytes c.in_ok-name.name = c.as_str-2.ensures.value in
    let there : IsSome (export_kind c.args.state.now.graph c.args.node.0 c.as_str-2.result.now) = search rules in
    access_goes c.args.state.now.graph c.alias.new.state.graph c.args.node.0 c.in_ok-interface.interface (postfix_expr_of c.args.access.now) c.as_str-2.result.now c.in_ok-alias.field-0.0 c.in_ok-interface.ensures.ok (λ f. same ∙ c.in_ok-name.ensures f) there c.in_ok-alias.ensures
