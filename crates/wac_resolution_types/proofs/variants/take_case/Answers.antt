use Rattle.wac_resolution_types.proofs.Common.{inl, inr, err_from_is_err_and, by_name, optional_means, variant_case_of, entry_means, HasOption, values_of, reports}
use Rattle.wac_resolution_types.specs.Declarations.{perhaps}
use Rattle.wac_resolution_types.proofs.NamedParts.{part_goes}
use Rattle.wac_resolution_types.proofs.variants.take_case.Goals as goal

pub returns-in_err-check_case-clause-err : goal.returns-in_err-check_case-clause-err
returns-in_err-check_case-clause-err c =
    let p = err_from_is_err_and c.from_residual-in_err-check_case.result c.from_residual-in_err-check_case.ensures.1 in
    rw (p.1, p.2) (reports c.in_err-check_case.ensures.err (λ err numbering before. inr (optional_means (entry_means numbering c.case_type.new.state.graph) c.in_ok-value.value, c.in_ok-value.ensures.ok.is numbering, err numbering c.args.state.now.graph)))

pub returns-clause-ok : goal.returns-clause-ok
returns-clause-ok c =
    part_goes perhaps (λ s p. HasOption s p.ty) (λ p. p.id) c.args.state.now.graph c.case_type.new.state.graph (values_of c.args.names.now) (by_name c.args.all.now.entries) (by_name c.push.new.all.entries) (variant_case_of c.args.case.now) c.in_ok-value.value
    c.in_ok-value.ensures.ok.grows c.requires.parts c.in_ok-value.ensures.ok.named c.in_ok-value.ensures.ok.is c.in_ok-check_case.ensures.ok c.in_ok-push.ensures.ok

pub returns-in_err-value-clause-err : goal.returns-in_err-value-clause-err
returns-in_err-value-clause-err c =
    let p = err_from_is_err_and c.from_residual.result c.from_residual.ensures.1 in
    rw (p.1, p.2) (reports c.in_err-value.ensures.err (λ err numbering before. inl (err numbering)))
