use Rattle.wac_resolution_types.proofs.Common.{inl, inr, err_from_is_err_and, by_name, named_type_of, means, HasResultType, values_of, reports}
use Rattle.wac_graph_types.specs.declared.kind.ItemKind.TheVariants as kinds
use Rattle.wac_resolution_types.specs.Funcs.{given}
use Rattle.wac_resolution_types.proofs.NamedParts.{part_goes}
use Rattle.wac_resolution_types.proofs.results.named_result.Goals as goal

pub returns-in_err-value-clause-err : goal.returns-in_err-value-clause-err
returns-in_err-value-clause-err c =
    let p = err_from_is_err_and c.from_residual.result c.from_residual.ensures.1 in
    rw (p.1, p.2) (reports c.in_err-value.ensures.err (λ err numbering before. inl (err numbering)))

pub returns-in_err-check_result_name-clause-err : goal.returns-in_err-check_result_name-clause-err
returns-in_err-check_result_name-clause-err c =
    let p = err_from_is_err_and c.from_residual-in_err-check_result_name.result c.from_residual-in_err-check_result_name.ensures.1 in
    rw (p.1, p.2) (reports c.in_err-check_result_name.ensures.err (λ err numbering before. inr (means numbering c.result_type.new.state.graph (kinds.Value c.in_ok-value.value), c.in_ok-value.ensures.ok.is numbering, err numbering c.args.state.now.graph)))

pub returns-clause-ok : goal.returns-clause-ok
returns-clause-ok c =
    part_goes given (λ s p. HasResultType s p.ty) (λ p. p.id) c.args.state.now.graph c.result_type.new.state.graph (values_of c.args.names.now) (by_name c.args.all.now.entries) (by_name c.push.new.all.entries) (named_type_of c.args.named.now) c.in_ok-value.value
    c.in_ok-value.ensures.ok.grows c.requires.parts c.in_ok-value.ensures.ok.named c.in_ok-value.ensures.ok.is c.in_ok-check_result_name.ensures.ok c.in_ok-push.ensures.ok
