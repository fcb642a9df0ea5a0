use Rattle.wac_resolution_types.proofs.Common.{inl, inr, err_from_is_err_and, reports}
use Rattle.wac_resolution_types.specs.Lists.{lists_of}
use Rattle.wac_resolution_types.proofs.Lists.{bound_fresh}
use Rattle.wac_resolution_types.proofs.new_name.declare.Goals as goal

pub returns-in_err-check_name-clause-err : goal.returns-in_err-check_name-clause-err
returns-in_err-check_name-clause-err c =
    let p = err_from_is_err_and c.from_residual.result c.from_residual.ensures.1 in
    rw (p.1, p.2) (reports c.in_err-check_name.ensures.err (λ err numbering g. inl (err numbering g)))

pub returns-in_err-check_extern-clause-err : goal.returns-in_err-check_extern-clause-err
returns-in_err-check_extern-clause-err c =
    let p = err_from_is_err_and c.from_residual-in_err-check_extern.result c.from_residual-in_err-check_extern.ensures.1 in
    rw (p.1, p.2) (reports c.in_err-check_extern.ensures.err (λ err numbering g. inr (bound_fresh numbering g (lists_of c.args.body.now) c.args.id.now.string.now c.in_ok-check_name.ensures.ok, err numbering g)))
