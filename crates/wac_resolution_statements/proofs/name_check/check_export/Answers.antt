use Rattle.wac_resolution_statements.proofs.Common.{inl, inr, refl, err_from_is_err_and, numbers_of, reports}
use Rattle.wac_resolution_statements.specs.Externs.{places_in}
use Rattle.wac_resolution_statements.proofs.name_check.check_export.Goals as goal

pub returns-in_err-check_undefined-clause-err : goal.returns-in_err-check_undefined-clause-err
returns-in_err-check_undefined-clause-err g c =
    let p = err_from_is_err_and c.from_residual.result c.from_residual.ensures.1 in
    rw (p.1, p.2) (reports c.in_err-check_undefined.ensures.err (λ err numbering s same. inl (err numbering (places_in c.args.scope.now.root.now c.args.externs.now) refl)))

pub returns-in_err-check_unexported-clause-err : goal.returns-in_err-check_unexported-clause-err
returns-in_err-check_unexported-clause-err g c =
    let p = err_from_is_err_and c.from_residual-in_err-check_unexported.result c.from_residual-in_err-check_unexported.ensures.1 in
    rw (p.1, p.2) (reports c.in_err-check_unexported.ensures.err (λ err numbering s same. inr (c.in_ok-check_undefined.ensures.ok numbering, inl (err numbering (numbers_of c.args.scope.now.root.now.nodes) (places_in c.args.scope.now.root.now c.args.externs.now) refl))))

pub returns-in_err-check_name-clause-err : goal.returns-in_err-check_name-clause-err
returns-in_err-check_name-clause-err g c =
    let p = err_from_is_err_and c.from_residual-in_err-check_name.result c.from_residual-in_err-check_name.ensures.1 in
    rw (p.1, p.2) (reports c.in_err-check_name.ensures.err (λ err numbering s same. inr (c.in_ok-check_undefined.ensures.ok numbering, inr (c.in_ok-check_unexported.ensures.ok, err s same))))
