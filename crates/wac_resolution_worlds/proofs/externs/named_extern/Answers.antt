use Rattle.wac_resolution_worlds.proofs.Common.{sym, err_from_is_err_and, ident_of, error_model, values_of, reports}
use Rattle.wac_resolution_worlds.proofs.Refer.{extern_named, extern_breaks}
use Rattle.wac_resolution_worlds.proofs.externs.named_extern.Goals as goal

pub returns-in_err-item_of-in-Some-clause-err : goal.returns-in_err-item_of-in-Some-clause-err
returns-in_err-item_of-in-Some-clause-err c =
    let p = err_from_is_err_and c.from_residual.result c.from_residual.ensures.1 in
    rw (p.1, p.2) (reports c.in_err-item_of-in-Some.ensures.err (extern_breaks (values_of c.args.names.now) (values_of c.args.root.now) (ident_of c.args.id.now) c.in-Some.kind (error_model c.in_err-item_of-in-Some.field-0.0) (sym c.in-Some.ensures)))

pub returns-in_ok-item_of-in-Some-clause-ok : goal.returns-in_ok-item_of-in-Some-clause-ok
returns-in_ok-item_of-in-Some-clause-ok c =
    extern_named (values_of c.args.names.now) (values_of c.args.root.now) (ident_of c.args.id.now) c.in-Some.kind c.in_ok-item_of-in-Some.field-0 (sym c.in-Some.ensures) c.in_ok-item_of-in-Some.ensures.ok
