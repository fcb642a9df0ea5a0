use Rattle.wac_resolution_types.proofs.Common.{inl, err_from_is_err_and, ident_of, values_of, reports}
use Rattle.wac_resolution_types.proofs.Aliasing.{name_aliased}
use Rattle.wac_resolution_types.proofs.aliases.alias_of_name.Goals as goal

pub returns-in_err-kind-clause-err : goal.returns-in_err-kind-clause-err
returns-in_err-kind-clause-err c =
    let p = err_from_is_err_and c.from_residual.result c.from_residual.ensures.1 in
    rw (p.1, p.2) (reports c.in_err-kind.ensures.err (λ err numbering. inl (err numbering c.args.state.now.graph)))

pub returns-in-Some-clause-ok : goal.returns-in-Some-clause-ok
returns-in-Some-clause-ok c =
    let made = rw c.in-Some.is at c.in_ok-made.ensures in
    name_aliased c.args.state.now.graph c.aliased.new.state.graph (values_of c.args.names.now) c.args.place c.args.name.now (ident_of c.args.id.now) c.in_ok-kind.kind c.in-Some.made c.in_ok-kind.ensures.ok made
