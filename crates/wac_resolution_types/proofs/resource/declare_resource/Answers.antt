use Rattle.wac_resolution_types.proofs.Common.{inl, inr, err_from_is_err_and, ident_of, reports}
use Rattle.wac_resolution_types.specs.Lists.{lists_of}
use Rattle.wac_resolution_types.proofs.Declared.{resource_goes}
use Rattle.wac_resolution_types.proofs.Lists.{bound_fresh}
use Rattle.wac_resolution_types.proofs.resource.declare_resource.Goals as goal

pub returns-in_err-check_name-clause-err : goal.returns-in_err-check_name-clause-err
returns-in_err-check_name-clause-err c =
    let p = err_from_is_err_and c.from_residual.result c.from_residual.ensures.1 in
    rw (p.1, p.2) (reports c.in_err-check_name.ensures.err (λ err numbering g. inl (err numbering g)))

pub returns-in_err-check_extern-clause-err : goal.returns-in_err-check_extern-clause-err
returns-in_err-check_extern-clause-err c =
    let p = err_from_is_err_and c.from_residual-in_err-check_extern.result c.from_residual-in_err-check_extern.ensures.1 in
    rw (p.1, p.2) (reports c.in_err-check_extern.ensures.err (λ err numbering g. inr (bound_fresh numbering g (lists_of c.args.body.now) c.args.id.now.string.now c.in_ok-check_name.ensures.ok, err numbering g)))

pub returns-clause-ok : goal.returns-clause-ok
returns-clause-ok c =
    resource_goes c.args.section.now.side c.args.state.now.graph c.add_resource.new.self.graph (lists_of c.args.body.now) (lists_of c.bind.new.self) (ident_of c.args.id.now) c.in_ok-resource.resource
    c.in_ok-check_name.ensures.ok c.in_ok-check_extern.ensures.ok c.requires c.in_ok-resource.ensures c.in_ok-bind.ensures
