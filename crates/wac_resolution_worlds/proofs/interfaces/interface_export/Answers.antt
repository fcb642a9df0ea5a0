use Rattle.wac_resolution_worlds.proofs.Common.{inl, err_from_is_err_and, interface_export_of, error_model, reports, memory_model, lists_of, owner_of}
use Rattle.wac_resolution_worlds.proofs.InterfaceBodies.{export_goes, export_conflicts}
use Rattle.wac_resolution_worlds.proofs.interfaces.interface_export.Goals as goal

pub returns-in_err-func-clause-err : goal.returns-in_err-func-clause-err
returns-in_err-func-clause-err c =
    let p = err_from_is_err_and c.from_residual.result c.from_residual.ensures.1 in
    rw (p.1, p.2) (reports c.in_err-func.ensures.err (λ err numbering context root before. inl (err numbering)))

pub returns-in_err-check_extern-clause-err : goal.returns-in_err-check_extern-clause-err
returns-in_err-check_extern-clause-err c =
    let p = err_from_is_err_and c.from_residual-in_err-check_extern.result c.from_residual-in_err-check_extern.ensures.1 in
    rw (p.1, p.2) (reports c.in_err-check_extern.ensures.err (λ err. export_conflicts (owner_of c.args.owner.now) c.args.state.now.graph c.func_ref.new.state.graph (lists_of c.args.body.now) (interface_export_of c.args.export.now) c.in_ok-func.func (error_model c.in_err-check_extern.field-0.0)
    c.in_ok-func.ensures.ok (λ numbering. err numbering c.args.state.now.graph)))

pub returns-in_err-add-clause-err : goal.returns-in_err-add-clause-err
returns-in_err-add-clause-err c =
    let p = err_from_is_err_and c.from_residual-in_err-add.result c.from_residual-in_err-add.ensures.1 in
    rw p.1 (inl (memory_model p.0 p.2))

pub returns-clause-ok : goal.returns-clause-ok
returns-clause-ok c =
    export_goes c.args.state.now.graph c.func_ref.new.state.graph (lists_of c.args.body.now) (lists_of c.add.new.self) (interface_export_of c.args.export.now) c.in_ok-func.func
    c.requires c.in_ok-func.ensures.ok c.in_ok-check_extern.ensures.ok c.in_ok-add.ensures
