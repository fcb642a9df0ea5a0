use Rattle.wac_resolution_worlds.proofs.Common.{inl, err_from_is_err_and, error_model, reports, memory_model, lists_of, owner_of}
use Rattle.wac_resolution_worlds.proofs.Refer.{interface_kind}
use Rattle.wac_resolution_worlds.proofs.WorldItems.{instance_goes, instance_conflicts}
use Rattle.wac_resolution_worlds.proofs.instances.instance.Goals as goal

pub returns-in_err-interface-clause-err : goal.returns-in_err-interface-clause-err
returns-in_err-interface-clause-err c =
    let p = err_from_is_err_and c.from_residual.result c.from_residual.ensures.1 in
    rw (p.1, p.2) (reports c.in_err-interface.ensures.err (λ err numbering. inl (err numbering c.args.state.now.graph)))

pub instance_id-id-requires : goal.instance_id-id-requires
instance_id-id-requires c = (interface_kind c.args.named.now.kind c.in_ok-interface.interface c.in_ok-interface.ensures.ok).named c.args.state.now.graph.types c.requires.kind

pub returns-in_err-check_extern-clause-err : goal.returns-in_err-check_extern-clause-err
returns-in_err-check_extern-clause-err c =
    let p = err_from_is_err_and c.from_residual-in_err-check_extern.result c.from_residual-in_err-check_extern.ensures.1 in
    rw (p.1, p.2) (reports c.in_err-check_extern.ensures.err (λ err. instance_conflicts (owner_of c.args.section.now.owner) c.args.state.now.graph c.args.section.now.side (lists_of c.args.body.now) c.args.named.now.kind c.in_ok-interface.interface c.instance_id-id.result.now c.args.named.now.text.now c.args.named.now.span (error_model c.in_err-check_extern.field-0.0)
    (interface_kind c.args.named.now.kind c.in_ok-interface.interface c.in_ok-interface.ensures.ok) c.instance_id-id.ensures (λ numbering. err numbering c.args.state.now.graph)))

pub returns-in_err-add-clause-err : goal.returns-in_err-add-clause-err
returns-in_err-add-clause-err c =
    let p = err_from_is_err_and c.from_residual-in_err-add.result c.from_residual-in_err-add.ensures.1 in
    rw p.1 (inl (memory_model p.0 p.2))

pub returns-clause-ok : goal.returns-clause-ok
returns-clause-ok c =
    instance_goes c.args.state.now.graph c.args.section.now.side (lists_of c.args.body.now) (lists_of c.add.new.self) c.args.named.now.kind c.in_ok-interface.interface c.instance_id-id.result.now
    c.requires.body c.requires.kind (interface_kind c.args.named.now.kind c.in_ok-interface.interface c.in_ok-interface.ensures.ok) c.instance_id-id.ensures c.in_ok-check_extern.ensures.ok c.in_ok-add.ensures
