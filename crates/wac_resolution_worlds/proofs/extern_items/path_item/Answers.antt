use Rattle.wac_resolution_worlds.proofs.Common.{inl, err_from_is_err_and, package_path_of, error_model, values_of, packages_in, lists_of, owner_of, reports}
use Rattle.wac_resolution_worlds.proofs.WorldItems.{body_there, path_goes, path_breaks}
use Rattle.wac_resolution_worlds.proofs.extern_items.path_item.Goals as goal

pub returns-in_err-kind-clause-err : goal.returns-in_err-kind-clause-err
returns-in_err-kind-clause-err c =
    let p = err_from_is_err_and c.from_residual.result c.from_residual.ensures.1 in
    rw (p.1, p.2) (reports c.in_err-kind.ensures.err (λ err numbering. inl (err numbering)))

pub instance-requires-clause-body : goal.instance-requires-clause-body
instance-requires-clause-body c = body_there (packages_in c.args.outer.now.context.now) c.args.state.now.graph c.path.new.state.graph _ (lists_of c.args.body.now) c.in_ok-kind.kind c.requires.body c.in_ok-kind.ensures.ok

pub instance-requires-clause-kind : goal.instance-requires-clause-kind
instance-requires-clause-kind c = c.in_ok-kind.ensures.ok.named

pub returns-in_err-instance-clause-err : goal.returns-in_err-instance-clause-err
returns-in_err-instance-clause-err c =
    let p = err_from_is_err_and c.from_residual-in_err-instance.result c.from_residual-in_err-instance.ensures.1 in
    rw (p.1, p.2) (reports c.in_err-instance.ensures.err (path_breaks c.args.outer.now.context.now (owner_of c.args.section.now.owner) c.args.section.now.side c.args.state.now.graph c.path.new.state.graph (values_of c.args.outer.now.root.now) (lists_of c.args.body.now) (package_path_of c.args.from.now) c.in_ok-kind.kind (error_model c.in_err-instance.field-0.0)
    c.requires.body c.in_ok-kind.ensures.ok))

pub returns-clause-ok : goal.returns-clause-ok
returns-clause-ok c =
    path_goes c.args.outer.now.context.now c.args.section.now.side c.args.state.now.graph c.path.new.state.graph (values_of c.args.outer.now.root.now) (lists_of c.args.body.now) (lists_of c.instance.new.body) (package_path_of c.args.from.now) c.in_ok-kind.kind
    c.requires.body c.in_ok-kind.ensures.ok c.in_ok-instance.ensures.ok
