use Rattle.wac_resolution_worlds.proofs.Common.{inr, refl, err_from_is_err_and, ident_of, use_item_of, means, error_model, lists_of, body_of, reports}
use Rattle.wac_resolution_worlds.proofs.UsedItems.{kind_breaks, use_unused, use_bound, use_fresh, use_goes}
use Rattle.wac_resolution_worlds.proofs.used_items.use_item.Goals as goal

pub returns-in_err-kind-clause-err : goal.returns-in_err-kind-clause-err
returns-in_err-kind-clause-err c =
    let p = err_from_is_err_and c.from_residual.result c.from_residual.ensures.1 in
    rw (p.1, p.2) (reports c.in_err-kind.ensures.err (λ err numbering before. kind_breaks c.args.side c.args.state.now.graph c.args.used.now.interface c.args.used.now.path.now (error_model c.in_err-kind.field-0.0) (body_of numbering c.args.state.now.graph c.args.body.now) before (use_item_of c.args.item.now) numbering (err numbering)))

pub returns-in_err-check_use-clause-err : goal.returns-in_err-check_use-clause-err
returns-in_err-check_use-clause-err c =
    let p = err_from_is_err_and c.from_residual-in_err-check_use.result c.from_residual-in_err-check_use.ensures.1 in
    rw (p.1, p.2) (reports c.in_err-check_use.ensures.err (λ err numbering before. inr (inr ((means numbering c.args.state.now.graph c.in_ok-kind.kind, c.in_ok-kind.ensures.ok.there.is numbering, c.in_ok-kind.ensures.ok.usable numbering), err numbering c.args.state.now.graph))))

pub add_use-requires : goal.add_use-requires
add_use-requires c =
    use_unused c.args.state.now.graph.types c.args.side (lists_of c.args.body.now) (use_item_of c.args.item.now) (ident_of c.used_as-id.result.now) c.used_as-id.ensures c.requires.body c.in_ok-check_use.ensures.ok

pub bind-requires-clause-bound : goal.bind-requires-clause-bound
bind-requires-clause-bound c =
    use_bound c.args.state.now.graph.types c.args.side (lists_of c.args.body.now) (lists_of c.add_use.new.self) (use_item_of c.args.item.now) (ident_of c.used_as-id.result.now) (record { interface = c.args.used.now.interface; name = c.in_ok-name.name })
    c.used_as-id.ensures c.requires.body c.in_ok-check_use.ensures.ok c.in_ok-add_use.ensures

pub bind-requires-clause-fresh : goal.bind-requires-clause-fresh
bind-requires-clause-fresh c =
    use_fresh c.args.side (lists_of c.args.body.now) (lists_of c.add_use.new.self) (use_item_of c.args.item.now) (ident_of c.used_as-id.result.now) (record { interface = c.args.used.now.interface; name = c.in_ok-name.name })
    c.used_as-id.ensures c.in_ok-check_use.ensures.ok c.in_ok-add_use.ensures

pub returns-clause-ok : goal.returns-clause-ok
returns-clause-ok c =
    use_goes c.args.side c.args.state.now.graph c.args.used.now.interface (lists_of c.args.body.now) (lists_of c.add_use.new.self) (lists_of c.bind.new.self) (use_item_of c.args.item.now) (ident_of c.used_as-id.result.now) c.in_ok-kind.kind (record { interface = c.args.used.now.interface; name = c.in_ok-name.name })
    c.used_as-id.ensures refl c.in_ok-name.ensures c.requires.body c.requires.interface c.in_ok-kind.ensures.ok c.in_ok-check_use.ensures.ok c.in_ok-add_use.ensures c.in_ok-bind.ensures
