use Rattle.wac_resolution_worlds.proofs.Common.{inl, inr, err_from_is_err_and, ident_of, means, values_of, lists_of, reports}
use Rattle.wac_resolution_worlds.proofs.WorldItems.{ident_goes}
use Rattle.wac_resolution_worlds.proofs.extern_items.ident_item.Goals as goal

pub returns-in_err-kind-clause-err : goal.returns-in_err-kind-clause-err
returns-in_err-kind-clause-err c =
    let p = err_from_is_err_and c.from_residual.result c.from_residual.ensures.1 in
    rw (p.1, p.2) (reports c.in_err-kind.ensures.err (λ err numbering context. inl (err numbering c.args.state.now.graph)))

pub instance-requires-clause-kind : goal.instance-requires-clause-kind
instance-requires-clause-kind c = c.in_ok-kind.ensures.ok.named c.args.state.now.graph.types c.requires.root

pub returns-in_err-instance-clause-err : goal.returns-in_err-instance-clause-err
returns-in_err-instance-clause-err c =
    let p = err_from_is_err_and c.from_residual-in_err-instance.result c.from_residual-in_err-instance.ensures.1 in
    rw (p.1, p.2) (reports c.in_err-instance.ensures.err (λ err numbering context. inr (means numbering c.args.state.now.graph c.in_ok-kind.kind, c.in_ok-kind.ensures.ok.is numbering c.args.state.now.graph, err numbering)))

pub returns-clause-ok : goal.returns-clause-ok
returns-clause-ok c =
    ident_goes c.args.section.now.side c.args.state.now.graph (values_of c.args.root.now) (lists_of c.args.body.now) (lists_of c.instance.new.body) (ident_of c.args.id.now) c.in_ok-kind.kind c.in_ok-kind.ensures.ok c.in_ok-instance.ensures.ok
