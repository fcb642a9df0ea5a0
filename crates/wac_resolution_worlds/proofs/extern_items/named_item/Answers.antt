use Rattle.wac_resolution_worlds.proofs.Common.{inl, inr, err_from_is_err_and, named_world_item_of, values_of, lists_of, reports, extern_fresh}
use Rattle.wac_resolution_worlds.proofs.WorldItems.{named_goes}
use Rattle.wac_resolution_worlds.proofs.extern_items.named_item.Goals as goal

pub returns-in_err-check_extern-clause-err : goal.returns-in_err-check_extern-clause-err
returns-in_err-check_extern-clause-err c =
    let p = err_from_is_err_and c.from_residual.result c.from_residual.ensures.1 in
    rw (p.1, p.2) (reports c.in_err-check_extern.ensures.err (λ err numbering. inl (err numbering c.args.state.now.graph)))

pub extern_type-requires-clause-names : goal.extern_type-requires-clause-names
extern_type-requires-clause-names c = c.requires.body.names

pub returns-in_err-kind-clause-err : goal.returns-in_err-kind-clause-err
returns-in_err-kind-clause-err c =
    let p = err_from_is_err_and c.from_residual-in_err-kind.result c.from_residual-in_err-kind.ensures.1 in
    rw (p.1, p.2) (reports c.in_err-kind.ensures.err (λ err numbering. inr (extern_fresh numbering c.args.state.now.graph c.args.section.now.side (lists_of c.args.body.now) c.args.item.now.id.string.now c.in_ok-check_extern.ensures.ok, err numbering)))

pub returns-clause-ok : goal.returns-clause-ok
returns-clause-ok c =
    named_goes c.args.outer.now.context.now c.args.section.now.side c.args.state.now.graph c.extern_type.new.state.graph (values_of c.args.outer.now.root.now) (lists_of c.args.body.now) (lists_of c.add.new.self) (named_world_item_of c.args.item.now) c.in_ok-kind.kind
    c.requires.body c.in_ok-check_extern.ensures.ok c.in_ok-kind.ensures.ok c.in_ok-add.ensures
