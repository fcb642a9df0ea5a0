use Rattle.wac_resolution_worlds.proofs.Common.{map, take, arith, err_from_is_err_and, take_all, length-map, use_item_of, means, error_model, UsesItem, UseItemBroken, used_at, lists_of, reports, none_go, items_break}
use Rattle.wac_graph_types.specs.declared.kind.ItemKind.TheVariants as kinds
use Rattle.wac_resolution_worlds.proofs.UsedItems.{uses_step, uses_all}
use Rattle.wac_resolution_worlds.proofs.used_items.use_items.Goals as goal

pub loop-item-init : goal.loop-item-init
loop-item-init c = none_go (λ numbering. UsesItem c.args.side (means numbering c.args.state.now.graph (kinds.Instance c.args.used.now.interface))) c.args.side c.args.state.now.graph (lists_of c.args.body.now) c.requires.body

pub use_item-requires-clause-body : goal.use_item-requires-clause-body
use_item-requires-clause-body c = c.loop-item.invariant.body

pub returns-in_err-use_item-clause-err : goal.returns-in_err-use_item-clause-err
returns-in_err-use_item-clause-err c =
    let p = err_from_is_err_and c.from_residual.result c.from_residual.ensures.1 in
    rw (p.1, p.2) (reports c.in_err-use_item.ensures.err (items_break (λ numbering. UsesItem c.args.side (means numbering c.args.state.now.graph (kinds.Instance c.args.used.now.interface))) (λ numbering. UseItemBroken c.args.side (means numbering c.args.state.now.graph (kinds.Instance c.args.used.now.interface)) c.args.used.now.path.now (error_model c.in_err-use_item.field-0.0))
    use_item_of c.args.side c.args.state.now.graph c.args.state.now.graph (lists_of c.args.body.now) (lists_of c.loop-item.body) (used_at (take c.loop-item.item-index (map use_item_of c.args.items.now))) c.args.items.now c.loop-item.item-index c.item-item.result
    c.loop-item-test.true c.item-item.is c.loop-item.invariant))

pub loop-item-preserved : goal.loop-item-preserved
loop-item-preserved c =
    uses_step use_item_of c.args.side c.args.state.now.graph c.args.used.now.interface (lists_of c.args.body.now) (lists_of c.loop-item.body) (lists_of c.use_item.new.body) c.args.items.now c.loop-item.item-index c.item-item.result
    c.loop-item-test.true c.item-item.is c.loop-item.invariant c.in_ok-use_item.ensures.ok

pub returns-clause-ok : goal.returns-clause-ok
returns-clause-ok c =
    uses_all c.args.side c.args.state.now.graph c.args.used.now.interface (lists_of c.args.body.now) (lists_of c.loop-item.body) (take c.loop-item.item-index (map use_item_of c.args.items.now)) (map use_item_of c.args.items.now)
    (take_all c.loop-item.item-index (map use_item_of c.args.items.now) (omega (arith, length-map c.args.items.now use_item_of))) c.loop-item.invariant
