use Rattle.wac_resolution_worlds.proofs.Common.{map, take, ap, arith, err_from_is_err_and, take_all, length-map, interface_item_of, error_model, InterfaceItemBroken, bound_in_interface_item, HasInterfaceItem, values_of, places_of, packages_in, context_of, reports, items_expanded, lists_of, owner_of}
use Rattle.wac_graph_types.specs.declared.kind.ExternKind.TheVariants as sides
use Rattle.wac_resolution_worlds.proofs.Growing.{none_expand, items_step, items_all, items_break}
use Rattle.wac_resolution_worlds.proofs.InterfaceBodies.{empty_is_body}
use Rattle.wac_resolution_worlds.proofs.interfaces.interface_items.Goals as goal

pub loop-item-init : goal.loop-item-init
loop-item-init c =
    none_expand (packages_in c.args.outer.now.context.now) (λ numbering. HasInterfaceItem (context_of numbering c.args.outer.now.context.now)) sides.Export c.args.state.now.graph (values_of c.args.outer.now.root.now) (lists_of c.args.body.now) c.requires.supplied
    (empty_is_body c.args.state.now.graph.types (lists_of c.args.body.now) c.requires.empty)

pub interface_item-requires-clause-body : goal.interface_item-requires-clause-body
interface_item-requires-clause-body c = c.loop-item.invariant.body

pub interface_item-requires-clause-root : goal.interface_item-requires-clause-root
interface_item-requires-clause-root c = items_expanded c.args.state.now.graph c.loop-item.state.graph (values_of c.args.outer.now.root.now) c.loop-item.invariant.grows c.requires.root

pub interface_item-requires-clause-supplied : goal.interface_item-requires-clause-supplied
interface_item-requires-clause-supplied c = c.loop-item.invariant.supplied

pub returns-in_err-interface_item-clause-err : goal.returns-in_err-interface_item-clause-err
returns-in_err-interface_item-clause-err c =
    let p = err_from_is_err_and c.from_residual.result c.from_residual.ensures.1 in
    rw (p.1, p.2) (reports c.in_err-interface_item.ensures.err (items_break (packages_in c.args.outer.now.context.now) (λ numbering. HasInterfaceItem (context_of numbering c.args.outer.now.context.now)) (λ numbering root. InterfaceItemBroken (context_of numbering c.args.outer.now.context.now) root (owner_of c.args.owner.now) (error_model c.in_err-interface_item.field-0.0)) bound_in_interface_item interface_item_of sides.Export
    c.args.state.now.graph c.loop-item.state.graph (values_of c.args.outer.now.root.now) (lists_of c.args.body.now) (lists_of c.loop-item.body) c.args.items.now c.loop-item.item-index c.item-item.result
    c.loop-item-test.true c.item-item.is c.requires.root (ap (λ l. places_of l.names) c.requires.empty) c.loop-item.invariant))

pub loop-item-preserved : goal.loop-item-preserved
loop-item-preserved c =
    items_step (packages_in c.args.outer.now.context.now) (λ numbering. HasInterfaceItem (context_of numbering c.args.outer.now.context.now)) bound_in_interface_item interface_item_of sides.Export
    c.args.state.now.graph c.loop-item.state.graph c.interface_item.new.state.graph (values_of c.args.outer.now.root.now) (lists_of c.args.body.now) (lists_of c.loop-item.body) (lists_of c.interface_item.new.body) c.args.items.now c.loop-item.item-index c.item-item.result
    c.loop-item-test.true c.item-item.is c.requires.root c.loop-item.invariant c.in_ok-interface_item.ensures.ok

pub returns-clause-ok : goal.returns-clause-ok
returns-clause-ok c =
    items_all (packages_in c.args.outer.now.context.now) (λ numbering. HasInterfaceItem (context_of numbering c.args.outer.now.context.now)) bound_in_interface_item sides.Export c.args.state.now.graph c.loop-item.state.graph (values_of c.args.outer.now.root.now) (lists_of c.args.body.now) (lists_of c.loop-item.body)
    (take c.loop-item.item-index (map interface_item_of c.args.items.now)) (map interface_item_of c.args.items.now) (take_all c.loop-item.item-index (map interface_item_of c.args.items.now) (omega (arith, length-map c.args.items.now interface_item_of))) c.loop-item.invariant
