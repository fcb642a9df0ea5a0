use Rattle.wac_resolution_worlds.proofs.Common.{map, take, interface_item_of, values_of, lists_of}
use Rattle.wac_resolution_worlds.specs.Made.{InterfaceItemSteps}
use Rattle.wac_resolution_worlds.proofs.interfaces.interface_items.Given as goal

abbrev pub invariant-loop-item : goal.invariant-loop-item
invariant-loop-item l = InterfaceItemSteps l.outer.context.now l.fn.state.graph l.state.graph (values_of l.outer.root.now) (lists_of l.fn.body) (lists_of l.body) (take l.item-index (map interface_item_of l.items))
