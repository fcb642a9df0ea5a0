use Rattle.wac_resolution_worlds.proofs.Common.{map, take, world_item_of, values_of, lists_of}
use Rattle.wac_resolution_worlds.specs.WorldItems.{WorldItemSteps}
use Rattle.wac_resolution_worlds.proofs.world_items.world_items.Given as goal

abbrev pub invariant-loop-item : goal.invariant-loop-item
invariant-loop-item l = WorldItemSteps l.outer.context.now l.fn.state.graph l.state.graph (values_of l.outer.root.now) (lists_of l.fn.body) (lists_of l.body) (take l.item-index (map world_item_of l.items))
