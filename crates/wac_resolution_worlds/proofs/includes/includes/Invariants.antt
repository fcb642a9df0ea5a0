use Rattle.wac_resolution_worlds.proofs.Common.{map, take, world_item_of, includes_of, values_of, lists_of}
use Rattle.wac_resolution_worlds.specs.WorldItems.{IncludeSteps}
use Rattle.wac_resolution_worlds.proofs.includes.includes.Given as goal

abbrev pub invariant-loop-item : goal.invariant-loop-item
invariant-loop-item l = IncludeSteps l.outer.context.now l.fn.state.graph l.state.graph (values_of l.outer.root.now) (lists_of l.fn.body) (lists_of l.body) (includes_of (take l.item-index (map world_item_of l.items)))
