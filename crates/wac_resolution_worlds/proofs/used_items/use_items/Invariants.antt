use Rattle.wac_resolution_worlds.proofs.Common.{map, take, use_item_of, lists_of}
use Rattle.wac_resolution_worlds.specs.Used.{UseSteps}
use Rattle.wac_resolution_worlds.proofs.used_items.use_items.Given as goal

abbrev pub invariant-loop-item : goal.invariant-loop-item
invariant-loop-item l = UseSteps l.side l.state.graph l.used.interface (lists_of l.fn.body) (lists_of l.body) (take l.item-index (map use_item_of l.items))
