use Rattle.std.proofs.Common.{take, map, flat_map}
use Rattle.wac_ast_worlds.specs.Worlds.{world_item_of}
use Rattle.wac_names.specs.Steps.{world_item_steps}
use Rattle.wac_names.specs.Traced.{Takes}
use Rattle.wac_names.proofs.worlds.world_items.Given as goal

abbrev pub invariant-loop-item : goal.invariant-loop-item
invariant-loop-item l = Takes l.fn.finder l.finder (flat_map (world_item_steps l.place.here.level) (map world_item_of (take l.item-index l.items)))
