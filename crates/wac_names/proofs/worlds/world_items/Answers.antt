use Rattle.wac_ast_worlds.specs.Worlds.{world_item_of}
use Rattle.wac_names.specs.Steps.{world_item_steps}
use Rattle.wac_names.proofs.Taking.{none, next, all}
use Rattle.wac_names.proofs.worlds.world_items.Goals as goal

pub loop-item-init : goal.loop-item-init
loop-item-init c = none c.args.finder.now

pub loop-item-preserved : goal.loop-item-preserved
loop-item-preserved c = next world_item_of (world_item_steps c.args.place.here.level) c.args.items.now c.loop-item.item-index c.item-item.result c.args.finder.now c.loop-item.finder c.world_item.new.finder c.loop-item-test.true c.item-item.is c.loop-item.invariant c.in_ok-world_item.ensures

pub returns : goal.returns
returns c = all world_item_of (world_item_steps c.args.place.here.level) c.args.items.now c.loop-item.item-index c.args.finder.now c.loop-item.finder c.loop-item-test.false c.loop-item.invariant
