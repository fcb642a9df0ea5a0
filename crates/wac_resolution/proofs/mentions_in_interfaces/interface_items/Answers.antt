use Rattle.wac_resolution.proofs.Common.{interface_item_of, interface_item_mentions}
use Rattle.wac_resolution.proofs.Noting.{none, next, all}
use Rattle.wac_resolution.proofs.mentions_in_interfaces.interface_items.Goals as goal

pub loop-item-init : goal.loop-item-init
loop-item-init c = none c.args.mentions.now

pub loop-item-preserved : goal.loop-item-preserved
loop-item-preserved c = next interface_item_of interface_item_mentions c.args.items.now c.loop-item.item-index c.item-item.result c.args.mentions.now c.loop-item.mentions c.interface_item.new.mentions c.loop-item-test.true c.item-item.is c.loop-item.invariant c.in_ok-interface_item.ensures

pub returns : goal.returns
returns c = all interface_item_of interface_item_mentions c.args.items.now c.loop-item.item-index c.args.mentions.now c.loop-item.mentions c.loop-item-test.false c.loop-item.invariant
