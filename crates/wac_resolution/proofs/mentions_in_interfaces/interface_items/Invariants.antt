use Rattle.wac_resolution.proofs.Common.{take, map, flat_map, interface_item_of, interface_item_mentions}
use Rattle.wac_resolution.specs.Noted.{Notes}
use Rattle.wac_resolution.proofs.mentions_in_interfaces.interface_items.Given as goal

abbrev pub invariant-loop-item : goal.invariant-loop-item
invariant-loop-item l = Notes l.fn.mentions l.mentions (flat_map (interface_item_mentions l.fn.mentions.own) (map interface_item_of (take l.item-index l.items)))
