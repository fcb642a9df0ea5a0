use Rattle.wac_resolution_worlds.proofs.Common.{inr, rules, use_item_of}
use Rattle.wac_resolution_worlds.proofs.UsedItems.{kind_there, nothing_there}
use Rattle.wac_resolution_worlds.proofs.used_item.exported.Goals as goal

pub returns-in_ok-from_str-in-None-2-clause-err : goal.returns-in_ok-from_str-in-None-2-clause-err
returns-in_ok-from_str-in-None-2-clause-err c = inr (λ numbering.
    (nothing_there c.args.state.now.graph c.args.used.now.interface (use_item_of c.args.item.now) c.export.result c.in-None.is c.export.ensures.means numbering, search rules))

pub returns-in-Some-clause-ok : goal.returns-in-Some-clause-ok
returns-in-Some-clause-ok c = kind_there c.args.state.now.graph c.args.used.now.interface (use_item_of c.args.item.now) c.in-Some.kind c.export.result c.in-Some.is c.export.ensures.means c.in-Some.ensures.named
