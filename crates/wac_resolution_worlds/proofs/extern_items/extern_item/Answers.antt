use Rattle.wac_resolution_worlds.proofs.Common.{ap, ident_of, world_item_path_of, values_of, lists_of, owner_of, if_reports}
use Rattle.wac_resolution_worlds.proofs.WorldItems.{ident_item_goes, ident_item_breaks}
use Rattle.wac_resolution_worlds.proofs.extern_items.extern_item.Goals as goal

pub returns-in-Named-clause-err : goal.returns-in-Named-clause-err
returns-in-Named-clause-err c = rw c.in-Named.is c.named_item.ensures.err

pub returns-in-Package-clause-err : goal.returns-in-Package-clause-err
returns-in-Package-clause-err c = rw c.in-Package.is c.path_item.ensures.err

pub returns-in-Ident-clause-ok : goal.returns-in-Ident-clause-ok
returns-in-Ident-clause-ok c =
    ident_item_goes c.args.outer.now.context.now c.args.section.now.side c.args.state.now.graph (values_of c.args.outer.now.root.now) (lists_of c.args.body.now) (lists_of c.ident_item.new.body) c.args.item.now (ident_of c.in-Ident.id) c.ident_item.result (ap world_item_path_of c.in-Ident.is) c.requires.supplied c.ident_item.ensures.ok

pub returns-in-Ident-clause-err : goal.returns-in-Ident-clause-err
returns-in-Ident-clause-err c =
    if_reports _ _
    (λ r. ident_item_breaks c.args.outer.now.context.now (owner_of c.args.section.now.owner) c.args.section.now.side c.args.state.now.graph (values_of c.args.outer.now.root.now) (lists_of c.args.body.now) c.args.item.now (ident_of c.in-Ident.id) r (ap world_item_path_of c.in-Ident.is))
    c.ident_item.result c.ident_item.ensures.err
