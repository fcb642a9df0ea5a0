use Rattle.wac_resolution_worlds.proofs.Common.{ap, item_type_decl_of, world_import_of, world_export_of, world_item_of, use_of, world_include_of, values_of, lists_of, owner_of, if_reports}
use Rattle.wac_resolution_worlds.proofs.WorldBodies.{use_breaks, import_breaks, export_breaks, declaration_breaks, declaration_item, include_item}
use Rattle.wac_resolution_worlds.proofs.world_items.world_item.Goals as goal

pub returns-in-Use-clause-ok : goal.returns-in-Use-clause-ok
returns-in-Use-clause-ok c = rw c.in-Use.is c.use_statement.ensures.ok

pub returns-in-Use-clause-err : goal.returns-in-Use-clause-err
returns-in-Use-clause-err c =
    if_reports _ _
    (λ r. use_breaks c.args.outer.now.context.now c.args.state.now.graph (values_of c.args.outer.now.root.now) (owner_of c.args.owner.now) (lists_of c.args.body.now) c.args.item.now (use_of c.in-Use.used) r (ap world_item_of c.in-Use.is))
    c.use_statement.result c.use_statement.ensures.err

pub returns-in-Import-clause-err : goal.returns-in-Import-clause-err
returns-in-Import-clause-err c =
    if_reports _ _
    (λ r. import_breaks c.args.outer.now.context.now c.args.state.now.graph (values_of c.args.outer.now.root.now) (owner_of c.args.owner.now) (lists_of c.args.body.now) c.args.item.now (world_import_of c.in-Import.import) r (ap world_item_of c.in-Import.is))
    c.extern_item.result c.extern_item.ensures.err

pub returns-in-Export-clause-err : goal.returns-in-Export-clause-err
returns-in-Export-clause-err c =
    if_reports _ _
    (λ r. export_breaks c.args.outer.now.context.now c.args.state.now.graph (values_of c.args.outer.now.root.now) (owner_of c.args.owner.now) (lists_of c.args.body.now) c.args.item.now (world_export_of c.in-Export.export) r (ap world_item_of c.in-Export.is))
    c.extern_item-in-Export.result c.extern_item-in-Export.ensures.err

pub returns-in-Include-clause-ok : goal.returns-in-Include-clause-ok
returns-in-Include-clause-ok c =
    include_item c.args.outer.now.context.now c.args.state.now.graph (values_of c.args.outer.now.root.now) (lists_of c.args.body.now) c.args.item.now (world_include_of c.in-Include.field-0) (ap world_item_of c.in-Include.is) c.requires.supplied c.requires.body

pub returns-in-Ty-clause-ok : goal.returns-in-Ty-clause-ok
returns-in-Ty-clause-ok c =
    declaration_item c.args.outer.now.context.now c.args.state.now.graph c.item.new.state.graph (values_of c.args.outer.now.root.now) (lists_of c.args.body.now) (lists_of c.item.new.body) c.args.item.now (item_type_decl_of c.in-Ty.decl) c.item.result (ap world_item_of c.in-Ty.is) c.requires.supplied c.item.ensures.ok

pub returns-in-Ty-clause-err : goal.returns-in-Ty-clause-err
returns-in-Ty-clause-err c =
    if_reports _ _
    (λ r. declaration_breaks c.args.outer.now.context.now c.args.state.now.graph (values_of c.args.outer.now.root.now) (owner_of c.args.owner.now) (lists_of c.args.body.now) c.args.item.now (item_type_decl_of c.in-Ty.decl) r (ap world_item_of c.in-Ty.is))
    c.item.result c.item.ensures.err
