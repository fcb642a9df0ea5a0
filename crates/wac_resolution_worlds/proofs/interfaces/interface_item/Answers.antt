use Rattle.wac_resolution_worlds.proofs.Common.{ap, subst, IfErr, OnOk, item_type_decl_of, interface_export_of, interface_item_of, use_of, Numbering, Reports, error_model, UseBroken, values_of, scope_of, context_of, body_of, lists_of, owner_of, if_reports}
use Rattle.wac_graph_types.specs.declared.kind.ExternKind.TheVariants as sides
use Rattle.wac_ast_uses.specs.declared.uses.Use.{Use}
use Rattle.wac_resolution_worlds.specs.UseStatements.{UseStatementStep}
use Rattle.wac_resolution_worlds.proofs.InterfaceBodies.{use_breaks, export_breaks, declaration_breaks, export_item, declaration_item}
use Rattle.wac_resolution_worlds.proofs.interfaces.interface_item.Goals as goal

pub returns-in-Use-clause-ok : goal.returns-in-Use-clause-ok
returns-in-Use-clause-ok c =
    let h = subst (λ (u : Use). OnOk c.use_statement.result (UseStatementStep c.args.outer.now.context.now sides.Export c.args.state.now.graph c.use_statement.new.state.graph (values_of c.args.outer.now.root.now) (lists_of c.args.body.now) (lists_of c.use_statement.new.body) (use_of u))) c.deref.ensures c.use_statement.ensures.ok in
    rw c.in-Use.is h

pub returns-in-Use-clause-err : goal.returns-in-Use-clause-err
returns-in-Use-clause-err c =
    let h = subst (λ (u : Use). IfErr c.use_statement.result (λ e. Reports (error_model e) ((numbering : Numbering) → UseBroken (context_of numbering c.args.outer.now.context.now) (scope_of numbering c.args.state.now.graph (values_of c.args.outer.now.root.now)) sides.Export (body_of numbering c.args.state.now.graph c.args.body.now) (use_of u) (error_model e)))) c.deref.ensures c.use_statement.ensures.err in
    if_reports _ _
    (λ r. use_breaks c.args.outer.now.context.now c.args.state.now.graph (values_of c.args.outer.now.root.now) (owner_of c.args.owner.now) (lists_of c.args.body.now) c.args.item.now (use_of c.in-Use.used.value) r (ap interface_item_of c.in-Use.is))
    c.use_statement.result h

pub returns-in-Export-clause-ok : goal.returns-in-Export-clause-ok
returns-in-Export-clause-ok c =
    export_item c.args.outer.now.context.now c.args.state.now.graph c.interface_export.new.state.graph (values_of c.args.outer.now.root.now) (lists_of c.args.body.now) (lists_of c.interface_export.new.body) c.args.item.now (interface_export_of c.in-Export.export) c.interface_export.result (ap interface_item_of c.in-Export.is) c.requires.supplied c.interface_export.ensures.ok

pub returns-in-Export-clause-err : goal.returns-in-Export-clause-err
returns-in-Export-clause-err c =
    if_reports _ _
    (λ r. export_breaks c.args.outer.now.context.now c.args.state.now.graph (values_of c.args.outer.now.root.now) (owner_of c.args.owner.now) (lists_of c.args.body.now) c.args.item.now (interface_export_of c.in-Export.export) r (ap interface_item_of c.in-Export.is))
    c.interface_export.result c.interface_export.ensures.err

pub returns-in-Ty-clause-ok : goal.returns-in-Ty-clause-ok
returns-in-Ty-clause-ok c =
    declaration_item c.args.outer.now.context.now c.args.state.now.graph c.item.new.state.graph (values_of c.args.outer.now.root.now) (lists_of c.args.body.now) (lists_of c.item.new.body) c.args.item.now (item_type_decl_of c.in-Ty.decl) c.item.result (ap interface_item_of c.in-Ty.is) c.requires.supplied c.item.ensures.ok

pub returns-in-Ty-clause-err : goal.returns-in-Ty-clause-err
returns-in-Ty-clause-err c =
    if_reports _ _
    (λ r. declaration_breaks c.args.outer.now.context.now c.args.state.now.graph (values_of c.args.outer.now.root.now) (owner_of c.args.owner.now) (lists_of c.args.body.now) c.args.item.now (item_type_decl_of c.in-Ty.decl) r (ap interface_item_of c.in-Ty.is))
    c.item.result c.item.ensures.err
