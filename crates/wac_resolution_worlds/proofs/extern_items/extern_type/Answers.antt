use Rattle.wac_resolution_worlds.proofs.Common.{List, None, ap, map, subst, err_from_is_err_and, ExternType, ident_of, func_type_of, interface_item_of, inline_interface_of, extern_type_of, declared_count, Numbering, error_model, InterfaceBroken, values_of, scope_of, context_of, reports}
use Rattle.wac_ast_worlds.specs.declared.interface.InterfaceItem.{InterfaceItem}
use Rattle.wac_resolution_worlds.specs.Made.{InterfaceMade}
use Rattle.wac_resolution_worlds.proofs.WorldItems.{named_made, func_made, inline_made, extern_breaks}
use Rattle.wac_resolution_worlds.proofs.extern_items.extern_type.Goals as goal

pub returns-in_err-named_extern-in-Ident-clause-err : goal.returns-in_err-named_extern-in-Ident-clause-err
returns-in_err-named_extern-in-Ident-clause-err c =
    let p = err_from_is_err_and c.from_residual.result c.from_residual.ensures.1 in
    rw (p.1, p.2) (reports c.in_err-named_extern-in-Ident.ensures.err (λ err. extern_breaks c.args.outer.now.context.now c.args.state.now.graph (values_of c.args.outer.now.root.now) (values_of c.args.names.now) c.args.ty.now (ExternType.ident (ident_of c.in-Ident.id)) (error_model c.in_err-named_extern-in-Ident.field-0.0) (ap extern_type_of c.in-Ident.is)
    (λ numbering. err numbering c.args.state.now.graph (context_of numbering c.args.outer.now.context.now) (declared_count c.args.state.now.graph))))

pub returns-in_ok-named_extern-in-Ident-clause-ok : goal.returns-in_ok-named_extern-in-Ident-clause-ok
returns-in_ok-named_extern-in-Ident-clause-ok c =
    named_made c.args.outer.now.context.now c.args.state.now.graph (values_of c.args.outer.now.root.now) (values_of c.args.names.now) c.args.ty.now (ident_of c.in-Ident.id) c.in_ok-named_extern-in-Ident.field-0 (ap extern_type_of c.in-Ident.is)
    c.requires.supplied c.requires.names c.requires.root c.in_ok-named_extern-in-Ident.ensures.ok

pub returns-in_err-new_func-in-Func-clause-err : goal.returns-in_err-new_func-in-Func-clause-err
returns-in_err-new_func-in-Func-clause-err c =
    let p = err_from_is_err_and c.from_residual-in_err-new_func-in-Func.result c.from_residual-in_err-new_func-in-Func.ensures.1 in
    rw (p.1, p.2) (reports c.in_err-new_func-in-Func.ensures.err (extern_breaks c.args.outer.now.context.now c.args.state.now.graph (values_of c.args.outer.now.root.now) (values_of c.args.names.now) c.args.ty.now (ExternType.func (func_type_of c.in-Func.func)) (error_model c.in_err-new_func-in-Func.field-0.0) (ap extern_type_of c.in-Func.is)
    ))

pub returns-in_ok-new_func-in-Func-clause-ok : goal.returns-in_ok-new_func-in-Func-clause-ok
returns-in_ok-new_func-in-Func-clause-ok c =
    func_made c.args.outer.now.context.now c.args.state.now.graph c.new_func.new.state.graph (values_of c.args.outer.now.root.now) (values_of c.args.names.now) c.args.ty.now (func_type_of c.in-Func.func) c.in_ok-new_func-in-Func.field-0 (ap extern_type_of c.in-Func.is)
    c.requires.supplied c.in_ok-new_func-in-Func.ensures.ok

pub returns-in_err-interface-in-Interface-clause-err : goal.returns-in_err-interface-in-Interface-clause-err
returns-in_err-interface-in-Interface-clause-err c =
    let p = err_from_is_err_and c.from_residual-in_err-interface-in-Interface.result c.from_residual-in_err-interface-in-Interface.ensures.1 in
    let g = c.args.state.now.graph in
    rw (p.1, p.2) (reports c.in_err-interface-in-Interface.ensures.err (λ err.
    let h = subst (λ (l : List InterfaceItem). (numbering : Numbering) → InterfaceBroken (context_of numbering c.args.outer.now.context.now) (scope_of numbering g (values_of c.args.outer.now.root.now)) None (declared_count g) (map interface_item_of l) (error_model c.in_err-interface-in-Interface.field-0.0)) c.deref.ensures.value err in
    extern_breaks c.args.outer.now.context.now g (values_of c.args.outer.now.root.now) (values_of c.args.names.now) c.args.ty.now (ExternType.interface (inline_interface_of c.in-Interface.inline)) (error_model c.in_err-interface-in-Interface.field-0.0) (ap extern_type_of c.in-Interface.is) h))

pub returns-in_ok-interface-in-Interface-clause-ok : goal.returns-in_ok-interface-in-Interface-clause-ok
returns-in_ok-interface-in-Interface-clause-ok c =
    let made = subst (λ (l : List InterfaceItem). InterfaceMade c.args.outer.now.context.now c.args.state.now.graph c.interface.new.state.graph (values_of c.args.outer.now.root.now) None (map interface_item_of l) c.in_ok-interface-in-Interface.field-0) c.deref.ensures.value c.in_ok-interface-in-Interface.ensures.ok in
    inline_made c.args.outer.now.context.now c.args.state.now.graph c.interface.new.state.graph (values_of c.args.outer.now.root.now) (values_of c.args.names.now) c.args.ty.now (inline_interface_of c.in-Interface.inline) c.in_ok-interface-in-Interface.field-0 (ap extern_type_of c.in-Interface.is) made
