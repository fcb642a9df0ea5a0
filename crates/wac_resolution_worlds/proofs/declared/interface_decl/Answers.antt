use Rattle.wac_resolution_worlds.proofs.Common.{List, Some, map, subst, string_bytes, err_from_is_err_and, interface_item_of, interface_decl_of, declared_count, Numbering, error_model, InterfaceBroken, values_of, scope_of, context_of, reports}
use Rattle.wac_ast_worlds.specs.declared.interface.InterfaceItem.{InterfaceItem}
use Rattle.wac_resolution_worlds.specs.Made.{InterfaceMade}
use Rattle.wac_resolution_worlds.proofs.Declaring.{interface_declared}
use Rattle.wac_resolution_worlds.proofs.declared.interface_decl.Goals as goal

pub returns-in_err-declared-clause-err : goal.returns-in_err-declared-clause-err
returns-in_err-declared-clause-err c =
    let p = err_from_is_err_and c.from_residual-in_err-declared.result c.from_residual-in_err-declared.ensures.1 in
    let g = c.args.state.now.graph in
    rw (p.1, p.2) (reports c.in_err-declared.ensures.err (subst (λ (l : List InterfaceItem). (numbering : Numbering) → InterfaceBroken (context_of numbering c.args.outer.now.context.now) (scope_of numbering g (values_of c.args.outer.now.root.now)) (Some c.args.decl.now.id.string.now) (declared_count g) (map interface_item_of l) (error_model c.in_err-declared.field-0.0)) c.deref.ensures.value))

pub returns-clause-ok : goal.returns-clause-ok
returns-clause-ok c =
    let made = subst (λ (l : List InterfaceItem). InterfaceMade c.args.outer.now.context.now c.args.state.now.graph c.interface.new.state.graph (values_of c.args.outer.now.root.now) (Some (string_bytes c.in_ok-id.id)) (map interface_item_of l) c.in_ok-declared.declared) c.deref.ensures.value c.in_ok-declared.ensures.ok in
    interface_declared c.args.outer.now.context.now c.args.state.now.graph c.interface.new.state.graph (values_of c.args.outer.now.root.now) (interface_decl_of c.args.decl.now) (string_bytes c.in_ok-id.id) c.in_ok-declared.declared c.in_ok-id.ensures made
