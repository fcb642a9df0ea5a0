use Rattle.wac_resolution.proofs.Common.{List, None, ImportType, map, refl, subst, interface_item_of, inline_interface_of, declared_count, Numbering, error_model, InterfaceBroken, values_of, scope_of, reports, items_named, context_of, InterfaceMade}
use Rattle.wac_ast_worlds.specs.declared.interface.InterfaceItem.{InterfaceItem}
use Rattle.wac_resolution.proofs.ImportTypes.{inline_imported, inline_breaks}
use Rattle.wac_resolution.proofs.import_kind.inline_kind.Goals as goal

pub interface-requires-clause-root : goal.interface-requires-clause-root
interface-requires-clause-root c = items_named c.args.state.now.graph c.args.root.now c.requires.agrees

pub returns-in-Ok-clause-ok : goal.returns-in-Ok-clause-ok
returns-in-Ok-clause-ok c =
    let made = subst (λ (l : List InterfaceItem). InterfaceMade c.args.context.now c.args.state.now.graph c.interface.new.state.graph (values_of c.args.root.now.kinds) None (map interface_item_of l) c.in-Ok.id) c.deref.ensures.value c.in-Ok.ensures.ok in
    let i = inline_interface_of c.args.inline.now in
    inline_imported c.args.context.now c.args.state.now.graph c.args.root.now c.requires.agrees c.interface.new.state.graph (ImportType.interface i) i c.in-Ok.id refl made

pub returns-in-Err-clause-err : goal.returns-in-Err-clause-err
returns-in-Err-clause-err c =
    let g = c.args.state.now.graph in
    let i = inline_interface_of c.args.inline.now in
    reports c.in-Err.ensures.err (λ err.
    let h = subst (λ (l : List InterfaceItem). (numbering : Numbering) → InterfaceBroken (context_of numbering c.args.context.now) (scope_of numbering g (values_of c.args.root.now.kinds)) None (declared_count g) (map interface_item_of l) (error_model c.in-Err.error)) c.deref.ensures.value err in
    inline_breaks c.args.context.now g c.args.root.now c.requires.agrees (ImportType.interface i) i (error_model c.in-Err.error) refl h)
