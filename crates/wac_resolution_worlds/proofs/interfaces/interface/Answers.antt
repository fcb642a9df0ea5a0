use Rattle.wac_resolution_worlds.proofs.Common.{map, option_map, string_bytes, err_from_is_err_and, interface_item_of, error_model, values_of, lists_of, reports}
use Rattle.wac_resolution_worlds.proofs.InterfaceBodies.{interface_made, items_broken}
use Rattle.wac_resolution_worlds.proofs.interfaces.interface.Goals as goal

pub returns-in_err-interface_items-clause-err : goal.returns-in_err-interface_items-clause-err
returns-in_err-interface_items-clause-err c =
    let p = err_from_is_err_and c.from_residual.result c.from_residual.ensures.1 in
    rw (p.1, p.2) (reports c.in_err-interface_items.ensures.err (items_broken c.args.outer.now.context.now c.args.state.now.graph (values_of c.args.outer.now.root.now) (lists_of c.new-body.result) (option_map (λ n. n.now) c.args.name) (map interface_item_of c.args.items.now) (error_model c.in_err-interface_items.field-0.0)
    c.new-body.ensures))

pub finish_interface-requires : goal.finish_interface-requires
finish_interface-requires c = c.in_ok-interface_items.ensures.ok.body

pub returns-clause-ok : goal.returns-clause-ok
returns-clause-ok c =
    interface_made c.args.outer.now.context.now c.args.state.now.graph c.interface_items.new.state.graph c.finish_interface.new.state.graph (values_of c.args.outer.now.root.now) (lists_of c.new-body.result) (lists_of c.interface_items.new.body) (option_map string_bytes c.args.id) (map interface_item_of c.args.items.now) c.in_ok-finish_interface.field-0
    c.new-body.ensures c.in_ok-interface_items.ensures.ok c.in_ok-finish_interface.ensures
