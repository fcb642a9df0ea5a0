use Rattle.wac_resolution_worlds.proofs.Common.{map, option_map, string_bytes, err_from_is_err_and, world_item_of, error_model, values_of, reports, items_expanded, lists_of}
use Rattle.wac_resolution_worlds.proofs.WorldBodies.{body_named, world_made, items_broken, includes_broken}
use Rattle.wac_resolution_worlds.proofs.worlds.world.Goals as goal

pub returns-in_err-world_items-clause-err : goal.returns-in_err-world_items-clause-err
returns-in_err-world_items-clause-err c =
    let p = err_from_is_err_and c.from_residual.result c.from_residual.ensures.1 in
    rw (p.1, p.2) (reports c.in_err-world_items.ensures.err (items_broken c.args.outer.now.context.now c.args.state.now.graph (values_of c.args.outer.now.root.now) (lists_of c.new-body.result) c.args.name.now (map world_item_of c.args.items.now) (error_model c.in_err-world_items.field-0.0)
    c.new-body.ensures))

pub includes-requires-clause-body : goal.includes-requires-clause-body
includes-requires-clause-body c = body_named c.world_items.new.state.graph.types (lists_of c.world_items.new.body) c.in_ok-world_items.ensures.ok.body

pub includes-requires-clause-root : goal.includes-requires-clause-root
includes-requires-clause-root c = items_expanded c.args.state.now.graph c.world_items.new.state.graph (values_of c.args.outer.now.root.now) c.in_ok-world_items.ensures.ok.grows c.requires.root

pub includes-requires-clause-supplied : goal.includes-requires-clause-supplied
includes-requires-clause-supplied c = c.in_ok-world_items.ensures.ok.supplied

pub returns-in_err-includes-clause-err : goal.returns-in_err-includes-clause-err
returns-in_err-includes-clause-err c =
    let p = err_from_is_err_and c.from_residual-in_err-includes.result c.from_residual-in_err-includes.ensures.1 in
    rw (p.1, p.2) (reports c.in_err-includes.ensures.err (includes_broken c.args.outer.now.context.now c.args.state.now.graph c.world_items.new.state.graph (values_of c.args.outer.now.root.now) (lists_of c.new-body.result) (lists_of c.world_items.new.body) c.args.name.now (map world_item_of c.args.items.now) (error_model c.in_err-includes.field-0.0)
    c.new-body.ensures c.requires.root c.in_ok-world_items.ensures.ok))

pub finish_world-requires : goal.finish_world-requires
finish_world-requires c = c.in_ok-includes.ensures.ok.named

pub returns-clause-ok : goal.returns-clause-ok
returns-clause-ok c =
    world_made c.args.outer.now.context.now c.args.state.now.graph c.world_items.new.state.graph c.includes.new.state.graph c.finish_world.new.state.graph (values_of c.args.outer.now.root.now) (lists_of c.new-body.result) (lists_of c.world_items.new.body) (lists_of c.includes.new.body) (option_map string_bytes c.args.id) (map world_item_of c.args.items.now) c.in_ok-finish_world.field-0
    c.new-body.ensures c.requires.root c.in_ok-world_items.ensures.ok c.in_ok-includes.ensures.ok c.in_ok-finish_world.ensures
