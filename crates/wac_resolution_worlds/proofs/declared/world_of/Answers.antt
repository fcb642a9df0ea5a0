use Rattle.wac_resolution_worlds.proofs.Common.{map, string_bytes, err_from_is_err_and, world_item_of, values_of}
use Rattle.wac_resolution_worlds.proofs.Declaring.{world_declared}
use Rattle.wac_resolution_worlds.proofs.declared.world_of.Goals as goal

pub returns-in_err-declared-clause-err : goal.returns-in_err-declared-clause-err
returns-in_err-declared-clause-err c =
    let p = err_from_is_err_and c.from_residual-in_err-declared.result c.from_residual-in_err-declared.ensures.1 in
    rw (p.1, p.2) c.in_err-declared.ensures.err

pub returns-clause-ok : goal.returns-clause-ok
returns-clause-ok c =
    world_declared c.args.outer.now.context.now c.args.state.now.graph c.world.new.state.graph (values_of c.args.outer.now.root.now) c.args.name.now (map world_item_of c.args.items.now) (string_bytes c.in_ok-id.id) c.in_ok-declared.declared
    c.in_ok-id.ensures c.in_ok-declared.ensures.ok
