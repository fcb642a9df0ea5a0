use Rattle.wac_resolution_statements.proofs.Last.{world_last}
use Rattle.wac_resolution_statements.proofs.used.used_under.Goals as goal

pub returns : goal.returns
returns c = world_last c.args.types.now c.args.world.0 c.args.id.now c.in_ok-world.world.now c.last_used-used.result c.last_used_by_imports.result c.in_ok-world.ensures c.last_used-used.ensures c.last_used_by_imports.ensures
