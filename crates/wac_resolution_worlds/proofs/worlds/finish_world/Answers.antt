use Rattle.wac_resolution_worlds.proofs.Common.{refl, lists_of}
use Rattle.wac_resolution_worlds.proofs.WorldBodies.{world_kinds}
use Rattle.wac_resolution_worlds.proofs.worlds.finish_world.Goals as goal

pub add_world-requires : goal.add_world-requires
add_world-requires c = world_kinds c.args.state.now.graph.types (lists_of c.args.body) c.args.body.uses.entries c.args.body.imports.entries c.args.body.exports.entries refl refl refl c.requires
