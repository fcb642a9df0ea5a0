use Rattle.wac_resolution_worlds.proofs.Common.{refl, lists_of}
use Rattle.wac_resolution_worlds.proofs.InterfaceBodies.{interface_kinds}
use Rattle.wac_resolution_worlds.proofs.interfaces.finish_interface.Goals as goal

pub add_interface-requires : goal.add_interface-requires
add_interface-requires c = interface_kinds c.args.state.now.graph.types (lists_of c.args.body) c.args.body.uses.entries c.args.body.exports.entries refl refl c.requires
