use Rattle.wac_graph_types.proofs.Common.{slice_get, option_and_then}
use Rattle.wac_graph_types.specs.declared.entry.Interface.{Interface}
use Rattle.wac_graph_types.specs.declared.entry.World.{World}
use Rattle.wac_graph_types.specs.Readings.{as_interface, as_world}
use Rattle.wac_graph_types.proofs.Exports.{read_map, exports_same, exports_other}
use Rattle.wac_graph_types.proofs.package.same_exports.Goals as goal

pub returns-clause-same : goal.returns-clause-same
returns-clause-same c = exports_same c.args.entries.now c.args.world c.args.instance c.in-Some.first.now.entries c.in-Some-exports_of_world.second.now.entries c.same_externs.result
    (read_map (λ (i : Interface). i.exports) (λ m. m.entries) (option_and_then as_interface (slice_get c.args.entries.now c.args.instance.0)) c.in-Some.first.now c.in-Some.ensures.read)
    (read_map (λ (w : World). w.exports) (λ m. m.entries) (option_and_then as_world (slice_get c.args.entries.now c.args.world.0)) c.in-Some-exports_of_world.second.now c.in-Some-exports_of_world.ensures.read)
    c.same_externs.ensures

pub returns-clause-other : goal.returns-clause-other
returns-clause-other c = exports_other c.args.entries.now c.args.world c.args.instance c.in-Some.first.now.entries c.in-Some-exports_of_world.second.now.entries c.same_externs.result
    (read_map (λ (i : Interface). i.exports) (λ m. m.entries) (option_and_then as_interface (slice_get c.args.entries.now c.args.instance.0)) c.in-Some.first.now c.in-Some.ensures.read)
    (read_map (λ (w : World). w.exports) (λ m. m.entries) (option_and_then as_world (slice_get c.args.entries.now c.args.world.0)) c.in-Some-exports_of_world.second.now c.in-Some-exports_of_world.ensures.read)
    c.same_externs.ensures
