use Rattle.wac_resolution_worlds.proofs.Common.{inl, err_from_is_err_and, by_name, error_model, reports}
use Rattle.wac_resolution_worlds.specs.Entries.{entries_of}
use Rattle.wac_resolution_worlds.specs.Taking.{tree_of}
use Rattle.wac_resolution_worlds.proofs.IncludedWorlds.{is_included, world_breaks}
use Rattle.wac_resolution_worlds.proofs.inclusion.Inclusion.take.Goals as goal

pub returns-in_err-world-clause-err : goal.returns-in_err-world-clause-err
returns-in_err-world-clause-err c =
    let p = err_from_is_err_and c.from_residual.result c.from_residual.ensures.1 in
    rw (p.1, p.2) (reports c.in_err-world.ensures.err (λ err numbering b. inl (err numbering c.args.self.now.graph.now)))

pub returns-in_err-take_world-clause-err : goal.returns-in_err-take_world-clause-err
returns-in_err-take_world-clause-err c =
    let p = err_from_is_err_and c.from_residual-in_err-take_world.result c.from_residual-in_err-take_world.ensures.1 in
    rw (p.1, p.2) (reports c.in_err-take_world.ensures.err (world_breaks c.args.self.now.graph.now (tree_of c.args.self.now) c.args.self.now.world.now (entries_of (by_name c.args.entries.entries)) c.args.kind c.in_ok-world.world (by_name c.args.imports.now.entries) (by_name c.args.exports.now.entries) (error_model c.in_err-take_world.field-0.0)
    c.in_ok-world.ensures.ok))

pub returns-clause-ok : goal.returns-clause-ok
returns-clause-ok c =
    is_included c.args.self.now.graph.now (entries_of (by_name c.args.entries.entries)) c.args.kind c.in_ok-world.world (by_name c.args.imports.now.entries) (by_name c.args.exports.now.entries) (by_name c.take_world.new.imports.entries) (by_name c.take_world.new.exports.entries)
    c.in_ok-world.ensures.ok c.in_ok-take_world.ensures.ok
