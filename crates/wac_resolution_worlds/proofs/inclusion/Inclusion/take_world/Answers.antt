use Rattle.wac_resolution_worlds.proofs.Common.{err_from_is_err_and, by_name, error_model, reports}
use Rattle.wac_resolution_worlds.specs.Taking.{tree_of, clause_of}
use Rattle.wac_resolution_worlds.proofs.IncludedWorlds.{world_taken, imports_break, exports_break, left_breaks}
use Rattle.wac_resolution_worlds.proofs.inclusion.Inclusion.take_world.Goals as goal

pub returns-in_err-take_imports-clause-err : goal.returns-in_err-take_imports-clause-err
returns-in_err-take_imports-clause-err c =
    let p = err_from_is_err_and c.from_residual.result c.from_residual.ensures.1 in
    rw (p.1, p.2) (reports c.in_err-take_imports.ensures.err (imports_break c.args.self.now.graph.now (clause_of c.args.self.now) c.args.world c.types-types.ensures.means c.requires.world (tree_of c.args.self.now) c.args.self.now.world.now (by_name c.args.entries.entries) (by_name c.args.imports.now.entries) (by_name c.args.exports.now.entries)
    (error_model c.in_err-take_imports.field-0.0)))

pub returns-in_err-take_exports-clause-err : goal.returns-in_err-take_exports-clause-err
returns-in_err-take_exports-clause-err c =
    let p = err_from_is_err_and c.from_residual-in_err-take_exports.result c.from_residual-in_err-take_exports.ensures.1 in
    rw (p.1, p.2) (reports c.in_err-take_exports.ensures.err (exports_break c.args.self.now.graph.now (clause_of c.args.self.now) c.args.world c.types-types.ensures.means c.requires.world (tree_of c.args.self.now) c.args.self.now.world.now (by_name c.args.entries.entries) (by_name c.take_imports.new.entries.entries) (by_name c.args.imports.now.entries) (by_name c.args.exports.now.entries) (by_name c.take_imports.new.imports.entries)
    (error_model c.in_err-take_exports.field-0.0) c.in_ok-take_imports.ensures.ok))

pub returns-in_err-check_left-clause-err : goal.returns-in_err-check_left-clause-err
returns-in_err-check_left-clause-err c =
    let p = err_from_is_err_and c.from_residual-in_err-check_left.result c.from_residual-in_err-check_left.ensures.1 in
    rw (p.1, p.2) (reports c.in_err-check_left.ensures.err (left_breaks c.args.self.now.graph.now (clause_of c.args.self.now) c.args.world c.types-types.ensures.means c.requires.world (tree_of c.args.self.now) c.args.self.now.world.now (by_name c.args.entries.entries) (by_name c.take_imports.new.entries.entries) (by_name c.take_exports.new.entries.entries) (by_name c.args.imports.now.entries) (by_name c.args.exports.now.entries) (by_name c.take_imports.new.imports.entries) (by_name c.take_exports.new.exports.entries)
    (error_model c.in_err-check_left.field-0.0) c.in_ok-take_imports.ensures.ok c.in_ok-take_exports.ensures.ok))

pub returns-clause-ok : goal.returns-clause-ok
returns-clause-ok c =
    world_taken c.args.self.now.graph.now (clause_of c.args.self.now) c.args.world c.types-types.ensures.means c.requires.world (by_name c.args.entries.entries) (by_name c.take_imports.new.entries.entries) (by_name c.take_exports.new.entries.entries) (by_name c.args.imports.now.entries) (by_name c.args.exports.now.entries) (by_name c.take_imports.new.imports.entries) (by_name c.take_exports.new.exports.entries)
    c.types-types.ensures.entries c.in_ok-take_imports.ensures.ok c.in_ok-take_exports.ensures.ok c.in_ok-check_left.ensures.ok
