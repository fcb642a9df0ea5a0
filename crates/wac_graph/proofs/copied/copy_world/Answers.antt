use Rattle.wac_graph.proofs.Common.{◌++◌, use_children, import_children, export_children}
use Rattle.wac_graph.specs.Moved.{Fits}
use Rattle.wac_graph.proofs.Views.{each_left, each_right, imports_fit, exports_fit, world_copy}
use Rattle.wac_graph.proofs.copied.copy_world.Goals as goal

pub copy_uses-requires : goal.copy_uses-requires
copy_uses-requires c = each_left (Fits c.args.n) (use_children c.args.from.now.uses.entries) (import_children c.args.from.now.imports.entries) (each_left (Fits c.args.n) (use_children c.args.from.now.uses.entries ++ import_children c.args.from.now.imports.entries) (export_children c.args.from.now.exports.entries) c.requires)

pub copy_items-requires : goal.copy_items-requires
copy_items-requires c = imports_fit c.args.n c.args.from.now.imports.entries (each_right (Fits c.args.n) (use_children c.args.from.now.uses.entries) (import_children c.args.from.now.imports.entries) (each_left (Fits c.args.n) (use_children c.args.from.now.uses.entries ++ import_children c.args.from.now.imports.entries) (export_children c.args.from.now.exports.entries) c.requires))

pub copy_items-requires-2 : goal.copy_items-requires-2
copy_items-requires-2 c = exports_fit c.args.n c.args.from.now.exports.entries (each_right (Fits c.args.n) (use_children c.args.from.now.uses.entries ++ import_children c.args.from.now.imports.entries) (export_children c.args.from.now.exports.entries) c.requires)

pub returns : goal.returns
returns c = world_copy c.args.n c.args.from.now _ c.in_ok-id.ensures c.in_ok-uses.ensures c.in_ok-imports.ensures c.in_ok-exports.ensures
