use Rattle.wac_graph.proofs.Common.{use_children, export_children}
use Rattle.wac_graph.specs.Moved.{Fits}
use Rattle.wac_graph.proofs.Views.{each_left, each_right, exports_fit, interface_copy}
use Rattle.wac_graph.proofs.copied.copy_interface.Goals as goal

pub copy_uses-requires : goal.copy_uses-requires
copy_uses-requires c = each_left (Fits c.args.n) (use_children c.args.from.now.uses.entries) (export_children c.args.from.now.exports.entries) c.requires

pub copy_items-requires : goal.copy_items-requires
copy_items-requires c = exports_fit c.args.n c.args.from.now.exports.entries (each_right (Fits c.args.n) (use_children c.args.from.now.uses.entries) (export_children c.args.from.now.exports.entries) c.requires)

pub returns : goal.returns
returns c = interface_copy c.args.n c.args.from.now _ c.in_ok-id.ensures c.in_ok-uses.ensures c.in_ok-exports.ensures
