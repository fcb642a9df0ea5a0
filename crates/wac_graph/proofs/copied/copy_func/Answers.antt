use Rattle.wac_graph.proofs.Common.{refl, result_children, value_children}
use Rattle.wac_graph.specs.Moved.{Fits}
use Rattle.wac_graph.proofs.Views.{each_left, each_right, func_copy}
use Rattle.wac_graph.proofs.copied.copy_func.Goals as goal

pub copy_values-requires : goal.copy_values-requires
copy_values-requires c = each_right (Fits c.args.n) (result_children c.args.from.now.results) (value_children c.args.from.now.params.entries) c.requires

pub copy_results-requires : goal.copy_results-requires
copy_results-requires c = each_left (Fits c.args.n) (result_children c.args.from.now.results) (value_children c.args.from.now.params.entries) c.requires

pub returns : goal.returns
returns c = func_copy c.args.n c.args.from.now _ refl c.in_ok-results.ensures c.in_ok-params.ensures
