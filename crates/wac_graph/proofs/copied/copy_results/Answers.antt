use Rattle.wac_graph.proofs.Views.{results_fit, results_moved}
use Rattle.wac_graph.proofs.copied.copy_results.Goals as goal

pub copy_values-requires : goal.copy_values-requires
copy_values-requires c =
    let h = rw c.in-Named.is at c.requires in
    results_fit c.args.n c.in-Named.results.entries h

pub returns-in_ok-copy_values-in-Named : goal.returns-in_ok-copy_values-in-Named
returns-in_ok-copy_values-in-Named c = rw c.in-Named.is (results_moved c.args.n c.in-Named.results.entries _ c.in_ok-copy_values-in-Named.ensures)
