use Rattle.wac_graph.proofs.Common.{subst, List, Entry}
use Rattle.wac_graph.specs.Copied.{IsGrownBy}
use Rattle.wac_graph.proofs.Copies.{grown_means}
use Rattle.wac_graph.proofs.copied.copy_types.Goals as goal

pub returns-clause-means : goal.returns-clause-means
returns-clause-means c = grown_means c.args.types.now c.args.from.now _ c.requires.table.0 (subst (λ (es : List Entry). IsGrownBy c.args.types.now es c.copy_entries.new.types) c.entries.ensures c.in_ok-copy_entries.ensures.grown)
