use Rattle.wac_graph.proofs.Common.{subst, EachEntryNamed, each_entry_named}
use Rattle.wac_graph.specs.Graph.{Parts}
use Rattle.wac_graph.specs.Means.{EntriesMean, OriginsApart}
use Rattle.wac_graph.proofs.Apart.{origins_apart}
use Rattle.wac_graph.proofs.Origins.{entries_mean}
use Rattle.wac_graph.proofs.graph.CompositionGraph.types.Goals as goal

pub returns-clause-entries : goal.returns-clause-entries
returns-clause-entries c = subst (λ (g : Parts). EachEntryNamed g.types) c.self.view_is (each_entry_named c.self.inside.types c.self.invariant.table)

pub returns-clause-means : goal.returns-clause-means
returns-clause-means c = subst EntriesMean c.self.view_is (entries_mean _ c.self.invariant)

pub returns-clause-apart : goal.returns-clause-apart
returns-clause-apart c = subst OriginsApart c.self.view_is (origins_apart _ c.self.invariant)
