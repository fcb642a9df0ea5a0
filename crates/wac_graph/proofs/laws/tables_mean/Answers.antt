use Rattle.wac_graph.proofs.Common.{interface_exports_mean, world_exports_mean, world_imports_mean}
use Rattle.wac_graph.specs.Means.{entry_means, origin_at}
use Rattle.wac_graph.proofs.laws.tables_mean.Goals as goal

pub returns-clause-interfaces : goal.returns-clause-interfaces
returns-clause-interfaces c g numbering id mean named = interface_exports_mean (λ i. numbering (origin_at g i)) g.types (entry_means numbering g) (mean numbering) id.0 named.1

pub returns-clause-worlds : goal.returns-clause-worlds
returns-clause-worlds c g numbering id mean named = world_exports_mean (λ i. numbering (origin_at g i)) g.types (entry_means numbering g) (mean numbering) id.0 named.1

pub returns-clause-imports : goal.returns-clause-imports
returns-clause-imports c g numbering id mean named = world_imports_mean (λ i. numbering (origin_at g i)) g.types (entry_means numbering g) (mean numbering) id.0 named.1
