use Rattle.wac_graph_types.specs.Names.{by_name}
use Rattle.wac_graph_types.specs.Tests.{Passes}
use Rattle.wac_graph_types.proofs.Each.{RestPasses}
use Rattle.wac_graph_types.proofs.package.definitions_pass.Given as goal

abbrev pub invariant-loop-at : goal.invariant-loop-at
invariant-loop-at l = RestPasses (λ _ d. Passes l.test l.entries 0 d.1) (by_name l.definitions.entries) l.at
