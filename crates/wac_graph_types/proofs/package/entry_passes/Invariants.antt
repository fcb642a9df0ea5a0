use Rattle.wac_graph_types.proofs.Common.{IfSome}
use Rattle.wac_graph_types.specs.Entry.{children}
use Rattle.wac_graph_types.specs.Tests.{Passes}
use Rattle.wac_graph_types.proofs.Each.{RestPasses}
use Rattle.wac_graph_types.proofs.package.entry_passes.Given as goal

abbrev pub invariant-loop-at : goal.invariant-loop-at
invariant-loop-at l = RestPasses (λ _ c. IfSome c.1 (Passes l.test l.entries l.number)) (children l.entry) l.at
