use Rattle.wac_graph_types.specs.Entry.{children}
use Rattle.wac_graph_types.specs.Meaning.{EachKind}
use Rattle.wac_graph_types.specs.Tests.{Passes}
use Rattle.wac_graph_types.proofs.Each.{RestPasses}
use Rattle.wac_graph_types.proofs.package.entries_pass.Given as goal

abbrev pub invariant-loop-number : goal.invariant-loop-number
invariant-loop-number l = RestPasses (λ n e. EachKind (Passes l.test l.entries n) (children e)) l.entries l.number
