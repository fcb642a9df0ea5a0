use Rattle.wac_resolution_statements.proofs.Common.{length, NamesNodes, rules_of}
use Rattle.wac_resolution_statements.specs.Imported.{of_node}
use Rattle.wac_resolution_statements.specs.Testing.{testing, Allowed}
use Rattle.wac_resolution_statements.proofs.Firsts.{Through}
use Rattle.wac_resolution_statements.proofs.target_imports.check_imports.Given as goal

abbrev pub invariant-loop-name : goal.invariant-loop-name
invariant-loop-name g l =
    record {
      can : (goal.iterator-loop-name g).can_next l.name-iterator;
      finite : (goal.iterator-loop-name g).is_finite l.name-iterator;
      there : NamesNodes (length l.state.graph.nodes) l.name-iterator;
      through : Through (λ x. Allowed (testing l.state.graph (rules_of g.R.Rules l.rules) l.target) (of_node l.state.graph x)) l.state.graph.imports l.name-iterator;
    }
