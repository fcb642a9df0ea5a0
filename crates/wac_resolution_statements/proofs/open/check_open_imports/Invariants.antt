use Rattle.wac_resolution_statements.proofs.Common.{◌<◌, length, flat_map, AllByRecursion, numbers, rules_of}
use Rattle.wac_resolution_statements.specs.Imported.{of_kind, open_at}
use Rattle.wac_resolution_statements.specs.Testing.{testing, Allowed}
use Rattle.wac_resolution_statements.proofs.Firsts.{Through}
use Rattle.wac_resolution_statements.proofs.open.check_open_imports.Given as goal

abbrev pub invariant-loop-node : goal.invariant-loop-node
invariant-loop-node g l =
    record {
      can : (goal.iterator-loop-node g).can_next l.node-iterator;
      finite : (goal.iterator-loop-node g).is_finite l.node-iterator;
      there : AllByRecursion (λ i. i < length l.state.graph.nodes) l.node-iterator;
      through : Through (λ x. Allowed (testing l.state.graph (rules_of g.R.Rules l.rules) l.target) (of_kind l.state.graph x)) (flat_map (open_at l.state.graph) (numbers 0 (length l.state.graph.nodes))) (flat_map (open_at l.state.graph) l.node-iterator);
    }
