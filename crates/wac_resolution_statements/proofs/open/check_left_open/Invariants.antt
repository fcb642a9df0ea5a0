use Rattle.wac_resolution_statements.proofs.Common.{by_name, ItemsNamed, arguments_of, rules_of}
use Rattle.wac_resolution_statements.specs.Imported.{of_kind, left_open}
use Rattle.wac_resolution_statements.specs.Testing.{testing, Allowed}
use Rattle.wac_resolution_statements.proofs.Firsts.{Through}
use Rattle.wac_resolution_statements.proofs.open.check_left_open.Given as goal

abbrev pub invariant-loop-name : goal.invariant-loop-name
invariant-loop-name g l =
    record {
      named : ItemsNamed l.state.graph.types (by_name l.name-iterator);
      through : Through (λ x. Allowed (testing l.state.graph (rules_of g.R.Rules l.rules) l.target) (of_kind l.state.graph x)) (left_open (arguments_of l.state.graph l.node.0) (by_name l.imports.entries)) (left_open (arguments_of l.state.graph l.node.0) (by_name l.name-iterator));
    }
