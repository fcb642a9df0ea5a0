use Rattle.wac_resolution_statements.proofs.Common.{by_name, ItemsNamed, rules_of}
use Rattle.wac_resolution_statements.specs.Imported.{of_kind}
use Rattle.wac_resolution_statements.specs.Testing.{testing, Met}
use Rattle.wac_resolution_statements.proofs.Firsts.{Through}
use Rattle.wac_resolution_statements.proofs.target_exports.check_each.Given as goal

abbrev pub invariant-loop-name : goal.invariant-loop-name
invariant-loop-name g l =
    record {
      named : ItemsNamed l.state.graph.types (by_name l.name-iterator);
      through : Through (λ x. Met (testing l.state.graph (rules_of g.R.Rules l.rules) l.target) (of_kind l.state.graph x)) (by_name l.exports.entries) (by_name l.name-iterator);
    }
