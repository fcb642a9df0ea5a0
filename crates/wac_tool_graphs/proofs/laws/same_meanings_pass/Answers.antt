use Rattle.wac_graph_types.specs.Equality.{meaning_discrete, equal_or-equal, equal_or-unequal}
use Rattle.wac_tool_graphs.proofs.laws.same_meanings_pass.Goals as goal

pub returns-clause-equal : goal.returns-clause-equal
returns-clause-equal c = λ a b e. equal_or-equal (record { 0 = 1 }) (meaning_discrete a b) e

pub returns-clause-other : goal.returns-clause-other
returns-clause-other c = λ a b n. equal_or-unequal (record { 0 = 1 }) (meaning_discrete a b) n
