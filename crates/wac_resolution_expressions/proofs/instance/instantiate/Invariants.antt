use Rattle.wac_resolution_expressions.proofs.Common.{by_name}
use Rattle.wac_resolution_expressions.proofs.Making.{Making}
use Rattle.wac_resolution_expressions.proofs.instance.instantiate.Given as goal

abbrev pub invariant-loop-name : goal.invariant-loop-name
invariant-loop-name l = Making l.fn.state.graph l.state.graph l.fn.«package».0 l.node.0 (by_name l.given.entries) (by_name l.name-iterator)
