use Rattle.wac_resolution_expressions.proofs.Common.{map, take, string_bytes, by_name}
use Rattle.wac_resolution_expressions.specs.Spreads.{NamesSpread}
use Rattle.wac_resolution_expressions.proofs.spread.spread_names.Given as goal

abbrev pub invariant-loop-name : goal.invariant-loop-name
invariant-loop-name l = NamesSpread l.fn.state.graph l.state.graph (by_name l.fn.given.entries) (by_name l.given.entries) l.node.0 (take l.name-index (map string_bytes l.names))
