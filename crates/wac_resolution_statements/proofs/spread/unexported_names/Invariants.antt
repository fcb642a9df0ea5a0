use Rattle.wac_resolution_statements.proofs.Common.{map, string_bytes, by_name}
use Rattle.wac_resolution_statements.proofs.Spreading.{Gathering}
use Rattle.wac_resolution_statements.proofs.spread.unexported_names.Given as goal

abbrev pub invariant-loop-name : goal.invariant-loop-name
invariant-loop-name l = Gathering l.graph.exports (by_name l.all.entries) (by_name l.name-iterator) (map string_bytes l.names.items)
