use Rattle.wac_resolution_expressions.proofs.Common.{◌≡◌, ◌++◌, map, string_bytes, by_name, names_of}
use Rattle.wac_resolution_expressions.proofs.spread.copied_names.Given as goal

abbrev pub invariant-loop-name : goal.invariant-loop-name
invariant-loop-name l = map string_bytes l.names.items ++ names_of (by_name l.name-iterator) ≡ names_of (by_name l.all.entries)
