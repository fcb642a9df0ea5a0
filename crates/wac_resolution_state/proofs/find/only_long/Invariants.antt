use Rattle.wac_resolution_state.proofs.Common.{option_map, names_of}
use Rattle.wac_graph_types.specs.Names.{by_name}
use Rattle.wac_resolution_state.proofs.Found.{Finding}
use Rattle.wac_resolution_state.proofs.find.only_long.Given as goal

abbrev pub invariant-loop-text : goal.invariant-loop-text
invariant-loop-text l = Finding l.name (names_of (by_name l.all.entries)) (names_of (by_name l.text-iterator)) (option_map (λ s. s.now) l.found)
