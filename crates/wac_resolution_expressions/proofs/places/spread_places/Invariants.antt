use Rattle.wac_resolution_expressions.proofs.Common.{◌≡◌, None, map, take, look_up, argument_of, Numbering, composed}
use Rattle.wac_resolution_expressions.proofs.SpreadPlaces.{places}
use Rattle.wac_resolution_expressions.proofs.places.spread_places.Given as goal

abbrev pub invariant-loop-argument : goal.invariant-loop-argument
invariant-loop-argument l = (numbering : Numbering) → look_up l.name (places (composed numbering l.state.graph l.root) l.name (take l.argument-index (map argument_of l.arguments))) ≡ None
