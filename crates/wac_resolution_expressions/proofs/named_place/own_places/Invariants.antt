use Rattle.wac_resolution_expressions.proofs.Common.{◌≡◌, None, map, take, arguments_from, look_up, argument_of, Numbering, own_places, composed}
use Rattle.wac_resolution_expressions.specs.Spreads.{imports_at}
use Rattle.wac_resolution_expressions.proofs.named_place.own_places.Given as goal

abbrev pub invariant-loop-argument : goal.invariant-loop-argument
invariant-loop-argument l = (numbering : Numbering) → look_up l.name (own_places (composed numbering l.state.graph l.root) (imports_at numbering l.state.graph l.world) (arguments_from (take l.argument-index (map argument_of l.arguments)))) ≡ None
