use Rattle.std.proofs.Common.{◌≡◌, map, take}
use Rattle.wac_names.specs.LookedUp.{name_found}
use Rattle.wac_names.proofs.standing.names_found.Given as goal

abbrev pub invariant-loop-found : goal.invariant-loop-found
invariant-loop-found l = l.names.items ≡ map name_found (take l.found-index l.all)
