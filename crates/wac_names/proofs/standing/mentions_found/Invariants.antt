use Rattle.std.proofs.Common.{◌≡◌, take}
use Rattle.wac_names.specs.LookedUp.{mentions_found}
use Rattle.wac_names.proofs.standing.mentions_found.Given as goal

abbrev pub invariant-loop-found : goal.invariant-loop-found
invariant-loop-found l = l.mentions.items ≡ mentions_found 0 (take l.found-index l.all)
