use Rattle.std.proofs.Common.{◌≡◌, ◌++◌, take}
use Rattle.std.specs.List.{filter_map}
use Rattle.wac_names.specs.LookedUp.{said}
use Rattle.wac_names.proofs.standing.are_found.Given as goal

abbrev pub invariant-loop-mention : goal.invariant-loop-mention
invariant-loop-mention l = l.fn.all ≡ filter_map said (take l.mention-index l.mentions) ++ l.rest
