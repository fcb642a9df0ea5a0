use Rattle.std.proofs.Common.{take}
use Rattle.std.specs.Prelude.{All, IfSome}
use Rattle.wac_names.specs.LookedUp.{StandsAt}
use Rattle.wac_names.proofs.standing.are_standing.Given as goal

abbrev pub invariant-loop-mention : goal.invariant-loop-mention
invariant-loop-mention l = All (λ m. IfSome m.bound (StandsAt l.names m.binding)) (take l.mention-index l.mention-items)
