use Rattle.std.proofs.Common.{drop}
use Rattle.wac_completion.specs.Standing.{CanFollow}
use Rattle.wac_completion.proofs.Keeping.{KeepsOn}
use Rattle.wac_completion.proofs.kinds.kept.Given as goal

abbrev pub invariant-loop-kind : goal.invariant-loop-kind
invariant-loop-kind l = KeepsOn (CanFollow l.text) l.kinds (drop l.kind-index l.kinds) l.found.items
