use Rattle.std.proofs.Common.{◌≡◌}
use Rattle.wac_names.proofs.expressions.accesses.Given as goal

abbrev pub invariant-loop-access : goal.invariant-loop-access
invariant-loop-access l = l.finder ≡ l.fn.finder
