use Rattle.std.proofs.Common.{◌≡◌}
use Rattle.wac_names.proofs.declarations.each_flag.Given as goal

abbrev pub invariant-loop-flag : goal.invariant-loop-flag
invariant-loop-flag l = l.finder ≡ l.fn.finder
