use Rattle.std.proofs.Common.{◌≡◌}
use Rattle.wac_names.proofs.paths.segments.Given as goal

abbrev pub invariant-loop-string : goal.invariant-loop-string
invariant-loop-string l = l.finder ≡ l.fn.finder
