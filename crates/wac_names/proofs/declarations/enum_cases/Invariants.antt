use Rattle.std.proofs.Common.{◌≡◌}
use Rattle.wac_names.proofs.declarations.enum_cases.Given as goal

abbrev pub invariant-loop-case : goal.invariant-loop-case
invariant-loop-case l = l.finder ≡ l.fn.finder
