use Rattle.std.proofs.Common.{◌≤◌, ◌+◌, length}
use Rattle.wac_all_errors.proofs.collecting.faults_of.Given as goal

abbrev pub invariant-loop-count : goal.invariant-loop-count
invariant-loop-count l = length l.found.items ≤ length l.fn.found.items + l._count
