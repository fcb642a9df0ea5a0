use Rattle.std.proofs.Common.{◌-◌}
use Rattle.std.specs.Prelude.{map}
use Rattle.wac_recovery.specs.Attempts.{attempt_of, whole}
use Rattle.wac_recovery.specs.Faults.{wrong_of}
use Rattle.wac_recovery.proofs.Rounds.{Continues}
use Rattle.wac_recovery.proofs.recovery.find_faults.Given as goal

abbrev pub invariant-loop-count : goal.invariant-loop-count
invariant-loop-count l = Continues l.limit (whole l.source) (map wrong_of l.faults.items) (l.limit - l._count) (attempt_of l.attempt)
