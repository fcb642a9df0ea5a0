-- What a device has done after a step.
use Rattle.std.specs.Prelude.{ℕ, ◌+◌, List, [], ◌++◌}
use Rattle.wac_lexer.specs.declared.device.Step.{Step}
use Rattle.wac_lexer.specs.declared.device.Step.TheVariants.{Begins, Moves, Fails}

-- the bytes that a device has moved after a step
abbrev pub moved_by : Step → List ℕ
moved_by Begins = []
moved_by (Moves before part) = before.now.moved ++ part.now
moved_by (Fails before) = before.now.moved

-- its failures after a step
abbrev pub failures_by : Step → ℕ
failures_by Begins = 0
failures_by (Moves before part) = before.now.failures
failures_by (Fails before) = before.now.failures + 1
