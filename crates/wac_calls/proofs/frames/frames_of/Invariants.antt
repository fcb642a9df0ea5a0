use Rattle.std.proofs.Common.{◌≡◌, ◌++◌, length}
use Rattle.wac_calls.specs.Frames.{framed}
use Rattle.wac_calls.proofs.frames.frames_of.Given as goal

abbrev pub invariant-frame : goal.invariant-frame
invariant-frame l = framed l.found.items ++ l.rest ≡ l.fn.buffer

abbrev pub decreases-frame : goal.decreases-frame
decreases-frame l = length l.rest
