use Rattle.std.proofs.Common.{◌≡◌, ◌++◌, All, drop}
use Rattle.wac_calls.specs.Frames.{framed}
use Rattle.wac_calls.specs.Packages.{IsPackage}
use Rattle.wac_calls.proofs.packages.tested.Given as goal

-- the frames so far, and those that are left, are all frames
abbrev pub invariant-loop-frame : goal.invariant-loop-frame
invariant-loop-frame l =
    (framed l.found.items ++ framed (drop l.frame-index l.frames) ≡ framed l.frames) × All (λ frame. IsPackage l.fn.limit frame) l.found.items
