use Rattle.std.proofs.Common.{◌≡◌, ◌++◌, drop}
use Rattle.wac_positions.specs.Lines.{line_starts, starts_after}
use Rattle.wac_positions.proofs.lines.line_starts.Given as goal

abbrev pub invariant-loop-at : goal.invariant-loop-at
invariant-loop-at l = l.starts.items ++ starts_after l.at (drop l.at l.text) ≡ line_starts l.text
