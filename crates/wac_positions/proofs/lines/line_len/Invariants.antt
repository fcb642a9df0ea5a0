use Rattle.std.proofs.Common.{◌≡◌, ◌<◌, ℕ, false, get_or}
use Rattle.wac_positions.specs.Lines.{is_line_end}
use Rattle.wac_positions.proofs.lines.line_len.Given as goal

abbrev pub invariant-loop-at : goal.invariant-loop-at
invariant-loop-at l = (k : ℕ) → k < l.at → is_line_end (get_or l.text k 0) ≡ false
