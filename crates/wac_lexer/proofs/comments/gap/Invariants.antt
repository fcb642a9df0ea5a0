use Rattle.wac_lexer.proofs.Common.{length, ◌-◌, ◌≡◌, ◌≤◌, ◌+◌, ℕ, drop}
use Rattle.wac_lexer.specs.Comments.{parts_len, gap}
use Rattle.wac_lexer.proofs.comments.gap.Given as goal

abbrev pub invariant-loop-i : goal.invariant-loop-i
invariant-loop-i l = record { within : l.i ≤ length l.bytes; left : (n : ℕ) × (length l.bytes ≤ l.i + n) × (l.i + parts_len n (drop l.i l.bytes) ≡ gap l.bytes) }

abbrev pub decreases-loop-i : goal.decreases-loop-i
decreases-loop-i l = length l.bytes - l.i
