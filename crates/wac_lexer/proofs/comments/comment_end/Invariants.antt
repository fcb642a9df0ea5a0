use Rattle.wac_lexer.proofs.Common.{length, ◌-◌, ◌≡◌, ◌≤◌, ◌<◌, ◌+◌, drop}
use Rattle.wac_lexer.specs.Comments.{after}
use Rattle.wac_lexer.proofs.comments.comment_end.Given as goal

abbrev pub invariant-loop-i : goal.invariant-loop-i
invariant-loop-i l = record { within : l.i ≤ length l.bytes; deep : 0 < l.depth; few : l.depth ≤ l.i + 1; left : after l.depth (drop l.i l.bytes) ≡ after 1 l.bytes }

abbrev pub decreases-loop-i : goal.decreases-loop-i
decreases-loop-i l = length l.bytes - l.i
