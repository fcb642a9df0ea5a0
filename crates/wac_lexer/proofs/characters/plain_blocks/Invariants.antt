use Rattle.wac_lexer.proofs.Common.{◌≡◌, ◌≤◌, ◌-◌, true, take, length, list_all}
use Rattle.wac_lexer.specs.Characters.{is_plain}
use Rattle.wac_lexer.proofs.characters.plain_blocks.Given as goal

abbrev pub invariant-loop-i : goal.invariant-loop-i
invariant-loop-i l = record { within : l.i ≤ length l.bytes; plain : list_all is_plain (take l.i l.bytes) ≡ true }

abbrev pub decreases-loop-i : goal.decreases-loop-i
decreases-loop-i l = length l.bytes - l.i
