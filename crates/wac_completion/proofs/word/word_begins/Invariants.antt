use Rattle.wac_completion.proofs.Beginning.{BeginsBefore}
use Rattle.wac_completion.proofs.word.word_begins.Given as goal

abbrev pub invariant-loop-i : goal.invariant-loop-i
invariant-loop-i l = BeginsBefore l.bytes l.i l.start
