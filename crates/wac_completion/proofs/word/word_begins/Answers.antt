use Rattle.std.proofs.Common.{refl}
use Rattle.wac_completion.proofs.Beginning.{next_begins}
use Rattle.wac_completion.proofs.word.word_begins.Goals as goal

pub loop-i-preserved : goal.loop-i-preserved
loop-i-preserved c = next_begins c.args.bytes.now c.loop-i.i c.loop-i.start _ _ c.loop-i.invariant refl c.next_start-next.ensures
