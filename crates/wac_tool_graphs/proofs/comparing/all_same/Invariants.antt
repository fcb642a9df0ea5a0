use Rattle.wac_tool_graphs.proofs.Reaching.{ClosesSoFar}
use Rattle.wac_tool_graphs.proofs.comparing.all_same.Given as goal

abbrev pub invariant-loop-at : goal.invariant-loop-at
invariant-loop-at l = ClosesSoFar l.entries l.at l.initial.pairs l.pairs
