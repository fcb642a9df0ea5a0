use Rattle.wac_tool_graphs.proofs.Common.{children}
use Rattle.wac_tool_graphs.proofs.Levels.{ReducesSoFar}
use Rattle.wac_tool_graphs.proofs.comparing.add_parts.Given as goal

abbrev pub invariant-loop-at : goal.invariant-loop-at
invariant-loop-at l = ReducesSoFar (children l.first) (children l.second) l.at l.initial.pairs l.pairs
