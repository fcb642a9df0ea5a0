use Rattle.wac_resolution_state.proofs.Common.{map, take, postfix_expr_of}
use Rattle.wac_resolution_state.proofs.Instances.{SoFar}
use Rattle.wac_resolution_state.proofs.postfix.accesses.Given as goal

abbrev pub invariant-loop-next : goal.invariant-loop-next
invariant-loop-next l = SoFar l.fn.state.graph l.state.graph l.fn.node.0 l.fn.span (take l.next-index (map postfix_expr_of l.accesses)) l.node.0 l.span
