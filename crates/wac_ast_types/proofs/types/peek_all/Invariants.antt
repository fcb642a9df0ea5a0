use Rattle.wac_ast_types.proofs.Common.{TriedSoFar}
use Rattle.wac_ast_types.proofs.types.peek_all.Given as goal

abbrev pub invariant-loop-token : goal.invariant-loop-token
invariant-loop-token l = TriedSoFar l.fn.tokens l.token-index l.fn.lookahead l.lookahead
