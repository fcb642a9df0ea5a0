use Rattle.wac_ast_base.proofs.Common.{map, length, left}
use Rattle.wac_ast_base.specs.Lists.{body_of}
use Rattle.wac_ast_base.proofs.Lists.{ListSoFar}
use Rattle.wac_ast_base.proofs.delimited.parse_each.Given as goal

abbrev pub invariant-loop-alloc : goal.invariant-loop-alloc
invariant-loop-alloc g l = ListSoFar (body_of g.T.Parse.symbol) (map g.T.Parse.tree l.items.items) l.fn.lexer l.lexer

abbrev pub decreases-loop-alloc : goal.decreases-loop-alloc
decreases-loop-alloc g l = length (left l.lexer)
