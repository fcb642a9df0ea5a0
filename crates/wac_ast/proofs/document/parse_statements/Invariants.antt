use Rattle.wac_ast.proofs.Common.{map, length, left, statements, read, SoFar}
use Rattle.wac_ast.specs.Statements.{statement_of}
use Rattle.wac_ast.proofs.document.parse_statements.Given as goal

abbrev pub invariant-loop-alloc : goal.invariant-loop-alloc
invariant-loop-alloc l = SoFar (read statements) (map statement_of l.statements.items) l.fn.lexer l.lexer

abbrev pub decreases-loop-alloc : goal.decreases-loop-alloc
decreases-loop-alloc l = length (left l.lexer)
