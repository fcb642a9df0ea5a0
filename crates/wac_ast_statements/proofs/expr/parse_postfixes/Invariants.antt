use Rattle.wac_ast_statements.proofs.Common.{◌<◌, ◌^◌, map, length, left, Span, end_of, postfixes, last_span, read, SoFar}
use Rattle.wac_ast_statements.specs.Expressions.{postfix_expr_of}
use Rattle.wac_ast_statements.proofs.expr.parse_postfixes.Given as goal

abbrev pub invariant-loop-alloc : goal.invariant-loop-alloc
invariant-loop-alloc l = record {
  so_far : SoFar (read postfixes) (map postfix_expr_of l.postfixes.items) l.fn.lexer l.lexer;
  fits : (s : Span) → end_of s < 2 ^ 64 → end_of (last_span s (map postfix_expr_of l.postfixes.items)) < 2 ^ 64;
}

abbrev pub decreases-loop-alloc : goal.decreases-loop-alloc
decreases-loop-alloc l = length (left l.lexer)
