use Rattle.wac_ast_statements.proofs.Common.{◌+◌, ◌*◌, ◌≤◌, map, length, left, argument, list_of, ListSoFar}
use Rattle.wac_ast_statements.specs.Expressions.{argument_of}
use Rattle.wac_ast_statements.proofs.expr.+parser.Given as goal

abbrev pub decreases-NewExprParse::parse : goal.decreases-NewExprParse::parse
decreases-NewExprParse::parse l = length (left l.lexer.now) * 3

abbrev pub decreases-NestedExprParse::parse : goal.decreases-NestedExprParse::parse
decreases-NestedExprParse::parse l = length (left l.lexer.now) * 3

abbrev pub decreases-NamedInstantiationArgumentParse::parse : goal.decreases-NamedInstantiationArgumentParse::parse
decreases-NamedInstantiationArgumentParse::parse l = length (left l.lexer.now) * 3

abbrev pub decreases-PrimaryExprParse::parse : goal.decreases-PrimaryExprParse::parse
decreases-PrimaryExprParse::parse l = length (left l.lexer.now) * 3 + 1

abbrev pub decreases-InstantiationArgumentParse::parse : goal.decreases-InstantiationArgumentParse::parse
decreases-InstantiationArgumentParse::parse l = length (left l.lexer.now) * 3 + 1

abbrev pub decreases-ExprParse::parse : goal.decreases-ExprParse::parse
decreases-ExprParse::parse l = length (left l.lexer.now) * 3 + 2

abbrev pub decreases-parse_arguments : goal.decreases-parse_arguments
decreases-parse_arguments l = length (left l.lexer.now) * 3 + 3

abbrev pub decreases-parse_listed : goal.decreases-parse_listed
decreases-parse_listed l = length (left l.lexer.now) * 3 + 2

abbrev pub invariant-parse_arguments-loop-alloc : goal.invariant-parse_arguments-loop-alloc
invariant-parse_arguments-loop-alloc l = record {
  so_far : ListSoFar (list_of argument) (map argument_of l.arguments.items) l.fn.lexer l.lexer;
  shorter : length (left l.lexer) ≤ length (left l.fn.lexer);
}

abbrev pub decreases-parse_arguments-loop-alloc : goal.decreases-parse_arguments-loop-alloc
decreases-parse_arguments-loop-alloc l = length (left l.lexer)
