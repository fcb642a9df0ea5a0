use Rattle.wac_ast_types.proofs.Common.{◌≤◌, ◌*◌, ◌+◌, map, length, left, read, measure, ListSoFar}
use Rattle.wac_ast_grammar.specs.Grammar as g
use Rattle.wac_ast_types.specs.Types.{ty_of}
use Rattle.wac_ast_types.proofs.types.+types.Given as goal

abbrev pub decreases-TypeParse::parse : goal.decreases-TypeParse::parse
decreases-TypeParse::parse l = measure g.ty (left l.lexer.now)

abbrev pub decreases-parse_angled : goal.decreases-parse_angled
decreases-parse_angled l = measure g.list_type (left l.lexer.now)

abbrev pub decreases-parse_held : goal.decreases-parse_held
decreases-parse_held l = measure g.stream_type (left l.lexer.now)

abbrev pub decreases-parse_result : goal.decreases-parse_result
decreases-parse_result l = measure g.result_type (left l.lexer.now)

abbrev pub decreases-parse_result_part : goal.decreases-parse_result_part
decreases-parse_result_part l = measure g.result_part (left l.lexer.now)

abbrev pub decreases-parse_second_part : goal.decreases-parse_second_part
decreases-parse_second_part l = length (left l.lexer.now) * 5

abbrev pub decreases-parse_tuple : goal.decreases-parse_tuple
decreases-parse_tuple l = measure g.tuple_type (left l.lexer.now)

abbrev pub decreases-parse_types : goal.decreases-parse_types
decreases-parse_types l = length (left l.lexer.now) * 5 + 3

abbrev pub decreases-parse_listed : goal.decreases-parse_listed
decreases-parse_listed l = length (left l.lexer.now) * 5 + 2

abbrev pub invariant-parse_types-loop-alloc : goal.invariant-parse_types-loop-alloc
invariant-parse_types-loop-alloc l = record {
  so_far : ListSoFar (read (g.list_items g.types)) (map ty_of l.types.items) l.fn.lexer l.lexer;
  shorter : length (left l.lexer) ≤ length (left l.fn.lexer);
}

abbrev pub decreases-parse_types-loop-alloc : goal.decreases-parse_types-loop-alloc
decreases-parse_types-loop-alloc l = length (left l.lexer)
