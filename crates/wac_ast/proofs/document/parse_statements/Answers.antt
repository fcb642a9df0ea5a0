use Rattle.wac_ast.proofs.Common.{◌≡◌, ◌<◌, ◌++◌, ◌∷◌, [], map, length, refl, map_push, left, statement, star_goes_on, star_fails, star_ends, statements_star}
use Rattle.wac_ast.specs.Statements.{statement_of}
use Rattle.wac_ast_grammar.proofs.Fixed.{takes_some}
use Rattle.wac_ast.proofs.Whole.{none_left}
use Rattle.wac_ast_base.proofs.Exits as x
use Rattle.wac_ast.proofs.document.parse_statements.Goals as goal

pub returns-in_err-parse-clause-gives : goal.returns-in_err-parse-clause-gives
returns-in_err-parse-clause-gives c = x.passed _ _ _ _ _ _ c.from_residual.ensures.1 (star_fails statements_star _ _ _ _ c.loop-alloc.invariant (x.tested c.has_more.ensures c.loop-alloc-test.true) c.in_err-parse.ensures.gives)

pub loop-alloc-smaller : goal.loop-alloc-smaller
loop-alloc-smaller c =
    let less : length (left c.parse.new.lexer) < length (left c.loop-alloc.lexer) = takes_some statement _ _ _ c.in_ok-parse.ensures.gives.0 refl in
    less

pub loop-alloc-preserved : goal.loop-alloc-preserved
loop-alloc-preserved c =
    let parsed = c.in_ok-parse.ensures in
    let more : map statement_of c.push.new.items.items ≡ map statement_of c.loop-alloc.statements.items ++ statement_of c.in_ok-parse.field-0 ∷ [] = rw c.in_ok-push.ensures.items (map_push _ c.loop-alloc.statements.items c.in_ok-parse.field-0) in
    rw more (star_goes_on statements_star _ c.args.lexer.now c.loop-alloc.lexer c.parse.new.lexer _ c.loop-alloc.invariant (x.tested c.has_more.ensures c.loop-alloc-test.true) parsed.gives.0 parsed.gives.1 parsed.source parsed.moves)

pub returns-clause-gives : goal.returns-clause-gives
returns-clause-gives c = star_ends statements_star _ _ _ c.loop-alloc.invariant (x.tested c.has_more.ensures c.loop-alloc-test.false)

pub returns-clause-ended : goal.returns-clause-ended
returns-clause-ended c = none_left (left c.loop-alloc.lexer) (x.tested c.has_more.ensures c.loop-alloc-test.false)
