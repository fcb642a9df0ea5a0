use Rattle.wac_ast_statements.proofs.Common.{◌≡◌, ◌<◌, ◌++◌, ◌∷◌, [], map, length, refl, map_push, left, postfix_expr, takes_some, star_goes_on, star_fails, star_ends, postfixes_star}
use Rattle.wac_ast_statements.specs.Expressions.{postfix_expr_of}
use Rattle.wac_ast_base.proofs.Exits as x
use Rattle.wac_ast_statements.proofs.Spans.{fits_more}
use Rattle.wac_ast_statements.proofs.expr.parse_postfixes.Goals as goal

pub returns-in_err-parse-clause-gives : goal.returns-in_err-parse-clause-gives
returns-in_err-parse-clause-gives c = x.passed _ _ _ _ _ _ c.from_residual.ensures.1 (star_fails postfixes_star _ _ _ _ c.loop-alloc.invariant.so_far (x.tested c.begins.ensures c.loop-alloc-test.true) c.in_err-parse.ensures.gives)

pub loop-alloc-smaller : goal.loop-alloc-smaller
loop-alloc-smaller c =
    let less : length (left c.parse.new.lexer) < length (left c.loop-alloc.lexer) = takes_some postfix_expr _ _ _ c.in_ok-parse.ensures.gives.0 refl in
    less

pub loop-alloc-preserved : goal.loop-alloc-preserved
loop-alloc-preserved c =
    let parsed = c.in_ok-parse.ensures in
    let more : map postfix_expr_of c.push.new.items.items ≡ map postfix_expr_of c.loop-alloc.postfixes.items ++ postfix_expr_of c.in_ok-parse.field-0 ∷ [] = rw c.in_ok-push.ensures.items (map_push _ c.loop-alloc.postfixes.items c.in_ok-parse.field-0) in
    record {
      so_far = rw more (star_goes_on postfixes_star _ c.args.lexer.now c.loop-alloc.lexer c.parse.new.lexer _ c.loop-alloc.invariant.so_far (x.tested c.begins.ensures c.loop-alloc-test.true) parsed.gives.0 parsed.gives.1 parsed.source parsed.moves);
      fits = rw more (fits_more (map postfix_expr_of c.loop-alloc.postfixes.items) (postfix_expr_of c.in_ok-parse.field-0) parsed.fits);
    }

pub returns-clause-gives : goal.returns-clause-gives
returns-clause-gives c = star_ends postfixes_star _ _ _ c.loop-alloc.invariant.so_far (x.tested c.begins.ensures c.loop-alloc-test.false)
