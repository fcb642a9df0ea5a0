use Rattle.std.proofs.Common.{◌≡◌, ◌<◌, ◌^◌, ◌++◌, ◌∷◌, [], map, length, sym as back, refl, subst, ◌∙◌, arith}
use Rattle.wac_ast_statements.proofs.Common.{map_push, left, end_of, PrimaryExpr, expr, named_argument, primary_expr, new_expr, nested_expr, argument, arguments, argument_name, package_name, primary_span, read, takes_some, fails_bind, looks, comma_list, item_fails, item_less, item_missing, item_there, list_closed, list_goes_on, so_far_fails, step_fails, token_less, moved_end, same_fails, closed_by, closed_fails, never_fails, list_items}
use Rattle.wac_lexer.specs.declared.token.Token.TheVariants as tokens
use Rattle.wac_ast_statements.specs.Expressions.{argument_of, expr_of}
use Rattle.wac_ast_base.proofs.Optional.{gives_after}
use Rattle.wac_ast_base.proofs.Exits as x
use Rattle.wac_ast_base.proofs.Yields as y
use Rattle.wac_ast_statements.proofs.ArgumentParts.{argument_is_named, argument_fails, none_begins}
use Rattle.wac_ast_statements.proofs.ExprViews.{new_is, nested_is, after_is}
use Rattle.wac_ast_statements.proofs.expr.+parser.Goals as goal

-- ---- expressions

pub ExprParse::parse-returns-in_err-primary-clause-gives : goal.ExprParse::parse-returns-in_err-primary-clause-gives
ExprParse::parse-returns-in_err-primary-clause-gives t c = x.exits expr _ _ _ c.from_residual.ensures.1 (x.here c.in_err-primary.ensures.gives)

pub ExprParse::parse-returns-clause-gives : goal.ExprParse::parse-returns-clause-gives
ExprParse::parse-returns-clause-gives t c = gives_after expr_of c.parse_accesses_after.result c.args.lexer.now c.parse.new.lexer c.parse_accesses_after.new.lexer _ _ (after_is _ _ _ c.in_ok-primary.ensures.gives.0) c.in_ok-primary.ensures.gives.1 c.parse_accesses_after.ensures.gives

-- ---- primary expressions

pub PrimaryExprParse::parse-returns-in_ok-parse-clause-gives : goal.PrimaryExprParse::parse-returns-in_ok-parse-clause-gives
PrimaryExprParse::parse-returns-in_ok-parse-clause-gives t c = y.gives primary_expr (y.meets (looks _ _ c.new-lookahead.ensures) c.peek.ensures c.if-peek.true c.in_ok-parse.ensures.gives) (back (new_is c.in_ok-parse.field-0))

pub PrimaryExprParse::parse-returns-in_ok-parse-2-clause-gives : goal.PrimaryExprParse::parse-returns-in_ok-parse-2-clause-gives
PrimaryExprParse::parse-returns-in_ok-parse-2-clause-gives t c = y.gives primary_expr (y.misses (looks _ _ c.new-lookahead.ensures) c.peek.ensures c.if-peek.false (λ l. y.meets l c.peek-else-peek.ensures c.if-peek-2.true c.in_ok-parse-2.ensures.gives)) refl

pub PrimaryExprParse::parse-returns-in_ok-parse-3-clause-gives : goal.PrimaryExprParse::parse-returns-in_ok-parse-3-clause-gives
PrimaryExprParse::parse-returns-in_ok-parse-3-clause-gives t c = y.gives primary_expr (y.misses (looks _ _ c.new-lookahead.ensures) c.peek.ensures c.if-peek.false (λ l. y.misses l c.peek-else-peek.ensures c.if-peek-2.false (λ m. y.last_meets m c.peek-else-peek-2.ensures c.if-peek-3.true c.in_ok-parse-3.ensures.gives))) refl

pub PrimaryExprParse::parse-returns-in_err-parse-clause-gives : goal.PrimaryExprParse::parse-returns-in_err-parse-clause-gives
PrimaryExprParse::parse-returns-in_err-parse-clause-gives t c = x.exits primary_expr _ _ _ c.from_residual.ensures.1 (x.meets (looks _ _ c.new-lookahead.ensures) c.peek.ensures c.if-peek.true c.in_err-parse.ensures.gives)

pub PrimaryExprParse::parse-returns-in_err-parse-2-clause-gives : goal.PrimaryExprParse::parse-returns-in_err-parse-2-clause-gives
PrimaryExprParse::parse-returns-in_err-parse-2-clause-gives t c = x.exits primary_expr _ _ _ c.from_residual-in_err-parse-2.ensures.1 (x.misses (looks _ _ c.new-lookahead.ensures) c.peek.ensures c.if-peek.false (λ l. x.meets l c.peek-else-peek.ensures c.if-peek-2.true c.in_err-parse-2.ensures.gives))

pub PrimaryExprParse::parse-returns-in_err-parse-3-clause-gives : goal.PrimaryExprParse::parse-returns-in_err-parse-3-clause-gives
PrimaryExprParse::parse-returns-in_err-parse-3-clause-gives t c = x.exits primary_expr _ _ _ c.from_residual-in_err-parse-3.ensures.1 (x.misses (looks _ _ c.new-lookahead.ensures) c.peek.ensures c.if-peek.false (λ l. x.misses l c.peek-else-peek.ensures c.if-peek-2.false (λ m. x.last_meets m c.peek-else-peek-2.ensures c.if-peek-3.true c.in_err-parse-3.ensures.gives)))

pub PrimaryExprParse::parse-returns-else-peek-3-clause-gives : goal.PrimaryExprParse::parse-returns-else-peek-3-clause-gives
PrimaryExprParse::parse-returns-else-peek-3-clause-gives t c = x.leaves primary_expr _ (x.misses (looks _ _ c.new-lookahead.ensures) c.peek.ensures c.if-peek.false (λ l. x.misses l c.peek-else-peek.ensures c.if-peek-2.false (λ m. x.last_misses m c.peek-else-peek-2.ensures c.if-peek-3.false c.error.ensures refl refl refl)))

-- ---- nested expressions

pub NestedExprParse::parse-returns-in_err-first-clause-gives : goal.NestedExprParse::parse-returns-in_err-first-clause-gives
NestedExprParse::parse-returns-in_err-first-clause-gives t c = x.exits nested_expr _ _ _ c.from_residual.ensures.1 (x.here c.in_err-first.ensures.takes)

pub NestedExprParse::parse-returns-in_err-parse-clause-gives : goal.NestedExprParse::parse-returns-in_err-parse-clause-gives
NestedExprParse::parse-returns-in_err-parse-clause-gives t c = x.exits nested_expr _ _ _ c.from_residual-in_err-parse.ensures.1 (x.took c.in_ok-first.ensures.takes (x.here c.in_err-parse.ensures.gives))

pub NestedExprParse::parse-returns-in_err-last-clause-gives : goal.NestedExprParse::parse-returns-in_err-last-clause-gives
NestedExprParse::parse-returns-in_err-last-clause-gives t c = x.exits nested_expr _ _ _ c.from_residual-in_err-last.ensures.1 (x.took c.in_ok-first.ensures.takes (x.past c.in_ok-parse.ensures.gives (x.last c.in_err-last.ensures.takes)))

pub NestedExprParse::parse-returns-clause-gives : goal.NestedExprParse::parse-returns-clause-gives
NestedExprParse::parse-returns-clause-gives t c = y.gives nested_expr (y.took c.in_ok-first.ensures.takes (y.past c.in_ok-parse.ensures.gives (y.last_took c.in_ok-last.ensures.takes))) (back (nested_is c.join.result c.in_ok-inner.inner ∙ rw (c.join.ensures, c.in_ok-first.ensures.takes.1, c.in_ok-last.ensures.takes.1, c.in_ok-inner.ensures.value) refl))

pub NestedExprParse::parse-returns-clause-fits : goal.NestedExprParse::parse-returns-clause-fits
NestedExprParse::parse-returns-clause-fits t c =
    let a = c.in_ok-first.ensures.fits in
    let b = c.in_ok-last.ensures.fits in
    let h : end_of c.join.result < 2 ^ 64 = rw c.join.ensures (omega arith) in
    subst (λ (p : PrimaryExpr). end_of (primary_span p) < 2 ^ 64) (back (nested_is c.join.result c.in_ok-inner.inner)) h

-- ---- new expressions

pub NewExprParse::parse-parse_arguments-requires : goal.NewExprParse::parse-parse_arguments-requires
NewExprParse::parse-parse_arguments-requires t c =
    let a : length (left c.take_token.new.lexer) < length (left c.args.lexer.now) = token_less tokens.NewKeyword _ _ _ c.in_ok-first.ensures.takes.0 in
    let b : length (left c.parse.new.lexer) < length (left c.take_token.new.lexer) = takes_some package_name _ _ _ c.in_ok-package.ensures.gives.0 refl in
    let d : length (left c.take_token-2.new.lexer) < length (left c.parse.new.lexer) = token_less tokens.OpenBrace _ _ _ c.in_ok-take_token.ensures.takes.0 in
    omega arith

pub NewExprParse::parse-returns-in_err-first-clause-gives : goal.NewExprParse::parse-returns-in_err-first-clause-gives
NewExprParse::parse-returns-in_err-first-clause-gives t c = x.exits new_expr _ _ _ c.from_residual.ensures.1 (x.here c.in_err-first.ensures.takes)

pub NewExprParse::parse-returns-in_err-package-clause-gives : goal.NewExprParse::parse-returns-in_err-package-clause-gives
NewExprParse::parse-returns-in_err-package-clause-gives t c = x.exits new_expr _ _ _ c.from_residual-in_err-package.ensures.1 (x.took c.in_ok-first.ensures.takes (x.here c.in_err-package.ensures.gives))

pub NewExprParse::parse-returns-in_err-take_token-clause-gives : goal.NewExprParse::parse-returns-in_err-take_token-clause-gives
NewExprParse::parse-returns-in_err-take_token-clause-gives t c = x.exits new_expr _ _ _ c.from_residual-in_err-take_token.ensures.1 (x.took c.in_ok-first.ensures.takes (x.past c.in_ok-package.ensures.gives (x.here c.in_err-take_token.ensures.takes)))

pub NewExprParse::parse-returns-in_err-arguments-clause-gives : goal.NewExprParse::parse-returns-in_err-arguments-clause-gives
NewExprParse::parse-returns-in_err-arguments-clause-gives t c = x.exits new_expr _ _ _ c.from_residual-in_err-arguments.ensures.1 (x.took c.in_ok-first.ensures.takes (x.past c.in_ok-package.ensures.gives (x.took c.in_ok-take_token.ensures.takes (x.last (closed_fails _ _ _ c.in_err-arguments.ensures.gives)))))

pub NewExprParse::parse-returns-in_err-last-clause-gives : goal.NewExprParse::parse-returns-in_err-last-clause-gives
NewExprParse::parse-returns-in_err-last-clause-gives t c = x.exits new_expr _ _ _ c.from_residual-in_err-last.ensures.1 (x.took c.in_ok-first.ensures.takes (x.past c.in_ok-package.ensures.gives (x.took c.in_ok-take_token.ensures.takes (x.last (moved_end _ _ _ _ c.in_ok-arguments.ensures.gives.1 (never_fails _ _ tokens.CloseBrace (left c.parse_arguments.new.lexer) (read (list_items arguments) (left c.take_token-2.new.lexer)) refl c.in_ok-arguments.ensures.closed c.in_err-last.ensures.takes))))))

pub NewExprParse::parse-returns-clause-gives : goal.NewExprParse::parse-returns-clause-gives
NewExprParse::parse-returns-clause-gives t c =
    let last = c.in_ok-last.ensures.takes in
    let list = closed_by tokens.CloseBrace refl (read (list_items arguments) (left c.take_token-2.new.lexer)) _ _ _ _ c.in_ok-arguments.ensures.gives.0 c.in_ok-arguments.ensures.closed last.0 in
    y.gives new_expr (y.took c.in_ok-first.ensures.takes (y.past c.in_ok-package.ensures.gives (y.took c.in_ok-take_token.ensures.takes (y.last (list, last.2 ∙ c.in_ok-arguments.ensures.gives.1))))) (rw (c.join.ensures, c.in_ok-first.ensures.takes.1, last.1))

-- ---- arguments

pub InstantiationArgumentParse::parse-no_argument-requires : goal.InstantiationArgumentParse::parse-no_argument-requires
InstantiationArgumentParse::parse-no_argument-requires t c = none_begins (left c.args.lexer.now) (x.tested c.at.ensures c.if-at.false) (x.tested c.begins.ensures c.if-not-begins.true)

pub InstantiationArgumentParse::parse-returns-then-not-begins-clause-gives : goal.InstantiationArgumentParse::parse-returns-then-not-begins-clause-gives
InstantiationArgumentParse::parse-returns-then-not-begins-clause-gives t c = argument_fails c.no_argument.result c.args.lexer.now (x.tested c.at.ensures c.if-at.false) (x.tested c.begins.ensures c.if-not-begins.true) c.no_argument.ensures

pub InstantiationArgumentParse::parse-returns-then-at_second-clause-gives : goal.InstantiationArgumentParse::parse-returns-then-at_second-clause-gives
InstantiationArgumentParse::parse-returns-then-at_second-clause-gives t c = (rw (argument_is_named (left c.args.lexer.now) (x.tested c.at.ensures c.if-at.false) (x.tested c.begins.ensures c.if-not-begins.false) (x.tested c.at_second.ensures c.if-at_second.true), c.in_ok-parse.ensures.gives.0) refl, c.in_ok-parse.ensures.gives.1)

pub InstantiationArgumentParse::parse-returns-in_err-parse-clause-gives : goal.InstantiationArgumentParse::parse-returns-in_err-parse-clause-gives
InstantiationArgumentParse::parse-returns-in_err-parse-clause-gives t c = x.passed _ _ _ _ _ _ c.from_residual.ensures.1 (same_fails _ _ _ _ (argument_is_named (left c.args.lexer.now) (x.tested c.at.ensures c.if-at.false) (x.tested c.begins.ensures c.if-not-begins.false) (x.tested c.at_second.ensures c.if-at_second.true)) (fails_bind _ _ _ _ c.in_err-parse.ensures.gives))

-- ---- named arguments

pub NamedInstantiationArgumentParse::parse-parse-requires-2 : goal.NamedInstantiationArgumentParse::parse-parse-requires-2
NamedInstantiationArgumentParse::parse-parse-requires-2 t c =
    let name : length (left c.parse.new.lexer) < length (left c.args.lexer.now) = takes_some argument_name _ _ _ c.in_ok-name.ensures.gives.0 refl in
    let colon : length (left c.take_token.new.lexer) < length (left c.parse.new.lexer) = token_less tokens.Colon _ _ _ c.in_ok-take_token.ensures.takes.0 in
    omega arith

pub NamedInstantiationArgumentParse::parse-returns-in_err-name-clause-gives : goal.NamedInstantiationArgumentParse::parse-returns-in_err-name-clause-gives
NamedInstantiationArgumentParse::parse-returns-in_err-name-clause-gives t c = x.exits named_argument _ _ _ c.from_residual.ensures.1 (x.here c.in_err-name.ensures.gives)

pub NamedInstantiationArgumentParse::parse-returns-in_err-take_token-clause-gives : goal.NamedInstantiationArgumentParse::parse-returns-in_err-take_token-clause-gives
NamedInstantiationArgumentParse::parse-returns-in_err-take_token-clause-gives t c = x.exits named_argument _ _ _ c.from_residual-in_err-take_token.ensures.1 (x.past c.in_ok-name.ensures.gives (x.here c.in_err-take_token.ensures.takes))

pub NamedInstantiationArgumentParse::parse-returns-in_err-expr-clause-gives : goal.NamedInstantiationArgumentParse::parse-returns-in_err-expr-clause-gives
NamedInstantiationArgumentParse::parse-returns-in_err-expr-clause-gives t c = x.exits named_argument _ _ _ c.from_residual-in_err-expr.ensures.1 (x.past c.in_ok-name.ensures.gives (x.took c.in_ok-take_token.ensures.takes (x.last c.in_err-expr.ensures.gives)))

pub NamedInstantiationArgumentParse::parse-returns-clause-gives : goal.NamedInstantiationArgumentParse::parse-returns-clause-gives
NamedInstantiationArgumentParse::parse-returns-clause-gives t c = y.gives named_argument (y.past c.in_ok-name.ensures.gives (y.took c.in_ok-take_token.ensures.takes (y.last c.in_ok-expr.ensures.gives))) refl

-- ---- the list of arguments

pub parse_listed-returns-then-not-begins-clause-gives : goal.parse_listed-returns-then-not-begins-clause-gives
parse_listed-returns-then-not-begins-clause-gives t c = item_missing c.no_item.result c.args.lexer.now argument tokens.CloseBrace refl c.begins.ensures c.if-not-begins.true c.no_item.ensures

pub parse_listed-returns-clause-gives : goal.parse_listed-returns-clause-gives
parse_listed-returns-clause-gives t c = rw (item_there c.args.lexer.now argument tokens.CloseBrace refl c.begins.ensures c.if-not-begins.false) c.parse.ensures.gives

pub parse_arguments-returns-in_err-parse_listed-clause-gives : goal.parse_arguments-returns-in_err-parse_listed-clause-gives
parse_arguments-returns-in_err-parse_listed-clause-gives t c = x.passed _ _ _ _ _ _ c.from_residual.ensures.1 (so_far_fails _ c.loop-alloc.invariant.so_far (item_fails _ _ _ (comma_list argument tokens.CloseBrace refl).is_list (x.tested c.at.ensures c.loop-alloc-test.true) c.in_err-parse_listed.ensures.gives))

pub parse_arguments-returns-in_err-take_comma-clause-gives : goal.parse_arguments-returns-in_err-take_comma-clause-gives
parse_arguments-returns-in_err-take_comma-clause-gives t c = x.passed _ _ _ _ _ _ c.from_residual-in_err-take_comma.ensures.1 (so_far_fails _ c.loop-alloc.invariant.so_far (step_fails _ _ _ (comma_list argument tokens.CloseBrace refl).is_list (x.tested c.at.ensures c.loop-alloc-test.true) c.in_ok-parse_listed.ensures.gives (c.in_err-take_comma.ensures.gives argument refl refl)))

pub parse_arguments-loop-alloc-smaller : goal.parse_arguments-loop-alloc-smaller
parse_arguments-loop-alloc-smaller t c =
    let less : length (left c.parse_listed.new.lexer) < length (left c.loop-alloc.lexer) = item_less argument tokens.CloseBrace _ _ _ c.in_ok-parse_listed.ensures.gives.0 refl in
    let rest = c.in_ok-take_comma.ensures.rest in
    omega arith

pub parse_arguments-loop-alloc-preserved : goal.parse_arguments-loop-alloc-preserved
parse_arguments-loop-alloc-preserved t c =
    let item = c.in_ok-parse_listed.ensures in
    let comma = c.in_ok-take_comma.ensures in
    let more : map argument_of c.push.new.items.items ≡ map argument_of c.loop-alloc.arguments.items ++ argument_of c.in_ok-parse_listed.field-0 ∷ [] = rw c.in_ok-push.ensures.items (map_push _ c.loop-alloc.arguments.items c.in_ok-parse_listed.field-0) in
    let less : length (left c.parse_listed.new.lexer) < length (left c.loop-alloc.lexer) = item_less argument tokens.CloseBrace _ _ _ item.gives.0 refl in
    let rest = comma.rest in
    let before = c.loop-alloc.invariant.shorter in
    record {
      so_far = rw more (list_goes_on c.parse_listed.new.lexer (comma_list argument tokens.CloseBrace refl).is_list c.loop-alloc.invariant.so_far (x.tested c.at.ensures c.loop-alloc-test.true) item.gives item.source item.moves (comma.gives argument refl refl) comma.source comma.moves);
      shorter = omega arith;
    }

pub parse_arguments-returns-clause-gives : goal.parse_arguments-returns-clause-gives
parse_arguments-returns-clause-gives t c = list_closed (comma_list argument tokens.CloseBrace refl).is_list refl c.loop-alloc.invariant.so_far (x.tested c.at.ensures c.loop-alloc-test.false)
