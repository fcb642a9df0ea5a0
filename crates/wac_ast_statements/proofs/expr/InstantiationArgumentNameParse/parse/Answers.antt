use Rattle.wac_ast_statements.proofs.Common.{refl, argument_name, looks}
use Rattle.wac_ast_base.proofs.Exits as x
use Rattle.wac_ast_base.proofs.Yields as y
use Rattle.wac_ast_statements.proofs.expr.InstantiationArgumentNameParse.parse.Goals as goal

pub returns-in_ok-parse-clause-gives : goal.returns-in_ok-parse-clause-gives
returns-in_ok-parse-clause-gives c = y.gives argument_name (y.meets (looks _ _ c.new-lookahead.ensures) c.peek.ensures c.if-peek.true c.in_ok-parse.ensures.gives) refl

pub returns-in_ok-parse-2-clause-gives : goal.returns-in_ok-parse-2-clause-gives
returns-in_ok-parse-2-clause-gives c = y.gives argument_name (y.misses (looks _ _ c.new-lookahead.ensures) c.peek.ensures c.if-peek.false (λ l. y.last_meets l c.peek-else-peek.ensures c.if-peek-2.true c.in_ok-parse-2.ensures.gives)) refl

pub returns-in_err-parse-clause-gives : goal.returns-in_err-parse-clause-gives
returns-in_err-parse-clause-gives c = x.exits argument_name _ _ _ c.from_residual.ensures.1 (x.meets (looks _ _ c.new-lookahead.ensures) c.peek.ensures c.if-peek.true c.in_err-parse.ensures.gives)

pub returns-in_err-parse-2-clause-gives : goal.returns-in_err-parse-2-clause-gives
returns-in_err-parse-2-clause-gives c = x.exits argument_name _ _ _ c.from_residual-in_err-parse-2.ensures.1 (x.misses (looks _ _ c.new-lookahead.ensures) c.peek.ensures c.if-peek.false (λ l. x.last_meets l c.peek-else-peek.ensures c.if-peek-2.true c.in_err-parse-2.ensures.gives))

pub returns-else-peek-2-clause-gives : goal.returns-else-peek-2-clause-gives
returns-else-peek-2-clause-gives c = x.leaves argument_name _ (x.misses (looks _ _ c.new-lookahead.ensures) c.peek.ensures c.if-peek.false (λ l. x.last_misses l c.peek-else-peek.ensures c.if-peek-2.false c.error.ensures refl refl refl))
