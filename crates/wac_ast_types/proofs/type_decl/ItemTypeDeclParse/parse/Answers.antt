use Rattle.wac_ast_types.proofs.Common.{refl, item_type_decl, looks}
use Rattle.wac_ast_base.proofs.Exits as x
use Rattle.wac_ast_base.proofs.Yields as y
use Rattle.wac_ast_types.proofs.type_decl.ItemTypeDeclParse.parse.Goals as goal

pub returns-in_ok-parse-clause-gives : goal.returns-in_ok-parse-clause-gives
returns-in_ok-parse-clause-gives c = y.gives item_type_decl (y.meets (looks _ _ c.new-lookahead.ensures) c.peek.ensures c.if-peek.true c.in_ok-parse.ensures.gives) refl

pub returns-in_ok-parse-2-clause-gives : goal.returns-in_ok-parse-2-clause-gives
returns-in_ok-parse-2-clause-gives c = y.gives item_type_decl (y.misses (looks _ _ c.new-lookahead.ensures) c.peek.ensures c.if-peek.false (λ l. y.meets l c.peek-else-peek.ensures c.if-peek-2.true c.in_ok-parse-2.ensures.gives)) refl

pub returns-in_ok-parse-3-clause-gives : goal.returns-in_ok-parse-3-clause-gives
returns-in_ok-parse-3-clause-gives c = y.gives item_type_decl (y.misses (looks _ _ c.new-lookahead.ensures) c.peek.ensures c.if-peek.false (λ l. y.misses l c.peek-else-peek.ensures c.if-peek-2.false (λ m. y.meets m c.peek-else-peek-2.ensures c.if-peek-3.true c.in_ok-parse-3.ensures.gives))) refl

pub returns-in_ok-parse-4-clause-gives : goal.returns-in_ok-parse-4-clause-gives
returns-in_ok-parse-4-clause-gives c = y.gives item_type_decl (y.misses (looks _ _ c.new-lookahead.ensures) c.peek.ensures c.if-peek.false (λ l. y.misses l c.peek-else-peek.ensures c.if-peek-2.false (λ m. y.misses m c.peek-else-peek-2.ensures c.if-peek-3.false (λ n. y.meets n c.peek-else-peek-3.ensures c.if-peek-4.true c.in_ok-parse-4.ensures.gives)))) refl

pub returns-in_ok-parse-5-clause-gives : goal.returns-in_ok-parse-5-clause-gives
returns-in_ok-parse-5-clause-gives c = y.gives item_type_decl (y.misses (looks _ _ c.new-lookahead.ensures) c.peek.ensures c.if-peek.false (λ l. y.misses l c.peek-else-peek.ensures c.if-peek-2.false (λ m. y.misses m c.peek-else-peek-2.ensures c.if-peek-3.false (λ n. y.misses n c.peek-else-peek-3.ensures c.if-peek-4.false (λ o. y.meets o c.peek-else-peek-4.ensures c.if-peek-5.true c.in_ok-parse-5.ensures.gives))))) refl

pub returns-in_ok-parse-6-clause-gives : goal.returns-in_ok-parse-6-clause-gives
returns-in_ok-parse-6-clause-gives c = y.gives item_type_decl (y.misses (looks _ _ c.new-lookahead.ensures) c.peek.ensures c.if-peek.false (λ l. y.misses l c.peek-else-peek.ensures c.if-peek-2.false (λ m. y.misses m c.peek-else-peek-2.ensures c.if-peek-3.false (λ n. y.misses n c.peek-else-peek-3.ensures c.if-peek-4.false (λ o. y.misses o c.peek-else-peek-4.ensures c.if-peek-5.false (λ p. y.last_meets p c.peek-else-peek-5.ensures c.if-peek-6.true c.in_ok-parse-6.ensures.gives)))))) refl

pub returns-in_err-parse-clause-gives : goal.returns-in_err-parse-clause-gives
returns-in_err-parse-clause-gives c = x.exits item_type_decl _ _ _ c.from_residual.ensures.1 (x.meets (looks _ _ c.new-lookahead.ensures) c.peek.ensures c.if-peek.true c.in_err-parse.ensures.gives)

pub returns-in_err-parse-2-clause-gives : goal.returns-in_err-parse-2-clause-gives
returns-in_err-parse-2-clause-gives c = x.exits item_type_decl _ _ _ c.from_residual-in_err-parse-2.ensures.1 (x.misses (looks _ _ c.new-lookahead.ensures) c.peek.ensures c.if-peek.false (λ l. x.meets l c.peek-else-peek.ensures c.if-peek-2.true c.in_err-parse-2.ensures.gives))

pub returns-in_err-parse-3-clause-gives : goal.returns-in_err-parse-3-clause-gives
returns-in_err-parse-3-clause-gives c = x.exits item_type_decl _ _ _ c.from_residual-in_err-parse-3.ensures.1 (x.misses (looks _ _ c.new-lookahead.ensures) c.peek.ensures c.if-peek.false (λ l. x.misses l c.peek-else-peek.ensures c.if-peek-2.false (λ m. x.meets m c.peek-else-peek-2.ensures c.if-peek-3.true c.in_err-parse-3.ensures.gives)))

pub returns-in_err-parse-4-clause-gives : goal.returns-in_err-parse-4-clause-gives
returns-in_err-parse-4-clause-gives c = x.exits item_type_decl _ _ _ c.from_residual-in_err-parse-4.ensures.1 (x.misses (looks _ _ c.new-lookahead.ensures) c.peek.ensures c.if-peek.false (λ l. x.misses l c.peek-else-peek.ensures c.if-peek-2.false (λ m. x.misses m c.peek-else-peek-2.ensures c.if-peek-3.false (λ n. x.meets n c.peek-else-peek-3.ensures c.if-peek-4.true c.in_err-parse-4.ensures.gives))))

pub returns-in_err-parse-5-clause-gives : goal.returns-in_err-parse-5-clause-gives
returns-in_err-parse-5-clause-gives c = x.exits item_type_decl _ _ _ c.from_residual-in_err-parse-5.ensures.1 (x.misses (looks _ _ c.new-lookahead.ensures) c.peek.ensures c.if-peek.false (λ l. x.misses l c.peek-else-peek.ensures c.if-peek-2.false (λ m. x.misses m c.peek-else-peek-2.ensures c.if-peek-3.false (λ n. x.misses n c.peek-else-peek-3.ensures c.if-peek-4.false (λ o. x.meets o c.peek-else-peek-4.ensures c.if-peek-5.true c.in_err-parse-5.ensures.gives)))))

pub returns-in_err-parse-6-clause-gives : goal.returns-in_err-parse-6-clause-gives
returns-in_err-parse-6-clause-gives c = x.exits item_type_decl _ _ _ c.from_residual-in_err-parse-6.ensures.1 (x.misses (looks _ _ c.new-lookahead.ensures) c.peek.ensures c.if-peek.false (λ l. x.misses l c.peek-else-peek.ensures c.if-peek-2.false (λ m. x.misses m c.peek-else-peek-2.ensures c.if-peek-3.false (λ n. x.misses n c.peek-else-peek-3.ensures c.if-peek-4.false (λ o. x.misses o c.peek-else-peek-4.ensures c.if-peek-5.false (λ p. x.last_meets p c.peek-else-peek-5.ensures c.if-peek-6.true c.in_err-parse-6.ensures.gives))))))

pub returns-else-peek-6-clause-gives : goal.returns-else-peek-6-clause-gives
returns-else-peek-6-clause-gives c = x.leaves item_type_decl _ (x.misses (looks _ _ c.new-lookahead.ensures) c.peek.ensures c.if-peek.false (λ l. x.misses l c.peek-else-peek.ensures c.if-peek-2.false (λ m. x.misses m c.peek-else-peek-2.ensures c.if-peek-3.false (λ n. x.misses n c.peek-else-peek-3.ensures c.if-peek-4.false (λ o. x.misses o c.peek-else-peek-4.ensures c.if-peek-5.false (λ p. x.last_misses p c.peek-else-peek-5.ensures c.if-peek-6.false c.error.ensures refl refl refl))))))
