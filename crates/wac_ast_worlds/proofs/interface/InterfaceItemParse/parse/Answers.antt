use Rattle.wac_ast_worlds.proofs.Common.{refl, interface_item, looks}
use Rattle.wac_ast_base.proofs.Exits as x
use Rattle.wac_ast_base.proofs.Yields as y
use Rattle.wac_ast_worlds.proofs.interface.InterfaceItemParse.parse.Goals as goal

pub returns-in_ok-boxed-clause-gives : goal.returns-in_ok-boxed-clause-gives
returns-in_ok-boxed-clause-gives c = y.gives interface_item (y.meets (looks _ _ c.new-lookahead.ensures) c.peek.ensures c.if-peek.true c.in_ok-item.ensures.gives) (rw c.in_ok-boxed.ensures.value)

pub returns-in_ok-parse-clause-gives : goal.returns-in_ok-parse-clause-gives
returns-in_ok-parse-clause-gives c = y.gives interface_item (y.misses (looks _ _ c.new-lookahead.ensures) c.peek.ensures c.if-peek.false (λ l. y.meets l c.peek-else-peek.ensures c.if-peek-2.true c.in_ok-parse.ensures.gives)) refl

pub returns-in_ok-parse-2-clause-gives : goal.returns-in_ok-parse-2-clause-gives
returns-in_ok-parse-2-clause-gives c = y.gives interface_item (y.misses (looks _ _ c.new-lookahead.ensures) c.peek.ensures c.if-peek.false (λ l. y.misses l c.peek-else-peek.ensures c.if-peek-2.false (λ m. y.last_meets m c.peek-else-peek-2.ensures c.if-peek-3.true c.in_ok-parse-2.ensures.gives))) refl

pub returns-in_err-item-clause-gives : goal.returns-in_err-item-clause-gives
returns-in_err-item-clause-gives c = x.exits interface_item _ _ _ c.from_residual.ensures.1 (x.meets (looks _ _ c.new-lookahead.ensures) c.peek.ensures c.if-peek.true c.in_err-item.ensures.gives)

pub returns-in_err-parse-clause-gives : goal.returns-in_err-parse-clause-gives
returns-in_err-parse-clause-gives c = x.exits interface_item _ _ _ c.from_residual-in_err-parse.ensures.1 (x.misses (looks _ _ c.new-lookahead.ensures) c.peek.ensures c.if-peek.false (λ l. x.meets l c.peek-else-peek.ensures c.if-peek-2.true c.in_err-parse.ensures.gives))

pub returns-in_err-parse-2-clause-gives : goal.returns-in_err-parse-2-clause-gives
returns-in_err-parse-2-clause-gives c = x.exits interface_item _ _ _ c.from_residual-in_err-parse-2.ensures.1 (x.misses (looks _ _ c.new-lookahead.ensures) c.peek.ensures c.if-peek.false (λ l. x.misses l c.peek-else-peek.ensures c.if-peek-2.false (λ m. x.last_meets m c.peek-else-peek-2.ensures c.if-peek-3.true c.in_err-parse-2.ensures.gives)))

pub returns-else-peek-3-clause-gives : goal.returns-else-peek-3-clause-gives
returns-else-peek-3-clause-gives c = x.leaves interface_item _ (x.misses (looks _ _ c.new-lookahead.ensures) c.peek.ensures c.if-peek.false (λ l. x.misses l c.peek-else-peek.ensures c.if-peek-2.false (λ m. x.last_misses m c.peek-else-peek-2.ensures c.if-peek-3.false c.error.ensures refl refl refl)))
