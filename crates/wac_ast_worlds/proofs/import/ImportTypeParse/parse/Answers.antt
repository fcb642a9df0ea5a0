use Rattle.wac_ast_worlds.proofs.Common.{refl, import_type, looks}
use Rattle.wac_ast_base.proofs.Exits as x
use Rattle.wac_ast_base.proofs.Yields as y
use Rattle.wac_ast_worlds.proofs.import.ImportTypeParse.parse.Goals as goal

pub returns-in_ok-parse-clause-gives : goal.returns-in_ok-parse-clause-gives
returns-in_ok-parse-clause-gives c = y.gives import_type (y.meets (looks _ _ c.new-lookahead.ensures) c.peek.ensures c.if-peek.true c.in_ok-parse.ensures.gives) refl

pub returns-in_ok-parse-2-clause-gives : goal.returns-in_ok-parse-2-clause-gives
returns-in_ok-parse-2-clause-gives c = y.gives import_type (y.misses (looks _ _ c.new-lookahead.ensures) c.peek.ensures c.if-peek.false (λ l. y.meets l c.peek-else-peek.ensures c.if-peek-2.true c.in_ok-parse-2.ensures.gives)) refl

pub returns-in_ok-parse-3-clause-gives : goal.returns-in_ok-parse-3-clause-gives
returns-in_ok-parse-3-clause-gives c = y.gives import_type (y.misses (looks _ _ c.new-lookahead.ensures) c.peek.ensures c.if-peek.false (λ l. y.misses l c.peek-else-peek.ensures c.if-peek-2.false (λ m. y.meets m c.peek-else-peek-2.ensures c.if-peek-3.true c.in_ok-parse-3.ensures.gives))) refl

pub returns-in_ok-parse-4-clause-gives : goal.returns-in_ok-parse-4-clause-gives
returns-in_ok-parse-4-clause-gives c = y.gives import_type (y.misses (looks _ _ c.new-lookahead.ensures) c.peek.ensures c.if-peek.false (λ l. y.misses l c.peek-else-peek.ensures c.if-peek-2.false (λ m. y.misses m c.peek-else-peek-2.ensures c.if-peek-3.false (λ n. y.last_meets n c.peek-else-peek-3.ensures c.if-peek-4.true c.in_ok-parse-4.ensures.gives)))) refl

pub returns-in_err-parse-clause-gives : goal.returns-in_err-parse-clause-gives
returns-in_err-parse-clause-gives c = x.exits import_type _ _ _ c.from_residual.ensures.1 (x.meets (looks _ _ c.new-lookahead.ensures) c.peek.ensures c.if-peek.true c.in_err-parse.ensures.gives)

pub returns-in_err-parse-2-clause-gives : goal.returns-in_err-parse-2-clause-gives
returns-in_err-parse-2-clause-gives c = x.exits import_type _ _ _ c.from_residual-in_err-parse-2.ensures.1 (x.misses (looks _ _ c.new-lookahead.ensures) c.peek.ensures c.if-peek.false (λ l. x.meets l c.peek-else-peek.ensures c.if-peek-2.true c.in_err-parse-2.ensures.gives))

pub returns-in_err-parse-3-clause-gives : goal.returns-in_err-parse-3-clause-gives
returns-in_err-parse-3-clause-gives c = x.exits import_type _ _ _ c.from_residual-in_err-parse-3.ensures.1 (x.misses (looks _ _ c.new-lookahead.ensures) c.peek.ensures c.if-peek.false (λ l. x.misses l c.peek-else-peek.ensures c.if-peek-2.false (λ m. x.meets m c.peek-else-peek-2.ensures c.if-peek-3.true c.in_err-parse-3.ensures.gives)))

pub returns-in_err-parse-4-clause-gives : goal.returns-in_err-parse-4-clause-gives
returns-in_err-parse-4-clause-gives c = x.exits import_type _ _ _ c.from_residual-in_err-parse-4.ensures.1 (x.misses (looks _ _ c.new-lookahead.ensures) c.peek.ensures c.if-peek.false (λ l. x.misses l c.peek-else-peek.ensures c.if-peek-2.false (λ m. x.misses m c.peek-else-peek-2.ensures c.if-peek-3.false (λ n. x.last_meets n c.peek-else-peek-3.ensures c.if-peek-4.true c.in_err-parse-4.ensures.gives))))

pub returns-else-peek-4-clause-gives : goal.returns-else-peek-4-clause-gives
returns-else-peek-4-clause-gives c = x.leaves import_type _ (x.misses (looks _ _ c.new-lookahead.ensures) c.peek.ensures c.if-peek.false (λ l. x.misses l c.peek-else-peek.ensures c.if-peek-2.false (λ m. x.misses m c.peek-else-peek-2.ensures c.if-peek-3.false (λ n. x.last_misses n c.peek-else-peek-3.ensures c.if-peek-4.false c.error.ensures refl refl refl))))
