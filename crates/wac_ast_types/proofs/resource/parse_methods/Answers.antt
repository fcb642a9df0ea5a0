use Rattle.wac_ast_types.proofs.Common.{refl, looks, peeks_one, tests}
use Rattle.wac_lexer.specs.declared.token.Token.TheVariants as tokens
use Rattle.wac_ast_base.proofs.Exits as x
use Rattle.wac_ast_base.proofs.Yields as y
use Rattle.wac_ast_types.proofs.resource.parse_methods.Goals as goal

pub returns-in_err-take_token-clause-gives : goal.returns-in_err-take_token-clause-gives
returns-in_err-take_token-clause-gives c = x.part_exits _ c.from_residual.ensures.1 (x.meets (looks _ _ c.new-lookahead.ensures) (peeks_one tokens.Semicolon _ _ _ c.peek.ensures.found c.peek.ensures.kept) c.if-peek.true c.in_err-take_token.ensures.takes)

pub returns-then-peek-clause-gives : goal.returns-then-peek-clause-gives
returns-then-peek-clause-gives c = y.part (y.meets (looks _ _ c.new-lookahead.ensures) (peeks_one tokens.Semicolon _ _ _ c.peek.ensures.found c.peek.ensures.kept) c.if-peek.true (c.in_ok-take_token.ensures.takes.0, c.in_ok-take_token.ensures.takes.2)) (rw c.new.ensures.items)

pub returns-then-not-peek-clause-gives : goal.returns-then-not-peek-clause-gives
returns-then-not-peek-clause-gives c = x.part_exits c.error.result refl (x.misses (looks _ _ c.new-lookahead.ensures) (peeks_one tokens.Semicolon _ _ _ c.peek.ensures.found c.peek.ensures.kept) c.if-peek.false (λ l. x.last_misses_token l (peeks_one tokens.OpenBrace _ _ _ c.peek-2.ensures.found c.peek-2.ensures.kept) c.if-not-peek.true c.error.ensures refl refl refl))

pub returns-in_err-take_token-2-clause-gives : goal.returns-in_err-take_token-2-clause-gives
returns-in_err-take_token-2-clause-gives c = x.part_exits _ c.from_residual-in_err-take_token-2.ensures.1 (x.misses (looks _ _ c.new-lookahead.ensures) (peeks_one tokens.Semicolon _ _ _ c.peek.ensures.found c.peek.ensures.kept) c.if-peek.false (λ l. x.found_fails tokens.OpenBrace refl (tests _ _ _ _ _ _ _ l (peeks_one tokens.OpenBrace _ _ _ c.peek-2.ensures.found c.peek-2.ensures.kept) c.if-not-peek.false) c.in_err-take_token-2.ensures.takes))

pub returns-in_err-methods-clause-gives : goal.returns-in_err-methods-clause-gives
returns-in_err-methods-clause-gives c = x.part_exits _ c.from_residual-in_err-methods.ensures.1 (x.misses (looks _ _ c.new-lookahead.ensures) (peeks_one tokens.Semicolon _ _ _ c.peek.ensures.found c.peek.ensures.kept) c.if-peek.false (λ l. x.last_meets_token _ c.in_ok-take_token-2.ensures.takes (x.last (x.same_error _ _ _ c.in_err-methods.ensures.takes))))

pub returns-clause-gives : goal.returns-clause-gives
returns-clause-gives c = y.part (y.misses (looks _ _ c.new-lookahead.ensures) (peeks_one tokens.Semicolon _ _ _ c.peek.ensures.found c.peek.ensures.kept) c.if-peek.false (λ l. y.last_meets_token _ c.in_ok-take_token-2.ensures.takes (y.last_listed c.in_ok-methods.ensures.takes))) refl
