use Rattle.std.proofs.Common.{refl}
use Rattle.wac_ast_base.proofs.Exits as x
use Rattle.wac_ast_base.proofs.Yields as y
use Rattle.wac_ast_uses.proofs.includes.parse_with.Goals as goal

pub returns-in_err-take_optional-clause-gives : goal.returns-in_err-take_optional-clause-gives
returns-in_err-take_optional-clause-gives c = x.part_exits _ c.from_residual.ensures.1 (x.no_option c.in_err-take_optional.ensures.takes)

pub returns-then-not-branch-clause-gives : goal.returns-then-not-branch-clause-gives
returns-then-not-branch-clause-gives c = y.part (y.no_option c.if-not-branch.true c.in_ok-take_optional.ensures.takes) (rw c.new.ensures.items)

pub returns-in_err-take_token-clause-gives : goal.returns-in_err-take_token-clause-gives
returns-in_err-take_token-clause-gives c = x.part_exits _ c.from_residual-in_err-take_token.ensures.1 (x.option c.take_optional.new.lexer c.if-not-branch.false c.in_ok-take_optional.ensures.takes (x.here c.in_err-take_token.ensures.takes))

pub returns-in_err-with-clause-gives : goal.returns-in_err-with-clause-gives
returns-in_err-with-clause-gives c = x.part_exits _ c.from_residual-in_err-with.ensures.1 (x.option c.take_optional.new.lexer c.if-not-branch.false c.in_ok-take_optional.ensures.takes (x.took c.in_ok-take_token.ensures.takes (x.last (x.same_error _ _ _ c.in_err-with.ensures.takes))))

pub returns-clause-gives : goal.returns-clause-gives
returns-clause-gives c = y.part (y.option c.take_optional.new.lexer c.if-not-branch.false c.in_ok-take_optional.ensures.takes (y.took c.in_ok-take_token.ensures.takes (y.last_listed c.in_ok-with.ensures.takes))) refl
