use Rattle.wac_ast_base.proofs.Common.{refl}
use Rattle.wac_ast_base.proofs.Exits as x
use Rattle.wac_ast_base.proofs.Yields as y
use Rattle.wac_ast_base.proofs.pieces.parse_after.Goals as goal

pub returns-in_err-take_optional-clause-gives : goal.returns-in_err-take_optional-clause-gives
returns-in_err-take_optional-clause-gives g c = x.part_exits _ c.from_residual.ensures.1 (x.no_option c.in_err-take_optional.ensures.takes)

pub returns-in_err-parse-clause-gives : goal.returns-in_err-parse-clause-gives
returns-in_err-parse-clause-gives g c = x.part_exits _ c.from_residual-in_err-parse.ensures.1 (x.option c.take_optional.new.lexer c.if-branch.true c.in_ok-take_optional.ensures.takes (x.last c.in_err-parse.ensures.gives))

pub returns-then-branch-clause-gives : goal.returns-then-branch-clause-gives
returns-then-branch-clause-gives g c = y.part (y.option c.take_optional.new.lexer c.if-branch.true c.in_ok-take_optional.ensures.takes (y.last c.in_ok-parse.ensures.gives)) refl

pub returns-clause-gives : goal.returns-clause-gives
returns-clause-gives g c = y.part (y.no_option c.if-branch.false c.in_ok-take_optional.ensures.takes) refl
