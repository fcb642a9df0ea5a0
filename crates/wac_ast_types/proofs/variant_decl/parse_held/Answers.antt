use Rattle.wac_ast_types.proofs.Common.{Some, refl, ap}
use Rattle.wac_ast_base.proofs.Exits as x
use Rattle.wac_ast_base.proofs.Yields as y
use Rattle.wac_ast_types.proofs.variant_decl.parse_held.Goals as goal

pub returns-in_err-take_optional-clause-gives : goal.returns-in_err-take_optional-clause-gives
returns-in_err-take_optional-clause-gives c = x.part_exits _ c.from_residual.ensures.1 (x.no_option c.in_err-take_optional.ensures.takes)

pub returns-in_err-ty-clause-gives : goal.returns-in_err-ty-clause-gives
returns-in_err-ty-clause-gives c = x.part_exits _ c.from_residual-in_err-ty.ensures.1 (x.option c.take_optional.new.lexer c.if-branch.true c.in_ok-take_optional.ensures.takes (x.last_piece c.in_err-ty.ensures.gives))

pub returns-then-branch-clause-gives : goal.returns-then-branch-clause-gives
returns-then-branch-clause-gives c = y.part (y.option c.take_optional.new.lexer c.if-branch.true c.in_ok-take_optional.ensures.takes (y.last_piece c.in_ok-ty.ensures.gives)) (ap Some c.in_ok-ty.ensures.gives.part.2)

pub returns-clause-gives : goal.returns-clause-gives
returns-clause-gives c = y.part (y.no_option c.if-branch.false c.in_ok-take_optional.ensures.takes) refl
