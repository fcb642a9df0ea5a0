use Rattle.wac_ast_base.proofs.Common.{refl, left}
use Rattle.wac_ast_base.proofs.Exits as x
use Rattle.wac_ast_base.proofs.Yields as y
use Rattle.wac_ast_base.proofs.pieces.take_word.Goals as goal

pub returns-in_err-take_token-clause-gives : goal.returns-in_err-take_token-clause-gives
returns-in_err-take_token-clause-gives c = x.part_exits _ c.from_residual.ensures.1 (x.chosen (x.next c.args.word (left c.args.lexer.now) c.at.ensures c.if-at.true) (x.last c.in_err-take_token.ensures.takes))

pub returns-then-at-clause-gives : goal.returns-then-at-clause-gives
returns-then-at-clause-gives c = y.part (y.chosen (x.next c.args.word (left c.args.lexer.now) c.at.ensures c.if-at.true) (y.last_took c.in_ok-take_token.ensures.takes)) refl

pub returns-clause-gives : goal.returns-clause-gives
returns-clause-gives c = y.part (y.other (x.next c.args.word (left c.args.lexer.now) c.at.ensures c.if-at.false) y.nothing) refl
