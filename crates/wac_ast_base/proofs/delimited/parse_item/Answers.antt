use Rattle.wac_ast_base.proofs.Common.{◌∙◌}
use Rattle.wac_ast_base.proofs.Lists.{item_there, item_missing, made_fails, same_fails}
use Rattle.wac_ast_base.proofs.delimited.parse_item.Goals as goal

pub returns-then-not-begins-clause-gives : goal.returns-then-not-begins-clause-gives
returns-then-not-begins-clause-gives g c = (c.no_item.result, c.from.ensures, item_missing c.no_item.result c.args.lexer.now g.T.Parse.symbol c.args.close c.requires.begins c.begins.ensures c.if-not-begins.true c.no_item.ensures)

pub returns-in_err-parse-clause-gives : goal.returns-in_err-parse-clause-gives
returns-in_err-parse-clause-gives g c = made_fails _ _ _ _ _ _ _ c.from_residual.ensures.1 (same_fails _ _ _ _ (item_there c.args.lexer.now _ _ c.requires.begins c.begins.ensures c.if-not-begins.false) c.in_err-parse.ensures.gives)

pub returns-clause-gives : goal.returns-clause-gives
returns-clause-gives g c = (item_there c.args.lexer.now _ _ c.requires.begins c.begins.ensures c.if-not-begins.false ∙ c.in_ok-parse.ensures.gives.0, c.in_ok-parse.ensures.gives.1)
