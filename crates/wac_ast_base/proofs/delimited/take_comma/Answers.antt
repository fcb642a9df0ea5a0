use Rattle.wac_ast_base.proofs.Common.{◌<◌, length, refl, arith, left}
use Rattle.wac_lexer.specs.declared.token.Token.TheVariants as t
use Rattle.wac_ast_base.specs.Lists.{list_of, more_of}
use Rattle.wac_ast_base.proofs.Lists.{comma_list, none_left, rest_closed, rest_comma, rest_fails, rest_missing, stops_there, token_less}
use Rattle.wac_ast_base.proofs.Exits.{tested}
use Rattle.wac_ast_base.proofs.delimited.take_comma.Goals as goal

pub no_item-requires-clause-none : goal.no_item-requires-clause-none
no_item-requires-clause-none g c = none_left g.T.Peek.firsts (left c.args.lexer.now) (tested c.has_more.ensures c.if-not-has_more.true)

pub returns-then-at-clause-gives : goal.returns-then-at-clause-gives
returns-then-at-clause-gives g c = λ s listed begun. (rest_closed (comma_list s c.args.close listed) (left c.args.lexer.now) (tested c.at.ensures c.if-at.true), refl)

pub returns-then-not-has_more-clause-gives : goal.returns-then-not-has_more-clause-gives
returns-then-not-has_more-clause-gives g c = λ s listed begun. rest_missing c.no_item.result c.args.lexer.now s c.args.close listed begun (tested c.has_more.ensures c.if-not-has_more.true) c.no_item.ensures

pub returns-in_err-take_token-clause-gives : goal.returns-in_err-take_token-clause-gives
returns-in_err-take_token-clause-gives g c = λ s listed begun.
    stops_there c.in_err-take_token.field-0.0 (list_of s) (more_of s) c.from_residual.result c.args.lexer.now c.take_token.new.lexer c.from_residual.ensures.1 (rest_fails (comma_list s c.args.close listed) _ _ (left c.args.lexer.now) (tested c.at.ensures c.if-at.false) (tested c.has_more.ensures c.if-not-has_more.false) c.in_err-take_token.ensures.takes)

pub returns-clause-gives : goal.returns-clause-gives
returns-clause-gives g c = λ s listed begun.
    let comma = c.in_ok-take_token.ensures.takes in
    (rest_comma (comma_list s c.args.close listed) (left c.args.lexer.now) _ (left c.take_token.new.lexer) (tested c.at.ensures c.if-at.false) comma.0, comma.2)

pub returns-clause-rest : goal.returns-clause-rest
returns-clause-rest g c =
    let less : length (left c.take_token.new.lexer) < length (left c.args.lexer.now) = token_less t.Comma _ _ _ c.in_ok-take_token.ensures.takes.0 in
    omega arith
