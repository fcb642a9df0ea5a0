use Rattle.wac_ast_types.proofs.Common.{refl, ap, left, ResultList, result_list}
use Rattle.wac_lexer.specs.declared.token.Token.TheVariants as k
use Rattle.wac_ast_base.proofs.Exits as x
use Rattle.wac_ast_base.proofs.Yields as y
use Rattle.wac_ast_types.proofs.func_type.ResultListParse.parse.Goals as goal

pub returns-in_err-parse_named-clause-gives : goal.returns-in_err-parse_named-clause-gives
returns-in_err-parse_named-clause-gives c = x.exits result_list _ _ _ c.from_residual.ensures.1 (x.chosen (x.next k.OpenParen (left c.args.lexer.now) c.at.ensures c.if-at.true) (x.last_piece c.in_err-parse_named.ensures.gives))

pub returns-then-at-clause-gives : goal.returns-then-at-clause-gives
returns-then-at-clause-gives c = y.gives result_list (y.chosen (x.next k.OpenParen (left c.args.lexer.now) c.at.ensures c.if-at.true) (y.last_piece c.in_ok-parse_named.ensures.gives)) (ap ResultList.named c.in_ok-parse_named.ensures.gives.part.2)

pub returns-in_err-parse-clause-gives : goal.returns-in_err-parse-clause-gives
returns-in_err-parse-clause-gives c =
    x.exits result_list _ _ _ c.from_residual-in_err-parse.ensures.1
    (x.other (x.next k.OpenParen (left c.args.lexer.now) c.at.ensures c.if-at.false) (x.chosen (x.tested c.begins.ensures c.if-begins.true) (x.last c.in_err-parse.ensures.gives)))

pub returns-then-begins-clause-gives : goal.returns-then-begins-clause-gives
returns-then-begins-clause-gives c =
    y.gives result_list (y.other (x.next k.OpenParen (left c.args.lexer.now) c.at.ensures c.if-at.false) (y.chosen (x.tested c.begins.ensures c.if-begins.true) (y.last c.in_ok-parse.ensures.gives))) refl

pub returns-clause-gives : goal.returns-clause-gives
returns-clause-gives c =
    y.gives result_list (y.other (x.next k.OpenParen (left c.args.lexer.now) c.at.ensures c.if-at.false) (y.other (x.tested c.begins.ensures c.if-begins.false) y.nothing)) refl
