use Rattle.std.proofs.Common.{refl}
use Rattle.wac_ast_grammar.specs.Grammar.{export_options}
use Rattle.wac_lexer.specs.Reading.{left}
use Rattle.wac_lexer.specs.declared.token.Token.TheVariants as tokens
use Rattle.wac_ast_base.proofs.Exits as x
use Rattle.wac_ast_base.proofs.Yields as y
use Rattle.wac_ast_statements.proofs.export.ExportOptionsParse.parse.Goals as goal

pub returns-in_err-take_token-clause-gives : goal.returns-in_err-take_token-clause-gives
returns-in_err-take_token-clause-gives c = x.exits export_options _ _ _ c.from_residual.ensures.1 (x.chosen (x.next tokens.Ellipsis (left c.args.lexer.now) c.at.ensures c.if-at.true) (x.last c.in_err-take_token.ensures.takes))

pub returns-then-at-clause-gives : goal.returns-then-at-clause-gives
returns-then-at-clause-gives c = y.gives export_options (y.chosen (x.next tokens.Ellipsis (left c.args.lexer.now) c.at.ensures c.if-at.true) (y.last_took c.in_ok-take_token.ensures.takes)) (rw c.in_ok-take_token.ensures.takes.1)

pub returns-in_err-take_token-2-clause-gives : goal.returns-in_err-take_token-2-clause-gives
returns-in_err-take_token-2-clause-gives c = x.exits export_options _ _ _ c.from_residual-in_err-take_token-2.ensures.1 (x.other (x.next tokens.Ellipsis (left c.args.lexer.now) c.at.ensures c.if-at.false) (x.chosen (x.next tokens.AsKeyword (left c.args.lexer.now) c.at-2.ensures c.if-at-2.true) (x.here c.in_err-take_token-2.ensures.takes)))

pub returns-in_err-parse-clause-gives : goal.returns-in_err-parse-clause-gives
returns-in_err-parse-clause-gives c = x.exits export_options _ _ _ c.from_residual-in_err-parse.ensures.1 (x.other (x.next tokens.Ellipsis (left c.args.lexer.now) c.at.ensures c.if-at.false) (x.chosen (x.next tokens.AsKeyword (left c.args.lexer.now) c.at-2.ensures c.if-at-2.true) (x.took c.in_ok-take_token-2.ensures.takes (x.last c.in_err-parse.ensures.gives))))

pub returns-then-at-2-clause-gives : goal.returns-then-at-2-clause-gives
returns-then-at-2-clause-gives c = y.gives export_options (y.other (x.next tokens.Ellipsis (left c.args.lexer.now) c.at.ensures c.if-at.false) (y.chosen (x.next tokens.AsKeyword (left c.args.lexer.now) c.at-2.ensures c.if-at-2.true) (y.took c.in_ok-take_token-2.ensures.takes (y.last c.in_ok-parse.ensures.gives)))) refl

pub returns-clause-gives : goal.returns-clause-gives
returns-clause-gives c = y.gives export_options (y.other (x.next tokens.Ellipsis (left c.args.lexer.now) c.at.ensures c.if-at.false) (y.other (x.next tokens.AsKeyword (left c.args.lexer.now) c.at-2.ensures c.if-at-2.false) y.nothing)) refl
