use Rattle.wac_ast_statements.proofs.Common.{refl, ◌∙◌, left, argument, read, fails_bind, never_fails, same_fails, moved_end}
use Rattle.wac_lexer.specs.declared.token.Token.TheVariants as tokens
use Rattle.wac_ast_base.proofs.Exits as x
use Rattle.wac_ast_statements.proofs.ArgumentParts.{argument_fill, argument_spread}
use Rattle.wac_ast_statements.proofs.expr.parse_dots.Goals as goal

pub returns-in_err-dots-clause-gives : goal.returns-in_err-dots-clause-gives
returns-in_err-dots-clause-gives c = x.passed _ _ _ _ _ (read argument (left c.args.lexer.now)) c.from_residual.ensures.1 (never_fails _ _ tokens.Ellipsis (left c.args.lexer.now) (read argument (left c.args.lexer.now)) refl c.requires c.in_err-dots.ensures.takes)

pub returns-then-argument_ends-clause-gives : goal.returns-then-argument_ends-clause-gives
returns-then-argument_ends-clause-gives c =
    let dots = c.in_ok-dots.ensures.takes in
    (rw dots.1 (argument_fill (left c.args.lexer.now) _ (left c.take_token.new.lexer) c.requires dots.0 (x.tested c.argument_ends.ensures c.if-argument_ends.true)), dots.2)

pub returns-in_err-parse-clause-gives : goal.returns-in_err-parse-clause-gives
returns-in_err-parse-clause-gives c =
    let dots = c.in_ok-dots.ensures.takes in
    x.passed _ _ _ _ _ _ c.from_residual-in_err-parse.ensures.1 (same_fails _ _ _ _ (argument_spread (left c.args.lexer.now) _ (left c.take_token.new.lexer) c.requires dots.0 (x.tested c.argument_ends.ensures c.if-argument_ends.false)) (fails_bind _ _ _ _ (moved_end _ _ _ _ dots.2 c.in_err-parse.ensures.gives)))

pub returns-clause-gives : goal.returns-clause-gives
returns-clause-gives c =
    let dots = c.in_ok-dots.ensures.takes in
    let id = c.in_ok-parse.ensures.gives in
    (rw (argument_spread (left c.args.lexer.now) _ (left c.take_token.new.lexer) c.requires dots.0 (x.tested c.argument_ends.ensures c.if-argument_ends.false), id.0) refl, id.1 ∙ dots.2)
