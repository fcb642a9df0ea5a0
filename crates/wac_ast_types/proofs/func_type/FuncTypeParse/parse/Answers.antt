use Rattle.wac_lexer.specs.declared.token.Token.TheVariants as tokens
use Rattle.wac_ast_types.proofs.Common.{func_type, optional_token}
use Rattle.wac_ast_base.proofs.Exits as x
use Rattle.wac_ast_base.proofs.Yields as y
use Rattle.wac_ast_types.proofs.func_type.FuncTypeParse.parse.Goals as goal

pub returns-in_err-is_async-clause-gives : goal.returns-in_err-is_async-clause-gives
returns-in_err-is_async-clause-gives c = x.exits func_type _ _ _ c.from_residual.ensures.1 (x.no_word c.in_err-is_async.ensures.takes)

pub returns-in_err-take_token-clause-gives : goal.returns-in_err-take_token-clause-gives
returns-in_err-take_token-clause-gives c = x.exits func_type _ _ _ c.from_residual-in_err-take_token.ensures.1 (x.word c.in_ok-is_async.is_async c.take_optional.new.lexer c.in_ok-is_async.ensures.takes (x.here c.in_err-take_token.ensures.takes))

pub returns-in_err-take_token-2-clause-gives : goal.returns-in_err-take_token-2-clause-gives
returns-in_err-take_token-2-clause-gives c = x.exits func_type _ _ _ c.from_residual-in_err-take_token-2.ensures.1 (x.word c.in_ok-is_async.is_async c.take_optional.new.lexer c.in_ok-is_async.ensures.takes (x.took c.in_ok-take_token.ensures.takes (x.here c.in_err-take_token-2.ensures.takes)))

pub returns-in_err-params-clause-gives : goal.returns-in_err-params-clause-gives
returns-in_err-params-clause-gives c = x.exits func_type _ _ _ c.from_residual-in_err-params.ensures.1 (x.word c.in_ok-is_async.is_async c.take_optional.new.lexer c.in_ok-is_async.ensures.takes (x.took c.in_ok-take_token.ensures.takes (x.took c.in_ok-take_token-2.ensures.takes (x.here (x.same_error _ _ _ c.in_err-params.ensures.takes)))))

pub returns-in_err-results-clause-gives : goal.returns-in_err-results-clause-gives
returns-in_err-results-clause-gives c = x.exits func_type _ _ _ c.from_residual-in_err-results.ensures.1 (x.word c.in_ok-is_async.is_async c.take_optional.new.lexer c.in_ok-is_async.ensures.takes (x.took c.in_ok-take_token.ensures.takes (x.took c.in_ok-take_token-2.ensures.takes (x.listed c.in_ok-params.ensures.takes (x.last_piece c.in_err-results.ensures.gives)))))

pub returns-clause-gives : goal.returns-clause-gives
returns-clause-gives c =
    let word = optional_token tokens.AsyncKeyword c.in_ok-is_async.is_async c.args.lexer.now c.take_optional.new.lexer c.in_ok-is_async.ensures.takes in
    y.gives func_type (y.both (y.last (word.1, word.3)) (y.took c.in_ok-take_token.ensures.takes (y.took c.in_ok-take_token-2.ensures.takes (y.listed c.in_ok-params.ensures.takes (y.last_piece c.in_ok-results.ensures.gives))))) (rw (word.2, c.in_ok-results.ensures.gives.part.2))
