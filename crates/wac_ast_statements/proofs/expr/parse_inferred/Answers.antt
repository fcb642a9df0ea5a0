use Rattle.wac_ast_statements.proofs.Common.{left}
use Rattle.wac_ast_base.proofs.Exits as x
use Rattle.wac_ast_statements.proofs.ArgumentParts.{argument_inferred_ok, argument_inferred_fails}
use Rattle.wac_ast_statements.proofs.expr.parse_inferred.Goals as goal

pub returns-in_err-parse-clause-gives : goal.returns-in_err-parse-clause-gives
returns-in_err-parse-clause-gives c = x.passed _ _ _ _ _ _ c.from_residual.ensures.1 (argument_inferred_fails _ _ (left c.args.lexer.now) c.requires.no_dots c.requires.name c.requires.alone c.in_err-parse.ensures.gives)

pub returns-clause-gives : goal.returns-clause-gives
returns-clause-gives c = (argument_inferred_ok (left c.args.lexer.now) _ (left c.parse.new.lexer) c.requires.no_dots c.requires.name c.requires.alone c.in_ok-parse.ensures.gives.0, c.in_ok-parse.ensures.gives.1)
