use Rattle.wac_ast_types.proofs.Common.{refl, result_list, results_of}
use Rattle.wac_lexer.specs.declared.token.Token.TheVariants as tokens
use Rattle.wac_ast_types.specs.Declarations.{result_list_of}
use Rattle.wac_ast_base.proofs.Exits as x
use Rattle.wac_ast_base.proofs.Yields as y
use Rattle.wac_ast_types.proofs.OptionalParts.{passed_on}
use Rattle.wac_ast_types.proofs.func_type.parse_results.Goals as goal

pub returns-in_err-take_optional-clause-gives : goal.returns-in_err-take_optional-clause-gives
returns-in_err-take_optional-clause-gives c = x.part_exits _ c.from_residual.ensures.1 (x.no_option c.in_err-take_optional.ensures.takes)

pub returns-then-branch-clause-gives : goal.returns-then-branch-clause-gives
returns-then-branch-clause-gives c = passed_on tokens.Arrow result_list results_of result_list_of c.args.lexer.now c.take_optional.new.lexer c.parse.new.lexer c.parse.result (λ i p. refl) c.if-branch.true c.in_ok-take_optional.ensures.takes c.parse.ensures.gives

pub returns-clause-gives : goal.returns-clause-gives
returns-clause-gives c = y.part (y.no_option c.if-branch.false c.in_ok-take_optional.ensures.takes) refl
