use Rattle.wac_ast_statements.proofs.Common.{refl, peeks_one, peeks_on}
use Rattle.wac_lexer.specs.declared.token.Token.TheVariants as tokens
use Rattle.wac_ast_statements.proofs.expr.InstantiationArgumentPeek.peek.Goals as goal

pub returns-else-peek : goal.returns-else-peek
returns-else-peek c = peeks_on (peeks_one tokens.Ellipsis _ _ _ c.peek.ensures.found c.peek.ensures.kept) c.if-peek.false c.peek-else-peek.ensures refl refl
