use Rattle.wac_ast_statements.proofs.Common.{refl, peeks_on}
use Rattle.wac_ast_statements.proofs.expr.PostfixExprPeek.peek.Goals as goal

pub returns-else-peek : goal.returns-else-peek
returns-else-peek c = peeks_on c.peek.ensures c.if-peek.false c.peek-else-peek.ensures refl refl
