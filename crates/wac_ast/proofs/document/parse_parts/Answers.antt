use Rattle.wac_ast.proofs.Common.{refl, document}
use Rattle.wac_ast_base.proofs.Exits as x
use Rattle.wac_ast_base.proofs.Yields as y
use Rattle.wac_ast.proofs.document.parse_parts.Goals as goal

pub returns-in_err-directive-clause-gives : goal.returns-in_err-directive-clause-gives
returns-in_err-directive-clause-gives c = x.exits document _ _ _ c.from_residual-in_err-directive.ensures.1 (x.with_docs (x.here c.in_err-directive.ensures.gives))

pub returns-in_err-statements-clause-gives : goal.returns-in_err-statements-clause-gives
returns-in_err-statements-clause-gives c = x.exits document _ _ _ c.from_residual-in_err-statements.ensures.1 (x.with_docs (x.past c.in_ok-directive.ensures.gives (x.last c.in_err-statements.ensures.gives)))

pub returns-clause-gives : goal.returns-clause-gives
returns-clause-gives c = y.gives document (y.docs_past c.in_ok-docs.ensures.docs c.in_ok-directive.ensures.gives refl (y.last c.in_ok-statements.ensures.gives)) refl
