use Rattle.wac_ast_grammar.specs.Grammar.{export_statement}
use Rattle.wac_ast_base.proofs.Exits as x
use Rattle.wac_ast_base.proofs.Yields as y
use Rattle.wac_ast_statements.proofs.export.ExportStatementParse.parse.Goals as goal

pub returns-in_err-take_token-clause-gives : goal.returns-in_err-take_token-clause-gives
returns-in_err-take_token-clause-gives c = x.exits export_statement _ _ _ c.from_residual-in_err-take_token.ensures.1 (x.with_docs (x.here c.in_err-take_token.ensures.takes))

pub returns-in_err-expr-clause-gives : goal.returns-in_err-expr-clause-gives
returns-in_err-expr-clause-gives c = x.exits export_statement _ _ _ c.from_residual-in_err-expr.ensures.1 (x.with_docs (x.took c.in_ok-take_token.ensures.takes (x.here c.in_err-expr.ensures.gives)))

pub returns-in_err-options-clause-gives : goal.returns-in_err-options-clause-gives
returns-in_err-options-clause-gives c = x.exits export_statement _ _ _ c.from_residual-in_err-options.ensures.1 (x.with_docs (x.took c.in_ok-take_token.ensures.takes (x.past c.in_ok-expr.ensures.gives (x.last_piece c.in_err-options.ensures.gives))))

pub returns-clause-gives : goal.returns-clause-gives
returns-clause-gives c = y.gives export_statement (y.docs_took c.in_ok-docs.ensures.docs c.in_ok-take_token.ensures.takes (y.past c.in_ok-expr.ensures.gives (y.last_piece c.in_ok-options.ensures.gives))) (rw c.in_ok-options.ensures.gives.part.2)
