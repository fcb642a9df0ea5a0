use Rattle.wac_ast_grammar.specs.Grammar.{let_statement}
use Rattle.wac_ast_base.proofs.Exits as x
use Rattle.wac_ast_base.proofs.Yields as y
use Rattle.wac_ast_statements.proofs.let_statement.LetStatementParse.parse.Goals as goal

pub returns-in_err-take_token-clause-gives : goal.returns-in_err-take_token-clause-gives
returns-in_err-take_token-clause-gives c = x.exits let_statement _ _ _ c.from_residual-in_err-take_token.ensures.1 (x.with_docs (x.here c.in_err-take_token.ensures.takes))

pub returns-in_err-id-clause-gives : goal.returns-in_err-id-clause-gives
returns-in_err-id-clause-gives c = x.exits let_statement _ _ _ c.from_residual-in_err-id.ensures.1 (x.with_docs (x.took c.in_ok-take_token.ensures.takes (x.here c.in_err-id.ensures.gives)))

pub returns-in_err-take_token-2-clause-gives : goal.returns-in_err-take_token-2-clause-gives
returns-in_err-take_token-2-clause-gives c = x.exits let_statement _ _ _ c.from_residual-in_err-take_token-2.ensures.1 (x.with_docs (x.took c.in_ok-take_token.ensures.takes (x.past c.in_ok-id.ensures.gives (x.here c.in_err-take_token-2.ensures.takes))))

pub returns-in_err-expr-clause-gives : goal.returns-in_err-expr-clause-gives
returns-in_err-expr-clause-gives c = x.exits let_statement _ _ _ c.from_residual-in_err-expr.ensures.1 (x.with_docs (x.took c.in_ok-take_token.ensures.takes (x.past c.in_ok-id.ensures.gives (x.took c.in_ok-take_token-2.ensures.takes (x.last_piece c.in_err-expr.ensures.gives)))))

pub returns-clause-gives : goal.returns-clause-gives
returns-clause-gives c = y.gives let_statement (y.docs_took c.in_ok-docs.ensures.docs c.in_ok-take_token.ensures.takes (y.past c.in_ok-id.ensures.gives (y.took c.in_ok-take_token-2.ensures.takes (y.last_piece c.in_ok-expr.ensures.gives)))) (rw c.in_ok-expr.ensures.gives.part.2)
