use Rattle.wac_ast_grammar.specs.Grammar.{use_statement}
use Rattle.wac_ast_base.proofs.Exits as x
use Rattle.wac_ast_base.proofs.Yields as y
use Rattle.wac_ast_uses.proofs.uses.UseParse.parse.Goals as goal

pub returns-in_err-take_token-clause-gives : goal.returns-in_err-take_token-clause-gives
returns-in_err-take_token-clause-gives c = x.exits use_statement _ _ _ c.from_residual-in_err-take_token.ensures.1 (x.with_docs (x.here c.in_err-take_token.ensures.takes))

pub returns-in_err-path-clause-gives : goal.returns-in_err-path-clause-gives
returns-in_err-path-clause-gives c = x.exits use_statement _ _ _ c.from_residual-in_err-path.ensures.1 (x.with_docs (x.took c.in_ok-take_token.ensures.takes (x.here c.in_err-path.ensures.gives)))

pub returns-in_err-take_token-2-clause-gives : goal.returns-in_err-take_token-2-clause-gives
returns-in_err-take_token-2-clause-gives c = x.exits use_statement _ _ _ c.from_residual-in_err-take_token-2.ensures.1 (x.with_docs (x.took c.in_ok-take_token.ensures.takes (x.past c.in_ok-path.ensures.gives (x.here c.in_err-take_token-2.ensures.takes))))

pub returns-in_err-items-clause-gives : goal.returns-in_err-items-clause-gives
returns-in_err-items-clause-gives c = x.exits use_statement _ _ _ c.from_residual-in_err-items.ensures.1 (x.with_docs (x.took c.in_ok-take_token.ensures.takes (x.past c.in_ok-path.ensures.gives (x.took c.in_ok-take_token-2.ensures.takes (x.last_piece c.in_err-items.ensures.gives)))))

pub returns-clause-gives : goal.returns-clause-gives
returns-clause-gives c = y.gives use_statement (y.docs_took c.in_ok-docs.ensures.docs c.in_ok-take_token.ensures.takes (y.past c.in_ok-path.ensures.gives (y.took c.in_ok-take_token-2.ensures.takes (y.last_piece c.in_ok-items.ensures.gives)))) (rw c.in_ok-items.ensures.gives.part.2)
