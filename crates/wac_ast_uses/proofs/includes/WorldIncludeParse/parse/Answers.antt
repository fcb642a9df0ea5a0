use Rattle.wac_ast_uses.proofs.Built.{include_built}
use Rattle.wac_ast_grammar.specs.Grammar.{world_include}
use Rattle.wac_ast_base.proofs.Exits as x
use Rattle.wac_ast_base.proofs.Yields as y
use Rattle.wac_ast_uses.proofs.includes.WorldIncludeParse.parse.Goals as goal

pub returns-in_err-take_token-clause-gives : goal.returns-in_err-take_token-clause-gives
returns-in_err-take_token-clause-gives c = x.exits world_include _ _ _ c.from_residual-in_err-take_token.ensures.1 (x.with_docs (x.here c.in_err-take_token.ensures.takes))

pub returns-in_err-world-clause-gives : goal.returns-in_err-world-clause-gives
returns-in_err-world-clause-gives c = x.exits world_include _ _ _ c.from_residual-in_err-world.ensures.1 (x.with_docs (x.took c.in_ok-take_token.ensures.takes (x.here c.in_err-world.ensures.gives)))

pub returns-in_err-with-clause-gives : goal.returns-in_err-with-clause-gives
returns-in_err-with-clause-gives c = x.exits world_include _ _ _ c.from_residual-in_err-with.ensures.1 (x.with_docs (x.took c.in_ok-take_token.ensures.takes (x.past c.in_ok-world.ensures.gives (x.piece c.in_err-with.ensures.gives))))

pub returns-in_err-take_token-2-clause-gives : goal.returns-in_err-take_token-2-clause-gives
returns-in_err-take_token-2-clause-gives c = x.exits world_include _ _ _ c.from_residual-in_err-take_token-2.ensures.1 (x.with_docs (x.took c.in_ok-take_token.ensures.takes (x.past c.in_ok-world.ensures.gives (x.beyond c.in_ok-with.ensures.gives (x.last c.in_err-take_token-2.ensures.takes)))))

pub returns-clause-gives : goal.returns-clause-gives
returns-clause-gives c = y.gives world_include (y.docs_took c.in_ok-docs.ensures.docs c.in_ok-take_token.ensures.takes (y.past c.in_ok-world.ensures.gives (y.beyond c.in_ok-with.ensures.gives (y.last_took c.in_ok-take_token-2.ensures.takes)))) (rw (include_built _ _ _ c.in_ok-with.ensures.gives.part.0 _, c.in_ok-with.ensures.gives.part.2))
