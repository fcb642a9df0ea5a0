use Rattle.wac_ast_types.proofs.Common.{constructor}
use Rattle.wac_ast_base.proofs.Exits as x
use Rattle.wac_ast_base.proofs.Yields as y
use Rattle.wac_ast_types.proofs.resource.ConstructorParse.parse.Goals as goal

pub returns-in_err-span-clause-gives : goal.returns-in_err-span-clause-gives
returns-in_err-span-clause-gives c = x.exits constructor _ _ _ c.from_residual-in_err-span.ensures.1 (x.with_docs (x.here c.in_err-span.ensures.takes))

pub returns-in_err-take_token-clause-gives : goal.returns-in_err-take_token-clause-gives
returns-in_err-take_token-clause-gives c = x.exits constructor _ _ _ c.from_residual-in_err-take_token.ensures.1 (x.with_docs (x.took c.in_ok-span.ensures.takes (x.here c.in_err-take_token.ensures.takes)))

pub returns-in_err-params-clause-gives : goal.returns-in_err-params-clause-gives
returns-in_err-params-clause-gives c = x.exits constructor _ _ _ c.from_residual-in_err-params.ensures.1 (x.with_docs (x.took c.in_ok-span.ensures.takes (x.took c.in_ok-take_token.ensures.takes (x.here (x.same_error _ _ _ c.in_err-params.ensures.takes)))))

pub returns-in_err-take_token-2-clause-gives : goal.returns-in_err-take_token-2-clause-gives
returns-in_err-take_token-2-clause-gives c = x.exits constructor _ _ _ c.from_residual-in_err-take_token-2.ensures.1 (x.with_docs (x.took c.in_ok-span.ensures.takes (x.took c.in_ok-take_token.ensures.takes (x.listed c.in_ok-params.ensures.takes (x.last c.in_err-take_token-2.ensures.takes)))))

pub returns-clause-gives : goal.returns-clause-gives
returns-clause-gives c = y.gives constructor (y.docs_took c.in_ok-docs.ensures.docs c.in_ok-span.ensures.takes (y.took c.in_ok-take_token.ensures.takes (y.listed c.in_ok-params.ensures.takes (y.last_took c.in_ok-take_token-2.ensures.takes)))) (rw c.in_ok-span.ensures.takes.1)
