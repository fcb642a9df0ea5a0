use Rattle.wac_ast_statements.proofs.Built.{directive_built}
use Rattle.wac_ast_grammar.specs.Grammar.{directive}
use Rattle.wac_ast_base.proofs.Exits as x
use Rattle.wac_ast_base.proofs.Yields as y
use Rattle.wac_ast_statements.proofs.directive.PackageDirectiveParse.parse.Goals as goal

pub returns-in_err-take_token-clause-gives : goal.returns-in_err-take_token-clause-gives
returns-in_err-take_token-clause-gives c = x.exits directive _ _ _ c.from_residual.ensures.1 (x.here c.in_err-take_token.ensures.takes)

pub returns-in_err-package-clause-gives : goal.returns-in_err-package-clause-gives
returns-in_err-package-clause-gives c = x.exits directive _ _ _ c.from_residual-in_err-package.ensures.1 (x.took c.in_ok-take_token.ensures.takes (x.here c.in_err-package.ensures.gives))

pub returns-in_err-targets-clause-gives : goal.returns-in_err-targets-clause-gives
returns-in_err-targets-clause-gives c = x.exits directive _ _ _ c.from_residual-in_err-targets.ensures.1 (x.took c.in_ok-take_token.ensures.takes (x.past c.in_ok-package.ensures.gives (x.piece c.in_err-targets.ensures.gives)))

pub returns-in_err-take_token-2-clause-gives : goal.returns-in_err-take_token-2-clause-gives
returns-in_err-take_token-2-clause-gives c = x.exits directive _ _ _ c.from_residual-in_err-take_token-2.ensures.1 (x.took c.in_ok-take_token.ensures.takes (x.past c.in_ok-package.ensures.gives (x.beyond c.in_ok-targets.ensures.gives (x.last c.in_err-take_token-2.ensures.takes))))

pub returns-clause-gives : goal.returns-clause-gives
returns-clause-gives c = y.gives directive (y.took c.in_ok-take_token.ensures.takes (y.past c.in_ok-package.ensures.gives (y.beyond c.in_ok-targets.ensures.gives (y.last_took c.in_ok-take_token-2.ensures.takes)))) (rw (directive_built _ _ c.in_ok-targets.ensures.gives.part.0 _, c.in_ok-targets.ensures.gives.part.2))
