use Rattle.std.proofs.Common.{refl}
use Rattle.wac_ast_grammar.specs.Grammar.{include_item}
use Rattle.wac_ast_base.proofs.Exits as x
use Rattle.wac_ast_base.proofs.Yields as y
use Rattle.wac_ast_uses.proofs.includes.WorldIncludeItemParse.parse.Goals as goal

pub returns-in_err-from-clause-gives : goal.returns-in_err-from-clause-gives
returns-in_err-from-clause-gives c = x.exits include_item _ _ _ c.from_residual.ensures.1 (x.here c.in_err-from.ensures.gives)

pub returns-in_err-take_token-clause-gives : goal.returns-in_err-take_token-clause-gives
returns-in_err-take_token-clause-gives c = x.exits include_item _ _ _ c.from_residual-in_err-take_token.ensures.1 (x.past c.in_ok-from.ensures.gives (x.here c.in_err-take_token.ensures.takes))

pub returns-in_err-to-clause-gives : goal.returns-in_err-to-clause-gives
returns-in_err-to-clause-gives c = x.exits include_item _ _ _ c.from_residual-in_err-to.ensures.1 (x.past c.in_ok-from.ensures.gives (x.took c.in_ok-take_token.ensures.takes (x.last c.in_err-to.ensures.gives)))

pub returns-clause-gives : goal.returns-clause-gives
returns-clause-gives c = y.gives include_item (y.past c.in_ok-from.ensures.gives (y.took c.in_ok-take_token.ensures.takes (y.last c.in_ok-to.ensures.gives))) refl
