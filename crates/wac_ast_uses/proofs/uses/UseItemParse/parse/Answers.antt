use Rattle.wac_ast_uses.proofs.Built.{use_item_built}
use Rattle.wac_ast_grammar.specs.Grammar.{use_item}
use Rattle.wac_ast_base.proofs.Exits as x
use Rattle.wac_ast_base.proofs.Yields as y
use Rattle.wac_ast_uses.proofs.uses.UseItemParse.parse.Goals as goal

pub returns-in_err-id-clause-gives : goal.returns-in_err-id-clause-gives
returns-in_err-id-clause-gives c = x.exits use_item _ _ _ c.from_residual.ensures.1 (x.here c.in_err-id.ensures.gives)

pub returns-in_err-as_id-clause-gives : goal.returns-in_err-as_id-clause-gives
returns-in_err-as_id-clause-gives c = x.exits use_item _ _ _ c.from_residual-in_err-as_id.ensures.1 (x.past c.in_ok-id.ensures.gives (x.last_piece c.in_err-as_id.ensures.gives))

pub returns-clause-gives : goal.returns-clause-gives
returns-clause-gives c = y.gives use_item (y.past c.in_ok-id.ensures.gives (y.last_piece c.in_ok-as_id.ensures.gives)) (rw (use_item_built _ c.in_ok-as_id.ensures.gives.part.0, c.in_ok-as_id.ensures.gives.part.2))
