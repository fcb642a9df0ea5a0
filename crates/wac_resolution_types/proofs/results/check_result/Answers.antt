use Rattle.wac_resolution_types.proofs.Common.{◌∙◌}
use Rattle.wac_resolution_types.proofs.FuncParts.{borrow_is}
use Rattle.wac_resolution_types.proofs.results.check_result.Goals as goal

pub returns-then-contains_borrow-clause-borrow : goal.returns-then-contains_borrow-clause-borrow
returns-then-contains_borrow-clause-borrow c numbering = borrow_is c.args.state.now.graph c.types.result.now c.args.value c.contains_borrow.result c.types.ensures.types c.contains_borrow.ensures numbering ∙ c.if-contains_borrow.true

pub returns-clause-ok : goal.returns-clause-ok
returns-clause-ok c numbering = borrow_is c.args.state.now.graph c.types.result.now c.args.value c.contains_borrow.result c.types.ensures.types c.contains_borrow.ensures numbering ∙ c.if-contains_borrow.false
