use Rattle.wac_ast_base.proofs.Common.{◌∙◌, left}
use Rattle.wac_ast_base.specs.Answer.{first_item}
use Rattle.wac_ast_base.specs.Lists.{list_of}
use Rattle.wac_ast_base.proofs.Exits.{same_error}
use Rattle.wac_ast_base.proofs.Lists.{closes_plain, closed_by, closed_fails, never_fails, list_made_fails, moved_end}
use Rattle.wac_ast_base.proofs.delimited.parse_list.Goals as goal

pub returns-in_err-items-clause-takes : goal.returns-in_err-items-clause-takes
returns-in_err-items-clause-takes g c = list_made_fails _ _ _ _ _ _ _ c.from_residual.ensures.1 (closed_fails _ _ _ (same_error _ _ _ c.in_err-items.ensures.gives))

pub returns-in_err-last-clause-takes : goal.returns-in_err-last-clause-takes
returns-in_err-last-clause-takes g c = list_made_fails _ _ _ _ _ _ _ c.from_residual-in_err-last.ensures.1 (moved_end _ _ _ _ c.in_ok-items.ensures.gives.1 (never_fails _ _ c.args.until (left c.parse_items.new.lexer) (list_of g.T.Parse.symbol (left c.args.lexer.now)) (closes_plain _ _ c.requires.listed) c.in_ok-items.ensures.closed c.in_err-last.ensures.takes))

pub returns-clause-takes : goal.returns-clause-takes
returns-clause-takes g c =
    let items = c.in_ok-items.ensures in
    let last = c.in_ok-last.ensures.takes in
    (first_item (left c.parse_items.new.lexer), closed_by c.args.until (closes_plain _ _ c.requires.listed) _ _ _ _ _ items.gives.0 items.closed last.0, last.1, last.2 ∙ items.gives.1)
