use Rattle.wac_comments_layout.proofs.Common.{sym, ap, ◌∙◌}
use Rattle.wac_comments_layout.specs.Printing.{may_go, now_of}
use Rattle.wac_comments_layout.proofs.Among.{far_from_nothing, stays}
use Rattle.wac_comments_layout.proofs.printing.goes.Goals as goal

pub returns-then-not-may_go : goal.returns-then-not-may_go
returns-then-not-may_go c =
    sym (stays (now_of c.args.tokens.now) c.args.at c.args.around (ap may_go (sym c.token_at.ensures) ∙ sym c.may_go.ensures ∙ c.if-not-may_go.true))

pub returns-then-not-is_near_nothing : goal.returns-then-not-is_near_nothing
returns-then-not-is_near_nothing c =
    c.goes_far_from_nothing.ensures
    ∙ far_from_nothing (now_of c.args.tokens.now) c.args.at c.args.around (sym c.is_near_nothing.ensures ∙ c.if-not-is_near_nothing.true)
