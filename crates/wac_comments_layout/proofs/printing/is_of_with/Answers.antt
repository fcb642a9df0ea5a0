use Rattle.wac_comments_layout.proofs.Common.{sym, ap, ◌∙◌}
use Rattle.wac_comments_layout.specs.Printing.{may_be_of_with, now_of}
use Rattle.wac_comments_layout.proofs.Among.{none_of_with}
use Rattle.wac_comments_layout.proofs.printing.is_of_with.Goals as goal

pub returns-then-not-may_be_of_with : goal.returns-then-not-may_be_of_with
returns-then-not-may_be_of_with c =
    sym (none_of_with (now_of c.args.tokens.now) c.args.at (ap may_be_of_with (sym c.token_at.ensures) ∙ sym c.may_be_of_with.ensures ∙ c.if-not-may_be_of_with.true))
