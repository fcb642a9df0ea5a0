use Rattle.wac_comments_layout.proofs.Common.{sym, ◌∙◌}
use Rattle.wac_comments_layout.specs.Printing.{now_of}
use Rattle.wac_comments_layout.proofs.Among.{found}
use Rattle.wac_comments_layout.proofs.printing.is_among.Goals as goal

pub returns-then-stand_at : goal.returns-then-stand_at
returns-then-stand_at c =
    sym (found (now_of c.args.tokens.now) (now_of c.args.these.now) c.args.at c.args.count c.loop-back.back c.loop-back-test.true c.if-back-at.true (sym c.stand_at.ensures ∙ c.if-stand_at.true))
