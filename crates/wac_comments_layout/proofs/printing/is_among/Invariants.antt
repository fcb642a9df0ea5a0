use Rattle.wac_comments_layout.proofs.Common.{◌≡◌, false}
use Rattle.wac_comments_layout.specs.Printing.{now_of, is_among}
use Rattle.wac_comments_layout.proofs.printing.is_among.Given as goal

abbrev pub invariant-loop-back : goal.invariant-loop-back
invariant-loop-back l = is_among (now_of l.tokens) l.at (now_of l.these) l.back ≡ false
