use Rattle.wac_comments_layout.proofs.Common.{ℕ, sym, ap, ◌∙◌, List, length, drop, take, bytes_eq}
use denote.Bor.{Bor}
use lib.Pointwise.{pointwise}
use Rattle.wac_comments_layout.proofs.Among.{begin_with}
use Rattle.wac_comments_layout.proofs.printing.stand_at.Goals as goal

pub returns-then-not-may_stand_at : goal.returns-then-not-may_stand_at
returns-then-not-may_stand_at c = sym (c.may_stand_at.ensures c.if-not-may_stand_at.true)

pub returns : goal.returns
returns c =
    c.starts_with.ensures.value
    ∙ ap (λ rest. pointwise (λ (x y : Bor (List ℕ)). bytes_eq x.now y.now) c.args.these.now (take (length c.args.these.now) rest)) (c.split_at.ensures.back ∙ ap (λ n. drop n c.args.tokens.now) c.min.ensures)
    ∙ begin_with c.args.tokens.now c.args.these.now c.args.at
