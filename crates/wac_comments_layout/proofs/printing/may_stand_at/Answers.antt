use Rattle.wac_comments_layout.proofs.Common.{ℕ, List, ◌<◌, length, sym, ◌∙◌, arith, nat_eq, length-map, ne_zero}
use denote.Bor.{Bor}
use Rattle.wac_comments_layout.specs.Printing.{now_of}
use Rattle.wac_comments_layout.proofs.Among.{other_length}
use Rattle.wac_comments_layout.proofs.printing.may_stand_at.Goals as goal

pub returns-else-is_empty : goal.returns-else-is_empty
returns-else-is_empty c differs =
    let tokens = now_of c.args.tokens.now in
    let these = now_of c.args.these.now in
    let some : 0 < length these = omega (arith, ne_zero (length c.args.these.now) (sym c.if-is_empty.ensures), length-map c.args.these.now (λ (t : Bor (List ℕ)). t.now)) in
    other_length tokens these c.args.at some
    ((λ i. nat_eq (length (sym c.token_at.ensures i)) (length (sym c.token_at-else-is_empty.ensures i))) ∙ differs)
