use Rattle.wac_comments_layout.proofs.Common.{◌++◌, sym, ap, ◌∙◌}
use Rattle.wac_comments_layout.proofs.LineEnds.{ends_stay}
use Rattle.wac_comments_layout.proofs.without_comments.ended_by.Goals as goal

pub returns : goal.returns
returns c =
    c.in_ok-extend_from_slice.ensures.items
    ∙ ap (λ found. found ++ c.args.bytes.now) c.in_ok-found.ensures.items
    ∙ ends_stay c.args.line_end.now c.args.bytes.now (sym c.is_mark.ensures ∙ c.if-not-is_mark.false)
