use Rattle.wac_comments_layout.proofs.Common.{[], ◌∷◌, sym, ap, ◌∙◌, arith}
use Rattle.wac_comments_layout.proofs.Guided.{is_nil}
use Rattle.wac_comments_layout.proofs.Stepping.{end_step}
use Rattle.wac_comments_layout.proofs.standing.is_end.Goals as goal

pub returns : goal.returns
returns c = λ empty.
    sym c.after_blanks-end.ensures.same
    ∙ end_step c.args.bytes.now c.after_blanks-end.result (omega (arith, c.if-end-bytes.false))
    ∙ ap (λ text. text ∷ []) (sym (is_nil c.args.last.now (sym c.is_empty.ensures ∙ empty)))
