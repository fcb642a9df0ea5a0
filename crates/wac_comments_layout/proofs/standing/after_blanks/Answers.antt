use Rattle.wac_comments_layout.proofs.Common.{length, ap, ◌∙◌, arith, prefix_len, length-drop, is_blank}
use Rattle.wac_comments_layout.proofs.Guided.{blanks_passed}
use Rattle.wac_comments_layout.proofs.standing.after_blanks.Goals as goal

pub returns-clause-same : goal.returns-clause-same
returns-clause-same c =
    let bytes = c.args.bytes.now in
    let rest = c.rest.ensures in
    blanks_passed bytes c.args.place c.blanks_len.result (c.blanks_len.ensures.len ∙ ap (prefix_len is_blank) rest)
    (omega (arith, c.requires, c.blanks_len.ensures.within, ap length rest, length-drop c.args.place bytes))
