use Rattle.wac_comments_layout.proofs.Common.{◌≡◌, sym, ap, ◌∙◌, arith, count_by, refused}
use Rattle.wac_comments_layout.specs.Nesting.{may_open, most}
use Rattle.wac_comments_layout.proofs.Shallow.{too_few}
use Rattle.wac_comments_layout.proofs.nesting.too_deep.Goals as goal

pub returns-then-brackets-le-MOST : goal.returns-then-brackets-le-MOST
returns-then-brackets-le-MOST c =
    let source = c.args.source.now in
    let few : c.brackets.result ≡ count_by may_open source = c.brackets.ensures ∙ ap (count_by may_open) c.as_bytes.ensures.value in
    sym (too_few most source (refused source) (omega (arith, few)))
