use Rattle.wac_ast_base.proofs.Common.{ap, ◌∙◌, lit<, strip_prefix_char, strip_suffix_char, without_last_quote}
use Rattle.wac_ast_base.proofs.Strips.{front_stripped, last_stripped}
use Rattle.wac_ast_base.proofs.names.between_quotes.Goals as goal

pub returns : goal.returns
returns c =
    let front = ap (λ r. r.now) c.unwrap_or-after.ensures ∙ front_stripped c.args.text c.strip_prefix.result (strip_prefix_char 34 c.args.text.now c.strip_prefix.result c.strip_prefix.ensures.cases (lit< tt)) in
    let last = ap (λ r. r.now) c.unwrap_or.ensures ∙ last_stripped c.unwrap_or-after.result c.strip_suffix.result (strip_suffix_char 34 c.unwrap_or-after.result.now c.strip_suffix.result c.strip_suffix.ensures.cases (lit< tt)) in
    last ∙ ap without_last_quote front
