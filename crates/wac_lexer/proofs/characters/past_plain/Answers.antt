use Rattle.wac_lexer.proofs.Common.{◌≡◌, ◌+◌, drop, sym, ap, ◌∙◌, subst, prefix_len, IsCharBoundary, chars}
use Rattle.wac_lexer.specs.Characters.{is_plain, refused_from}
use Rattle.wac_lexer.proofs.Refusals.{plain_boundary, plain_passes}
use Rattle.wac_lexer.proofs.characters.past_plain.Goals as goal
use Rattle.wac_lexer.proofs.characters.past_plain.Goals.{After-plain_len}

len_is : (c : After-plain_len) → c.plain_len.result ≡ prefix_len is_plain (drop c.args.place c.args.source.now)
len_is c = c.plain_len.ensures.len ∙ ap (prefix_len is_plain) (c.as_bytes.ensures.value ∙ c.split_at.ensures.back)

pub returns-clause-within : goal.returns-clause-within
returns-clause-within c =
    let source = c.args.source.now in
    subst (λ n. IsCharBoundary source (c.args.place + n)) (sym (len_is (goal.at.returns-clause-within c).After-plain_len)) (plain_boundary source c.args.place c.utf8.source c.requires)

pub returns-clause-passes : goal.returns-clause-passes
returns-clause-passes c =
    let source = c.args.source.now in
    ap (λ n. refused_from (c.args.place + n) (chars (drop (c.args.place + n) source))) (len_is (goal.at.returns-clause-passes c).After-plain_len)
    ∙ plain_passes source c.args.place c.utf8.source c.requires
