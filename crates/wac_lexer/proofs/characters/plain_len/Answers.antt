use Rattle.wac_lexer.proofs.Common.{◌+◌, ap, ◌∙◌, prefix_len}
use Rattle.wac_lexer.specs.Characters.{is_plain}
use Rattle.wac_lexer.proofs.Refusals.{blocks_len}
use Rattle.wac_lexer.proofs.characters.plain_len.Goals as goal

pub returns-clause-len : goal.returns-clause-len
returns-clause-len c =
    let len = c.plain_blocks-len in
    ap (λ n. len.result + n) (c.single_plain_len.ensures.len ∙ ap (prefix_len is_plain) c.split_at.ensures.back)
    ∙ blocks_len c.args.bytes.now len.result len.ensures.within len.ensures.plain
