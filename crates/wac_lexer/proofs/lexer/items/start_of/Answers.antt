use Rattle.wac_lexer.proofs.Common.{◌≡◌, ◌+◌, length, drop, sym, ap, ◌∙◌, subst, IsCharBoundary}
use Rattle.wac_lexer.specs.Comments.{gap}
use Rattle.wac_lexer.proofs.Boundaries.{gap_boundary}
use Rattle.wac_lexer.proofs.lexer.items.start_of.Goals as goal

pub returns-clause-within : goal.returns-clause-within
returns-clause-within c =
    let rest = drop c.args.place c.args.source.now in
    let same : gap rest ≡ c.gap.result = ap gap (sym (c.as_bytes.ensures.value ∙ c.range_from-rest.ensures.value)) ∙ sym c.gap.ensures.len in
    subst (λ n. IsCharBoundary c.args.source.now (c.args.place + n)) same (gap_boundary c.args.source.now c.utf8.source (length rest) c.args.place c.requires)
