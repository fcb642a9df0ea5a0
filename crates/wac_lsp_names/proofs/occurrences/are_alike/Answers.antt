use Rattle.std.proofs.Common.{refl, rules}
use Rattle.wac_lsp_names.proofs.Spans.{all_alike, one_more_alike}
use Rattle.wac_lsp_names.proofs.occurrences.are_alike.Goals as goal

pub loop-span-preserved : goal.loop-span-preserved
loop-span-preserved c =
    one_more_alike c.args.source.now c.args.bound c.args.spans.now c.loop-span.span-index c.span-item.result c.loop-span.invariant c.loop-span-test.true c.span-item.is
    (c.is_alike.ensures.0 (search rules))

pub returns : goal.returns
returns c = (λ _. all_alike c.args.source.now c.args.bound c.args.spans.now c.loop-span.span-index c.loop-span.invariant c.loop-span-test.false, λ _. refl)
