use Rattle.std.proofs.Common.{sym, subst, string_bytes}
use Rattle.wac_comments.specs.Tidied.{IsFormatted, ReadsBackAs}
use Rattle.wac_comments.proofs.Alike.{on_ok, same_tree}
use Rattle.wac_comments.proofs.tidying.tidied.Goals as goal

pub tested-requires-clause-back : goal.tested-requires-clause-back
tested-requires-clause-back c = subst (ReadsBackAs c.args.source.now) (sym c.as_str.ensures.value) c.in_ok-formatted.ensures.back

pub returns-in-Ok-clause-formatted : goal.returns-in-Ok-clause-formatted
returns-in-Ok-clause-formatted c =
    let source = c.args.source.now in
    let formatted = c.as_str.result.now in
    let first = subst (ReadsBackAs source) (sym c.as_str.ensures.value) c.in_ok-formatted.ensures.back in
    on_ok c.tested.result (λ text back. same_tree source (string_bytes text) formatted first back) c.tested.ensures.back

pub returns-in-Ok-clause-plain : goal.returns-in-Ok-clause-plain
returns-in-Ok-clause-plain c =
    let is = subst (IsFormatted c.args.indent.now c.args.source.now) (sym c.as_str.ensures.value) c.in_ok-formatted.ensures.found in
    on_ok c.tested.result (λ text plain none. (c.as_str.result.now, is, plain none)) c.tested.ensures.plain
