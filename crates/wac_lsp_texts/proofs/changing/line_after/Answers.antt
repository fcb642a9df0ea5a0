use Rattle.std.proofs.Common.{◌∙◌, sym}
use Rattle.wac_lsp_texts.proofs.Keeping.{kept_after, same_bool}
use Rattle.wac_lsp_texts.proofs.changing.line_after.Goals as goal

pub returns-then-feeds_at-feeds : goal.returns-then-feeds_at-feeds
returns-then-feeds_at-feeds c text new to starts feeds is =
    kept_after text new c.args.after.now c.args.line.line c.args.line.offset c.args.from to c.args.feeds starts c.if-line-from.true c.if-line-after.true is feeds (sym c.feeds_at.ensures ∙ same_bool _ _ c.if-feeds_at-feeds.true)
