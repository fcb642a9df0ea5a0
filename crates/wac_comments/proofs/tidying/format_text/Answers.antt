use Rattle.std.proofs.Common.{sym, ◌∙◌}
use Rattle.wac_comments.proofs.Alike.{is_refusal}
use Rattle.wac_comments.proofs.tidying.format_text.Goals as goal

pub returns-in-Ok-clause-back : goal.returns-in-Ok-clause-back
returns-in-Ok-clause-back c =
    let back = c.in-Ok.ensures.again c.requires in
    (back.0, back.1, back.2.reread)

pub returns-else-is_memory-clause-only : goal.returns-else-is_memory-clause-only
returns-else-is_memory-clause-only c = is_refusal c.args.source.now c.in-Err.error (sym c.is_memory.ensures ∙ c.if-is_memory.false) c.in-Err.ensures.error
