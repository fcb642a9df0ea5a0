use Rattle.std.proofs.Common.{subst}
use Rattle.std.specs.Prelude.{string_bytes}
use Rattle.wac_lsp_texts.specs.Changed.{Changes}
use Rattle.wac_lsp.proofs.Laid.{laid_out}
use Rattle.wac_lsp.proofs.formatting.changes_to_tidy.Goals as goal

pub returns-in-Ok-Some : goal.returns-in-Ok-Some
returns-in-Ok-Some c =
    let makes = rw c.in-Ok-Some.field-0-is at c.in-Ok-Some.ensures in
    laid_out _ _ _ _ (string_bytes c.in-Ok.after)
    (subst (λ after. Changes c.args.unit c.args.text.now c.in-Ok-Some.changes.items after) c.as_str.ensures.value makes) c.in-Ok.ensures.kept c.in-Ok.ensures.formatted c.in-Ok.ensures.plain
