use Rattle.std.proofs.Common.{sym, ◌∙◌}
use Rattle.wac_lsp.proofs.Edited.{same_after}
use Rattle.wac_lsp.proofs.formatting.tested.Goals as goal

pub returns-then-is_text : goal.returns-then-is_text
returns-then-is_text c =
    same_after _ _ _ _ _ _ c.as_slice.ensures.value (sym c.as_str.ensures.value ∙ c.is_text.ensures c.if-is_text.true) c.in-Ok.ensures
