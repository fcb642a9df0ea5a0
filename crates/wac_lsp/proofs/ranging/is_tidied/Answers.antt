use Rattle.std.proofs.Common.{◌∙◌, subst, sym}
use Rattle.wac_lsp.specs.Formatting.{IsTidyOf}
use Rattle.wac_lsp.proofs.Laid.{is_tidy}
use Rattle.wac_lsp.proofs.ranging.is_tidied.Goals as goal

pub returns-in-Ok : goal.returns-in-Ok
returns-in-Ok c =
    λ yes. subst (λ after. IsTidyOf c.args.options c.args.text.now after) (sym c.as_str.ensures.value ∙ c.is_text.ensures yes)
    (is_tidy _ _ _ c.in-Ok.ensures.kept c.in-Ok.ensures.formatted c.in-Ok.ensures.plain)
