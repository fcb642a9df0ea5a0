use Rattle.std.proofs.Common.{subst}
use Rattle.std.proofs.lemmas.Result.{IfOk-weaker}
use Rattle.std.specs.Prelude.{string_bytes}
use Rattle.wac_lsp.specs.Formatting.{IsTidyOf}
use Rattle.wac_lsp.proofs.ranging.leave_tidy.Goals as goal

pub returns-in-Ok : goal.returns-in-Ok
returns-in-Ok c =
    IfOk-weaker c.is_tidied.result _ _
    (λ yes tidies is. (string_bytes c.in-Ok.made, c.in-Ok.ensures, subst (λ made. IsTidyOf c.args.options made c.args.pair.after.now) c.as_str.ensures.value (tidies is)))
    c.is_tidied.ensures
