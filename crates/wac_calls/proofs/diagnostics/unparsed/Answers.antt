use Rattle.std.proofs.Common.{subst, sym}
use Rattle.wac_ast_base.specs.Error.{told_by}
use Rattle.wac_calls.specs.Rejecting.{IsOfError}
use Rattle.wac_calls.specs.declared.outcome.Outcome.{Outcome}
use Rattle.wac_calls.proofs.diagnostics.unparsed.Goals as goal

pub returns-in-Ok : goal.returns-in-Ok
returns-in-Ok c =
    let says = c.in-Ok.ensures.says in
    subst (λ (o : Outcome). IsOfError (told_by c.args.error.now) o) (sym c.rejected.ensures) (says.has_place, says.has_message, c.in-Ok.ensures.memory)
