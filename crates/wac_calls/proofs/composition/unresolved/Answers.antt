use Rattle.std.proofs.Common.{subst, sym}
use Rattle.wac_calls.specs.declared.outcome.Outcome.{Outcome}
use Rattle.wac_calls.specs.Compositions.{IsOfDocument}
use Rattle.wac_calls.proofs.composition.unresolved.Goals as goal

pub returns-in-Ok : goal.returns-in-Ok
returns-in-Ok c = subst (λ (o : Outcome). IsOfDocument o) (sym c.rejected.ensures) tt
