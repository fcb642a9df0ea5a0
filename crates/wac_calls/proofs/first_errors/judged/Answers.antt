use Rattle.std.proofs.Common.{inr, subst, true}
use Rattle.wac_first_error.specs.Verdicts.{IsVerdict}
use Rattle.wac_calls.proofs.first_errors.judged.Goals as goal

pub returns-in-Ok : goal.returns-in-Ok
returns-in-Ok c =
    let is = subst (λ v. IsVerdict c.args.bytes.now true v) c.in-Rejected.is c.requires in
    rw c.into_bytes.ensures.value (inr (c.in-Ok.ensures, (c.in-Rejected.diagnostic, is)))
