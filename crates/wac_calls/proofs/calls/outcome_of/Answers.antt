use Rattle.std.proofs.Common.{inr, subst}
use Rattle.wac_calls.specs.Calls.{Comes}
use Rattle.wac_calls.proofs.calls.outcome_of.Goals as goal

pub returns-in-Ok : goal.returns-in-Ok
returns-in-Ok c = subst (λ s. Comes c.args.task s c.outcome_of_text.result) c.in-Ok.ensures.cases.0 c.outcome_of_text.ensures

pub returns-in-Err : goal.returns-in-Err
returns-in-Err c = inr (λ utf8. absurd (c.in-Err.ensures.cases.0 utf8), c.said_of_bytes.ensures)
