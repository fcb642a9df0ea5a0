use Rattle.std.proofs.Common.{inl, inr, refl, subst}
use Rattle.wac_calls.specs.Compositions.{ComesToGraph}
use Rattle.wac_calls.proofs.composition.outcome_of.Goals as goal

pub returns-in-Ok : goal.returns-in-Ok
returns-in-Ok c =
    subst (λ s. ComesToGraph c.args.limit s c.args.packages.now c.outcome_of_text.result) c.in-Ok.ensures.cases.0 c.outcome_of_text.ensures

pub returns-in-Err : goal.returns-in-Err
returns-in-Err c =
    let none = c.in-Err.ensures.cases.0 in
    inr (λ utf8. absurd (none utf8), inl (none, refl))
