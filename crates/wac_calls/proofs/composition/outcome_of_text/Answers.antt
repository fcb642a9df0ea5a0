use Rattle.std.proofs.Common.{◌∙◌, inl, inr, refl, sym}
use Rattle.wac_calls.proofs.composition.outcome_of_text.Goals as goal

pub returns-in-Some : goal.returns-in-Some
returns-in-Some c = inl (c.requires, (c.in-Some.span, sym c.first_deeper.ensures ∙ c.in-Some.is, refl))

pub returns-in-None : goal.returns-in-None
returns-in-None c = inr (λ _. sym c.first_deeper.ensures ∙ c.in-None.is, inr (c.requires, c.graphed.ensures))
