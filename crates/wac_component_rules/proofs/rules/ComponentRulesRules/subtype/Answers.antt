use Rattle.std.proofs.Common.{◌≡◌, ◌∙◌, List, None, Some, ap, subst, sym}
use Rattle.wac_graph_types.specs.declared.entry.Entry.{Entry}
use Rattle.wac_graph_types.specs.Meaning.{meaning}
use Rattle.wac_component_rules.specs.Fits.{component_passes, does_not_fit, fits, unless}
use Rattle.wac_component_rules.specs.Seen.{seen}
use Rattle.wac_component_rules.proofs.rules.ComponentRulesRules.subtype.Goals as goal

pub returns-then-fitting : goal.returns-then-fitting
unfolding component_passes
returns-then-fitting c = λ o one.
    subst (λ (es : List Entry). unless does_not_fit (fits (seen (meaning o es c.args.a)) (seen (meaning o es c.args.b))) ≡ None) c.entries.ensures (ap (unless does_not_fit) (sym (c.fitting.ensures o) ∙ c.if-fitting.true))

pub returns-else-fitting : goal.returns-else-fitting
unfolding component_passes
returns-else-fitting c = λ o one.
    subst (λ (es : List Entry). unless does_not_fit (fits (seen (meaning o es c.args.a)) (seen (meaning o es c.args.b))) ≡ Some does_not_fit) c.entries.ensures (ap (unless does_not_fit) (sym (c.fitting.ensures o) ∙ c.if-fitting.false))
