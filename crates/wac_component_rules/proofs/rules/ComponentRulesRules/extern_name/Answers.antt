use Rattle.std.proofs.Common.{◌∙◌, ap, sym}
use Rattle.wac_component_rules.specs.Fits.{component_names, no_name, unless}
use Rattle.wac_component_rules.proofs.rules.ComponentRulesRules.extern_name.Goals as goal

pub returns-then-is_extern_name : goal.returns-then-is_extern_name
unfolding component_names
returns-then-is_extern_name c = ap (unless no_name) (sym c.is_extern_name.ensures ∙ c.if-is_extern_name.true)

pub returns-else-is_extern_name : goal.returns-else-is_extern_name
unfolding component_names
returns-else-is_extern_name c = ap (unless no_name) (sym c.is_extern_name.ensures ∙ c.if-is_extern_name.false)
