use Rattle.wac_resolution_types.proofs.Common.{◌∙◌, sym, inr, rules, nothing}
use Rattle.wac_resolution_types.proofs.NamesAlone.{name_stands}
use Rattle.wac_resolution_types.proofs.names_alone.check_enum_case.Goals as goal

pub returns-then-has_name-clause-err : goal.returns-then-has_name-clause-err
returns-then-has_name-clause-err c = inr (nothing, name_stands c.args.id.now.string.now c.args.all.now.keys (sym c.has_name.ensures ∙ c.if-has_name.true), search rules)
