use Rattle.wac_resolution_types.proofs.Common.{◌∙◌}
use Rattle.wac_resolution_types.proofs.NamesAlone.{any_text}
use Rattle.wac_resolution_types.proofs.names_alone.has_name.Goals as goal

pub returns : goal.returns
returns c = c.contains.ensures ∙ any_text c.args.name.now c.args.all.now.keys
