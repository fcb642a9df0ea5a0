use Rattle.wac_graph_types.proofs.Common.{◌∙◌}
use Rattle.wac_graph_types.proofs.Maps.{by_name_found}
use Rattle.wac_graph_types.proofs.names.find.Goals as goal

pub returns : goal.returns
returns g c = c.copied.ensures ∙ c.get.ensures.value ∙ by_name_found c.args.name.now c.args.all.now.entries
