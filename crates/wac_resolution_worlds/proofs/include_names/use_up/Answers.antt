use Rattle.wac_resolution_worlds.proofs.Common.{◌∙◌, sym, ap, by_name}
use Rattle.wac_graph_types.proofs.Maps.{by_name_found}
use Rattle.wac_resolution_worlds.proofs.Found.{name_renamed, name_kept, removed}
use Rattle.wac_resolution_worlds.proofs.include_names.use_up.Goals as goal

pub returns-in-Some-clause-name : goal.returns-in-Some-clause-name
returns-in-Some-clause-name c =
    name_renamed c.args.name.now (by_name c.args.entries.now.entries) c.in-Some.item (sym (c.in-Some.ensures.value ∙ by_name_found c.args.name.now c.args.entries.now.entries))

pub returns-in-Some-clause-left : goal.returns-in-Some-clause-left
returns-in-Some-clause-left c = ap by_name c.in-Some.ensures.entries ∙ removed c.args.name.now c.args.entries.now.entries

pub returns-in-None-clause-name : goal.returns-in-None-clause-name
returns-in-None-clause-name c =
    name_kept c.args.name.now (by_name c.args.entries.now.entries) (sym (c.in-None.ensures.value ∙ by_name_found c.args.name.now c.args.entries.now.entries))

pub returns-in-None-clause-left : goal.returns-in-None-clause-left
returns-in-None-clause-left c = ap by_name c.in-None.ensures.entries ∙ removed c.args.name.now c.args.entries.now.entries
