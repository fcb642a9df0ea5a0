use Rattle.wac_resolution_statements.proofs.Common.{◌∙◌, sym, entry_means, interface_id_is}
use Rattle.wac_resolution_statements.proofs.ImportNames.{world_id_is, no_id}
use Rattle.wac_resolution_statements.proofs.import_names.item_id.Goals as goal

pub returns-in-Instance : goal.returns-in-Instance
returns-in-Instance c numbering = rw c.in-Instance.is (c.interface_id.ensures ∙ sym (interface_id_is c.args.state.now.graph c.in-Instance.interface c.types-types.ensures.means (rw c.in-Instance.is at c.requires) numbering))

pub returns-in-Component : goal.returns-in-Component
returns-in-Component c numbering = rw c.in-Component.is (c.world_id.ensures ∙ sym (world_id_is c.args.state.now.graph c.in-Component.world c.types-types.ensures.means (rw c.in-Component.is at c.requires) numbering))

pub returns-in_default : goal.returns-in_default
returns-in_default c numbering = sym (no_id (entry_means numbering c.args.state.now.graph) c.args.kind c.in_default.not-Instance c.in_default.not-Component)
