use Rattle.wac_resolution_state.proofs.Common.{◌∙◌, sym}
use Rattle.wac_resolution_state.proofs.NodeNames.{instance_named, other_unnamed}
use Rattle.wac_resolution_state.proofs.node.instance_id.Goals as goal

pub returns-in-Instance : goal.returns-in-Instance
returns-in-Instance c numbering declared = instance_named c.args.state.now.graph c.args.node.0 c.in-Instance.interface c.types-types.ensures.means c.in-Instance.ensures.kind c.in-Instance.ensures.named numbering declared ∙ sym c.interface_id.ensures

pub returns-in_default : goal.returns-in_default
returns-in_default c numbering declared = other_unnamed c.args.state.now.graph c.args.node.0 c.kind.result c.kind.ensures.kind c.in_default.not-Instance numbering declared
