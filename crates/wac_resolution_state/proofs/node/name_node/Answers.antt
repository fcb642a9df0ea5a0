use Rattle.wac_resolution_state.proofs.Common.{◌∙◌, sym}
use Rattle.wac_resolution_state.proofs.Composed.{already_named, newly_named}
use Rattle.wac_resolution_state.proofs.node.name_node.Goals as goal

pub returns-then-is_some : goal.returns-then-is_some
returns-then-is_some c = already_named c.args.state.now.graph c.args.node.0 c.args.name.now c.name.result c.name.ensures (sym c.is_some.ensures ∙ c.if-is_some.true) c.nodes-nodes.ensures.sound

pub returns : goal.returns
returns c = newly_named c.args.state.now.graph c.set_name.new.self c.args.node.0 c.args.name.now c.name.result c.name.ensures (sym c.is_some.ensures ∙ c.if-is_some.false) c.in_ok-set_name.ensures.ok c.nodes-named.ensures.sound
