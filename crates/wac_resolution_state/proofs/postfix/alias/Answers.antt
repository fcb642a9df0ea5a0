use Rattle.wac_resolution_state.proofs.Composed.{alias_made}
use Rattle.wac_resolution_state.proofs.postfix.alias.Goals as goal

pub returns : goal.returns
returns c = alias_made c.args.state.now.graph c.add_alias.new.self c.args.node.0 c.args.export.now c.in_ok-alias.alias.0 c.in_ok-alias.ensures.ok c.in_ok-alias.ensures.number c.nodes-nodes.ensures.sound
