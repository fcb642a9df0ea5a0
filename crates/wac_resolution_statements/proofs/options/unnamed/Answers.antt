use Rattle.wac_resolution_statements.proofs.Common.{node_at, composition_of}
use Rattle.wac_resolution_statements.proofs.Unnamed.{by_id, by_own}
use Rattle.wac_resolution_statements.proofs.options.unnamed.Goals as goal

pub returns-in-Some : goal.returns-in-Some
returns-in-Some c numbering declared = by_id (node_at (composition_of numbering c.args.state.now.graph declared) c.args.node.0) c.in-Some.id.now (c.in-Some.ensures numbering declared)

pub returns-in-None : goal.returns-in-None
returns-in-None c numbering declared = by_own (node_at (composition_of numbering c.args.state.now.graph declared) c.args.node.0) _ (c.in-None.ensures numbering declared) (c.own_name.ensures numbering declared)
