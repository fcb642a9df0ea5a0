use Rattle.wac_graph.proofs.Common.{◌≡◌, Some, slice_get}
use Rattle.wac_graph.specs.Graph.{Parts}
use Rattle.wac_graph.specs.Node.{source_in}
use Rattle.wac_graph.specs.Sound.{IsSoundNode}
use Rattle.wac_graph.proofs.Reading.{source_earlier, source_there}
use Rattle.wac_graph.proofs.graph.CompositionGraph.alias_source.Goals as goal

pub returns-clause-earlier : goal.returns-clause-earlier
returns-clause-earlier c =
    let before : Parts = record { types = c.self.inside.types; packages = c.self.inside.packages; nodes = c.self.inside.nodes.items; imports = c.self.inside.imports; exports = c.self.inside.exports } in
    let at : slice_get before.nodes c.args.id.0 ≡ Some c.at.result.now = c.at.ensures in
    let node : IsSoundNode before c.args.id.0 c.at.result.now = c.self.invariant.nodes c.args.id.0 c.at.result.now at in
    source_there c.args.id.0 c.source.result (source_in c.at.result.now.form) c.source.ensures (source_earlier before c.args.id.0 c.at.result.now node)
