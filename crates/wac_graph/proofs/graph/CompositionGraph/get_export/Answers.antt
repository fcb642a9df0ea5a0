use Rattle.wac_graph.proofs.Common.{◌<◌, length, subst, IfSome}
use Rattle.wac_graph.specs.Graph.{Parts}
use Rattle.wac_graph.proofs.Reading.{named_there}
use Rattle.wac_graph.proofs.graph.CompositionGraph.get_export.Goals as goal

pub returns-clause-there : goal.returns-clause-there
returns-clause-there c =
    let before : Parts = record { types = c.self.inside.types; packages = c.self.inside.packages; nodes = c.self.inside.nodes.items; imports = c.self.inside.imports; exports = c.self.inside.exports } in
    subst (λ (g : Parts). IfSome c.get.result (λ n. n.0 < length g.nodes)) c.self.view_is (named_there c.args.name.now (length before.nodes) before.exports c.get.result c.get.ensures (c.self.invariant.exports))
