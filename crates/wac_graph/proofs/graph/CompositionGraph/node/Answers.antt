use Rattle.wac_graph.proofs.Common.{◌≡◌, Some, length, sym, subst, slice_get}
use Rattle.wac_graph.specs.Graph.{Parts}
use Rattle.wac_graph.specs.Node.{sort_of, HasPackage}
use Rattle.wac_graph.specs.Sound.{IsSoundNode}
use Rattle.wac_graph.proofs.Reading.{has_package}
use Rattle.wac_graph.proofs.graph.CompositionGraph.node.Goals as goal

pub returns-clause-there : goal.returns-clause-there
returns-clause-there c =
    let before : Parts = record { types = c.self.inside.types; packages = c.self.inside.packages; nodes = c.self.inside.nodes.items; imports = c.self.inside.imports; exports = c.self.inside.exports } in
    let at : slice_get before.nodes c.args.id.0 ≡ Some c.at.result.now = c.at.ensures in
    let node : IsSoundNode before c.args.id.0 c.at.result.now = c.self.invariant.nodes c.args.id.0 c.at.result.now at in
    subst (λ (g : Parts). HasPackage (length g.packages) (sort_of c.node.result.now)) c.self.view_is
    (subst (HasPackage (length before.packages)) (sym c.node.ensures) (has_package before c.args.id.0 c.at.result.now node))
