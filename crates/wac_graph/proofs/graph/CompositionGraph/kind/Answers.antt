use Rattle.wac_graph.proofs.Common.{◌≡◌, Some, sym, subst, slice_get, Names}
use Rattle.wac_graph.specs.Graph.{Parts}
use Rattle.wac_graph.specs.Sound.{IsSoundNode}
use Rattle.wac_graph.proofs.graph.CompositionGraph.kind.Goals as goal

pub returns-clause-named : goal.returns-clause-named
returns-clause-named c =
    let before : Parts = record { types = c.self.inside.types; packages = c.self.inside.packages; nodes = c.self.inside.nodes.items; imports = c.self.inside.imports; exports = c.self.inside.exports } in
    let at : slice_get before.nodes c.args.id.0 ≡ Some c.at.result.now = c.at.ensures in
    let node : IsSoundNode before c.args.id.0 c.at.result.now = c.self.invariant.nodes c.args.id.0 c.at.result.now at in
    subst (λ (g : Parts). Names g.types c.kind.result) c.self.view_is (subst (Names before.types) (sym c.kind.ensures) node.named)
