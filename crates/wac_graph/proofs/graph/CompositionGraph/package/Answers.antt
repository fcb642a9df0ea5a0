use Rattle.wac_graph.proofs.Common.{subst}
use Rattle.wac_graph.specs.Graph.{Parts}
use Rattle.wac_graph.specs.Package.{IsHeld}
use Rattle.wac_graph.specs.Readings.{held_of}
use Rattle.wac_graph.proofs.graph.CompositionGraph.package.Goals as goal

pub returns-clause-named : goal.returns-clause-named
returns-clause-named c =
    let before : Parts = record { types = c.self.inside.types; packages = c.self.inside.packages; nodes = c.self.inside.nodes.items; imports = c.self.inside.imports; exports = c.self.inside.exports } in
    subst (λ (g : Parts). IsHeld g.types (held_of c.get.result)) c.self.view_is (c.self.invariant.packages c.args.id.0 (held_of c.get.result) c.get.ensures)
