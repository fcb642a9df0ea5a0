use Rattle.wac_graph.proofs.Common.{length, subst, sym}
use Rattle.wac_graph.specs.Graph.{Parts}
use Rattle.wac_graph.specs.Sound.{NamesNodes}
use Rattle.wac_graph.proofs.Sound.{imports_there}
use Rattle.wac_graph.proofs.graph.CompositionGraph.imports.Goals as goal

pub returns-clause-there : goal.returns-clause-there
returns-clause-there c =
    let before : Parts = record { types = c.self.inside.types; packages = c.self.inside.packages; nodes = c.self.inside.nodes.items; imports = c.self.inside.imports; exports = c.self.inside.exports } in
    subst (λ (g : Parts). NamesNodes (length g.nodes) c.iter.result) c.self.view_is (subst (NamesNodes (length before.nodes)) (sym c.iter.ensures) (imports_there before c.self.invariant))
