use Rattle.wac_graph.proofs.Common.{◌≡◌, ◌∙◌, ◌<◌, Some, length, sym, subst, slice_get, option_map, IfSome}
use Rattle.wac_graph.specs.Graph.{Parts, package_of}
use Rattle.wac_graph.specs.Node.{package_in}
use Rattle.wac_graph.specs.Sound.{IsSoundNode}
use Rattle.wac_graph.proofs.Reading.{package_there, package_is, package_within}
use Rattle.wac_graph.proofs.graph.CompositionGraph.instance_of.Goals as goal

pub returns-clause-of : goal.returns-clause-of
returns-clause-of c =
    let before : Parts = record { types = c.self.inside.types; packages = c.self.inside.packages; nodes = c.self.inside.nodes.items; imports = c.self.inside.imports; exports = c.self.inside.exports } in
    let at : slice_get before.nodes c.args.id.0 ≡ Some c.at.result.now = c.at.ensures in
    let node : IsSoundNode before c.args.id.0 c.at.result.now = c.self.invariant.nodes c.args.id.0 c.at.result.now at in
    subst (λ (g : Parts). option_map (λ p. p.0) c.package.result ≡ package_of g c.args.id.0) c.self.view_is (c.package.ensures ∙ sym (package_is before c.args.id.0 c.at.result.now at))

pub returns-clause-there : goal.returns-clause-there
returns-clause-there c =
    let before : Parts = record { types = c.self.inside.types; packages = c.self.inside.packages; nodes = c.self.inside.nodes.items; imports = c.self.inside.imports; exports = c.self.inside.exports } in
    let at : slice_get before.nodes c.args.id.0 ≡ Some c.at.result.now = c.at.ensures in
    let node : IsSoundNode before c.args.id.0 c.at.result.now = c.self.invariant.nodes c.args.id.0 c.at.result.now at in
    subst (λ (g : Parts). IfSome c.package.result (λ p. p.0 < length g.packages)) c.self.view_is
    (package_within (length before.packages) c.package.result (package_in c.at.result.now.form) c.package.ensures (package_there before c.args.id.0 c.at.result.now node))
