use Rattle.wac_graph.proofs.Common.{◌≡◌, ◌∙◌, Some, sym, ap, subst, slice_get, look_up}
use Rattle.wac_graph.specs.Graph.{Parts, arguments_of}
use Rattle.wac_graph.specs.Sound.{IsSoundNode, NamesNodes}
use Rattle.wac_graph.proofs.Reading.{arguments_earlier, arguments_are, named_there}
use Rattle.wac_graph.proofs.graph.CompositionGraph.argument.Goals as goal

pub returns-clause-node : goal.returns-clause-node
returns-clause-node c =
    let before : Parts = record { types = c.self.inside.types; packages = c.self.inside.packages; nodes = c.self.inside.nodes.items; imports = c.self.inside.imports; exports = c.self.inside.exports } in
    let at : slice_get before.nodes c.args.id.0 ≡ Some c.at.result.now = c.at.ensures in
    let node : IsSoundNode before c.args.id.0 c.at.result.now = c.self.invariant.nodes c.args.id.0 c.at.result.now at in
    c.get.ensures ∙ ap (look_up c.args.import.now) (c.arguments.ensures ∙ sym (arguments_are before c.args.id.0 c.at.result.now at) ∙ ap (λ (g : Parts). arguments_of g c.args.id.0) c.self.view_is)

pub returns-clause-earlier : goal.returns-clause-earlier
returns-clause-earlier c =
    let before : Parts = record { types = c.self.inside.types; packages = c.self.inside.packages; nodes = c.self.inside.nodes.items; imports = c.self.inside.imports; exports = c.self.inside.exports } in
    let at : slice_get before.nodes c.args.id.0 ≡ Some c.at.result.now = c.at.ensures in
    let node : IsSoundNode before c.args.id.0 c.at.result.now = c.self.invariant.nodes c.args.id.0 c.at.result.now at in
    named_there c.args.import.now c.args.id.0 c.arguments.result.now c.get.result c.get.ensures (subst (NamesNodes c.args.id.0) (sym c.arguments.ensures) (arguments_earlier before c.args.id.0 c.at.result.now node))
