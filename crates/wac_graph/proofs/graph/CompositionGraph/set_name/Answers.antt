use Rattle.wac_graph.proofs.Common.{◌≡◌, ◌∙◌, ℕ, List, Some, sym, ap, subst}
use Rattle.wac_graph.specs.Node.{Node}
use Rattle.wac_graph.specs.Graph.{Parts, with_name}
use Rattle.wac_graph.specs.HeldNodes.{changed_in}
use Rattle.wac_graph.specs.Sound.{IsSound}
use Rattle.wac_graph.proofs.Sound.{sound_named}
use Rattle.wac_graph.proofs.graph.CompositionGraph.set_name.Goals as goal

pub invariant_of-self : goal.invariant_of-self
invariant_of-self c =
    let before : Parts = record { types = c.self.inside.types; packages = c.self.inside.packages; nodes = c.self.inside.nodes.items; imports = c.self.inside.imports; exports = c.self.inside.exports } in
    let is : record before { nodes = c.set_name.new.self.items } ≡ with_name before c.args.node.0 c.args.name.now
    = ap (λ (l : List Node). record before { nodes = l }) (c.set_name.ensures ∙ ap (λ (t : List ℕ). changed_in before.nodes c.args.node.0 (λ n. record n { name = Some t })) c.in_ok-text.ensures.ok) in
    subst IsSound (sym is) (sound_named before c.args.node.0 c.args.name.now c.self.invariant)

pub returns-clause-ok : goal.returns-clause-ok
returns-clause-ok c =
    let before : Parts = record { types = c.self.inside.types; packages = c.self.inside.packages; nodes = c.self.inside.nodes.items; imports = c.self.inside.imports; exports = c.self.inside.exports } in
    ap (λ (l : List Node). record before { nodes = l }) (c.set_name.ensures ∙ ap (λ (t : List ℕ). changed_in before.nodes c.args.node.0 (λ n. record n { name = Some t })) c.in_ok-text.ensures.ok)
    ∙ ap (λ (g : Parts). with_name g c.args.node.0 c.args.name.now) c.self.view_is
