use Rattle.wac_graph.proofs.Common.{◌≡◌, ◌∙◌, List, sym, ap, subst, IsSome, IsFresh}
use Rattle.wac_graph.specs.Node.{Node}
use Rattle.wac_graph.specs.Graph.{Parts, with_argument, parameter_kind, arguments_of}
use Rattle.wac_graph.specs.Sound.{IsSound}
use Rattle.wac_graph.proofs.Reading.{parameter_instance}
use Rattle.wac_graph.proofs.Sound.{sound_given}
use Rattle.wac_graph.proofs.graph.CompositionGraph.set_argument.Goals as goal

pub set_argument-requires-clause-instance : goal.set_argument-requires-clause-instance
set_argument-requires-clause-instance c =
    let before : Parts = record { types = c.self.inside.types; packages = c.self.inside.packages; nodes = c.self.inside.nodes.items; imports = c.self.inside.imports; exports = c.self.inside.exports } in
    parameter_instance before c.args.node.0 c.args.import.now (subst (λ (g : Parts). IsSome (parameter_kind g c.args.node.0 c.args.import.now)) (sym c.self.view_is) c.requires.import)

pub set_argument-requires-clause-open : goal.set_argument-requires-clause-open
set_argument-requires-clause-open c = subst (λ (g : Parts). IsFresh c.args.import.now (arguments_of g c.args.node.0)) (sym c.self.view_is) c.requires.open

pub invariant_of-self-2 : goal.invariant_of-self-2
invariant_of-self-2 c =
    let before : Parts = record { types = c.self.inside.types; packages = c.self.inside.packages; nodes = c.self.inside.nodes.items; imports = c.self.inside.imports; exports = c.self.inside.exports } in
    let is : record before { nodes = c.set_argument.new.self.items } ≡ with_argument before c.args.node.0 c.args.import.now c.args.value.0 = ap (λ (l : List Node). record before { nodes = l }) c.in_ok-set_argument.ensures.ok in
    let given : IsSound (with_argument c.args.self.now c.args.node.0 c.args.import.now c.args.value.0)
    = sound_given c.args.self.now c.args.node.0 c.args.import.now c.args.value.0 c.requires.import c.requires.open c.requires.earlier (subst IsSound c.self.view_is c.self.invariant) in
    subst IsSound (sym (is ∙ ap (λ (g : Parts). with_argument g c.args.node.0 c.args.import.now c.args.value.0) c.self.view_is)) given

pub returns-clause-ok : goal.returns-clause-ok
returns-clause-ok c =
    let before : Parts = record { types = c.self.inside.types; packages = c.self.inside.packages; nodes = c.self.inside.nodes.items; imports = c.self.inside.imports; exports = c.self.inside.exports } in
    ap (λ (l : List Node). record before { nodes = l }) c.in_ok-set_argument.ensures.ok
    ∙ ap (λ (g : Parts). with_argument g c.args.node.0 c.args.import.now c.args.value.0) c.self.view_is
