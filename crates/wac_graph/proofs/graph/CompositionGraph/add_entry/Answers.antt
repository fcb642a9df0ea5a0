use Rattle.wac_graph.proofs.Common.{◌≡◌, rules, sym, subst}
use Rattle.wac_graph.specs.Graph.{Parts, with_entry}
use Rattle.wac_graph.specs.Sound.{IsSound}
use Rattle.wac_graph.proofs.Sound.{sound_entry}
use Rattle.wac_graph.proofs.Added.{adds}
use Rattle.wac_graph.proofs.graph.CompositionGraph.add_entry.Goals as goal

pub invariant_of-self-2 : goal.invariant_of-self-2
invariant_of-self-2 c =
    let after : Parts = record { types = c.add.new.self; packages = c.self.inside.packages; nodes = c.self.inside.nodes.items; imports = c.self.inside.imports; exports = c.self.inside.exports } in
    let is : after ≡ with_entry c.args.self.now c.args.entry = search rules in
    subst IsSound (sym is) (sound_entry c.args.self.now c.args.entry c.requires (subst IsSound c.self.view_is c.self.invariant))

pub returns-clause-ok : goal.returns-clause-ok
returns-clause-ok c =
    let after : Parts = record { types = c.add.new.self; packages = c.self.inside.packages; nodes = c.self.inside.nodes.items; imports = c.self.inside.imports; exports = c.self.inside.exports } in
    let is : after ≡ with_entry c.args.self.now c.args.entry = search rules in
    adds c.args.self.now after c.args.entry c.in_ok-id.id (subst IsSound c.self.view_is c.self.invariant) c.requires is (search rules)
