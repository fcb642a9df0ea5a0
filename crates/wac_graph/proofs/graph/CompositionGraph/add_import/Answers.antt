use Rattle.wac_graph.proofs.Common.{◌≡◌, rules, sym, subst}
use Rattle.wac_graph.specs.Graph.{Parts, with_import}
use Rattle.wac_graph.specs.Sound.{IsSound}
use Rattle.wac_graph.proofs.Sound.{sound_import}
use Rattle.wac_graph.proofs.graph.CompositionGraph.add_import.Goals as goal

pub invariant_of-self-2 : goal.invariant_of-self-2
invariant_of-self-2 c =
    let after : Parts = record { types = c.self.inside.types; packages = c.self.inside.packages; nodes = c.push-2.new.self.items; imports = c.push.new.self; exports = c.self.inside.exports } in
    let is : after ≡ with_import c.args.self.now c.args.name.now c.args.kind = search rules in
    subst IsSound (sym is) (sound_import c.args.self.now c.args.name.now c.args.kind c.requires.new c.requires.kind (subst IsSound c.self.view_is c.self.invariant))
