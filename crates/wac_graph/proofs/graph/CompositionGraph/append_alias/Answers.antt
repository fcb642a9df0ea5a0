use Rattle.wac_graph.proofs.Common.{◌≡◌, ◌∙◌, rules, Some, sym, subst}
use Rattle.wac_graph.specs.Graph.{Parts, with_alias, export_kind}
use Rattle.wac_graph.specs.Sound.{IsSound}
use Rattle.wac_graph.proofs.Sound.{sound_alias}
use Rattle.wac_graph.proofs.graph.CompositionGraph.append_alias.Goals as goal

pub invariant_of-self-2 : goal.invariant_of-self-2
invariant_of-self-2 c =
    let after : Parts = record { types = c.self.inside.types; packages = c.self.inside.packages; nodes = c.push_alias.new.self.items; imports = c.self.inside.imports; exports = c.self.inside.exports } in
    let exported : export_kind c.args.self.now c.args.node.0 c.args.export.now ≡ Some c.unwrap-kind.result = sym c.export_kind.ensures.kind ∙ c.unwrap-kind.ensures in
    let is : after ≡ with_alias c.args.self.now c.args.node.0 c.args.export.now c.unwrap-kind.result = search rules in
    subst IsSound (sym is) (sound_alias c.args.self.now c.args.node.0 c.args.export.now c.unwrap-kind.result exported c.requires.new (subst IsSound c.self.view_is c.self.invariant))
