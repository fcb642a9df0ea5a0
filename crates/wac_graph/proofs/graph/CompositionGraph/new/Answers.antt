use Rattle.wac_graph.proofs.Common.{◌≡◌, rules, sym, subst}
use Rattle.wac_graph.specs.Graph.{Parts, empty}
use Rattle.wac_graph.specs.Sound.{IsSound}
use Rattle.wac_graph.proofs.Sound.{sound_empty}
use Rattle.wac_graph.proofs.graph.CompositionGraph.new.Goals as goal

pub invariant_of-result : goal.invariant_of-result
invariant_of-result c =
    let made : Parts = record { types = c.new.result; packages = c.new-2.result; nodes = c.new-3.result.items; imports = c.new-4.result; exports = c.new-5.result } in
    let is : made ≡ empty = search rules in
    subst IsSound (sym is) sound_empty
