use Rattle.wac_graph.proofs.Common.{◌≡◌, Option, rules, Some, sym, subst, slice_get, IfSome}
use Rattle.wac_graph_types.specs.declared.kind.ItemKind.TheVariants as kinds
use Rattle.wac_graph.specs.Package.{HeldPackage}
use Rattle.wac_graph.specs.Readings.{held_of}
use Rattle.wac_graph.specs.Graph.{Parts, with_instantiation}
use Rattle.wac_graph.specs.Sound.{IsSound}
use Rattle.wac_graph.proofs.Sound.{sound_instantiation}
use Rattle.wac_graph.proofs.graph.CompositionGraph.add_instantiation.Goals as goal

pub invariant_of-self-2 : goal.invariant_of-self-2
invariant_of-self-2 c =
    let after : Parts = record { types = c.self.inside.types; packages = c.self.inside.packages; nodes = c.push.new.self.items; imports = c.self.inside.imports; exports = c.self.inside.exports } in
    let at : slice_get c.args.self.now.packages c.args.package.0 ≡ Some (held_of c.get.result) = subst (λ (g : Parts). slice_get g.packages c.args.package.0 ≡ Some (held_of c.get.result)) c.self.view_is c.get.ensures in
    let is : after ≡ with_instantiation c.args.self.now c.args.package.0 (kinds.Instance c.get.result.instance) = search rules in
    subst IsSound (sym is) (sound_instantiation c.args.self.now c.args.package.0 (held_of c.get.result) at (subst IsSound c.self.view_is c.self.invariant))

pub returns-clause-ok : goal.returns-clause-ok
returns-clause-ok c =
    let after : Parts = record { types = c.self.inside.types; packages = c.self.inside.packages; nodes = c.push.new.self.items; imports = c.self.inside.imports; exports = c.self.inside.exports } in
    let at : slice_get c.args.self.now.packages c.args.package.0 ≡ Some (held_of c.get.result) = subst (λ (g : Parts). slice_get g.packages c.args.package.0 ≡ Some (held_of c.get.result)) c.self.view_is c.get.ensures in
    let is : after ≡ with_instantiation c.args.self.now c.args.package.0 (kinds.Instance c.get.result.instance) = search rules in
    subst (λ (o : Option HeldPackage). IfSome o (λ p. after ≡ with_instantiation c.args.self.now c.args.package.0 (kinds.Instance p.instance))) (sym at) is
