use Rattle.wac_graph.proofs.Common.{◌≡◌, ℕ, sym, subst, Result, Ok, Err, OnOk, OnErr, Named, with_named}
use Rattle.wac_graph.specs.Graph.{Parts, with_export}
use Rattle.wac_graph.specs.Sound.{IsSound}
use Rattle.wac_graph.proofs.Sound.{sound_export}
use Rattle.wac_graph.proofs.graph.CompositionGraph.add_export.Goals as goal

pub invariant_of-self : goal.invariant_of-self
invariant_of-self c =
    let before : Parts = record { types = c.self.inside.types; packages = c.self.inside.packages; nodes = c.self.inside.nodes.items; imports = c.self.inside.imports; exports = c.self.inside.exports } in
    let more : IsSound (with_export before c.args.name.now c.args.node.0)
    = subst (λ (g : Parts). IsSound (with_export g c.args.name.now c.args.node.0)) (sym c.self.view_is) (sound_export c.args.self.now c.args.name.now c.args.node.0 c.requires.there c.requires.new (subst IsSound c.self.view_is c.self.invariant)) in
    go more c.push.result c.push.ensures.ok c.push.ensures.err
  where
    go : IsSound (with_export (record { types = c.self.inside.types; packages = c.self.inside.packages; nodes = c.self.inside.nodes.items; imports = c.self.inside.imports; exports = c.self.inside.exports }) c.args.name.now c.args.node.0) → {X E : Type 0} (r : Result X E) → OnOk r (c.push.new.self ≡ with_named c.self.inside.exports c.args.name.now c.args.node.0) → OnErr r (c.push.new.self ≡ c.self.inside.exports) → IsSound (record { types = c.self.inside.types; packages = c.self.inside.packages; nodes = c.self.inside.nodes.items; imports = c.self.inside.imports; exports = c.push.new.self })
    go more (Ok x) ok err = subst (λ (l : Named ℕ). IsSound (record { types = c.self.inside.types; packages = c.self.inside.packages; nodes = c.self.inside.nodes.items; imports = c.self.inside.imports; exports = l })) (sym ok) more
    go more (Err x) ok err = subst (λ (l : Named ℕ). IsSound (record { types = c.self.inside.types; packages = c.self.inside.packages; nodes = c.self.inside.nodes.items; imports = c.self.inside.imports; exports = l })) (sym err) c.self.invariant
