use Rattle.wac_graph.proofs.Common.{◌∙◌, ℕ, List, [], ◌∷◌, ◌++◌, sym, ap, subst, Named}
use Rattle.wac_graph.specs.Node.{Node}
use Rattle.wac_graph.specs.HeldNodes.{AreIndexed}
use Rattle.wac_graph.proofs.Indexed.{plain_indexed}
use Rattle.wac_graph.proofs.held_nodes.HeldNodes.push.Goals as goal

pub invariant_of-self : goal.invariant_of-self
invariant_of-self c =
    let all = c.push_reserved-2.ensures.items ∙ ap (λ (a : Named ℕ). c.self.inside.aliases.items ++ a ∷ []) c.new.ensures in
    subst (λ (ns : List Node). AreIndexed ns c.push_reserved-2.new.self.items) (sym c.push_reserved.ensures.items)
    (subst (AreIndexed (c.self.inside.nodes.items ++ c.args.node ∷ [])) (sym all)
    (plain_indexed c.self.inside.nodes.items c.self.inside.aliases.items c.args.node c.requires.plain c.self.invariant))
