use Rattle.wac_graph.proofs.Common.{◌≡◌, ◌∙◌, ◌<◌, ℕ, List, [], ◌∷◌, ◌++◌, None, Some, length, sym, ap, subst, arith, rules, slice_get, slice_set, Named, with_named, stands}
use Rattle.wac_graph.specs.Node.{Node, alias}
use Rattle.wac_graph.specs.Graph.{alias_in, plain_node}
use Rattle.wac_graph.specs.HeldNodes.{NodeList, AreIndexed}
use Rattle.wac_graph.proofs.Indexed.{alias_indexed, no_alias_yet}
use Rattle.wac_graph.proofs.held_nodes.HeldNodes.push_alias.Goals as goal

pub push-requires : goal.push-requires
push-requires c =
    let none : alias_in c.self.inside.nodes.items c.args.node.0 c.args.export.now ≡ None = subst (λ (l : NodeList). alias_in l.items c.args.node.0 c.args.export.now ≡ None) (sym c.self.view_is) c.requires.new in
    let within : c.args.node.0 < length c.self.inside.nodes.items = subst (λ (l : NodeList). c.args.node.0 < length l.items) (sym c.self.view_is) c.requires.there in
    let same : c.reserve-2.new.self.items ≡ c.self.inside.aliases.items = c.reserve-2.ensures.items in
    let there : c.args.node.0 < length c.reserve-2.new.self.items = omega (arith, ap length same, c.self.invariant.each) in
    let at : slice_get c.self.inside.aliases.items c.args.node.0 ≡ Some c.index_mut.result.now
    = subst (λ (l : List (Named ℕ)). slice_get l c.args.node.0 ≡ Some c.index_mut.result.now) same (stands c.reserve-2.new.self.items c.args.node.0 c.index_mut.result.now there c.index_mut.ensures.value) in
    no_alias_yet c.self.inside.nodes.items c.self.inside.aliases.items c.args.node.0 c.args.export.now c.args.kind c.index_mut.result.now at none c.self.invariant

pub invariant_of-self-2 : goal.invariant_of-self-2
invariant_of-self-2 c =
    let inside : List Node = c.self.inside.nodes.items in
    let number : ℕ = c.args.node.0 in
    let export : List ℕ = c.args.export.now in
    let own : Named ℕ = c.index_mut.result.now in
    let none : alias_in inside number export ≡ None = subst (λ (l : NodeList). alias_in l.items number export ≡ None) (sym c.self.view_is) c.requires.new in
    let within : number < length inside = subst (λ (l : NodeList). number < length l.items) (sym c.self.view_is) c.requires.there in
    let same : c.reserve-2.new.self.items ≡ c.self.inside.aliases.items = c.reserve-2.ensures.items in
    let there : number < length c.reserve-2.new.self.items = omega (arith, ap length same, c.self.invariant.each) in
    let at : slice_get c.self.inside.aliases.items number ≡ Some own
    = subst (λ (l : List (Named ℕ)). slice_get l number ≡ Some own) same (stands c.reserve-2.new.self.items number own there c.index_mut.ensures.value) in
    let nodes : c.push_reserved.new.self.items ≡ inside ++ plain_node (alias number export) c.args.kind ∷ []
    = c.push_reserved.ensures.items
    ∙ ap (λ (l : List Node). l ++ c.alias.result ∷ []) c.reserve.ensures.items
    ∙ ap (λ (n : Node). inside ++ n ∷ []) (c.alias.ensures ∙ ap (λ (x : List ℕ). plain_node (alias number x) c.args.kind) c.in_ok-name.ensures.ok) in
    let count : c.len.result ≡ length inside = search rules in
    let all : c.push_reserved-2.new.self.items ≡ slice_set c.self.inside.aliases.items number (with_named own export (length inside)) ++ [] ∷ []
    = c.push_reserved-2.ensures.items
    ∙ ap (λ (a : Named ℕ). slice_set c.reserve-2.new.self.items number c.push.new.self ++ a ∷ []) c.new.ensures
    ∙ ap (λ (l : List (Named ℕ)). slice_set l number c.push.new.self ++ [] ∷ []) same
    ∙ ap (λ (a : Named ℕ). slice_set c.self.inside.aliases.items number a ++ [] ∷ []) (c.in_ok-push.ensures.ok ∙ ap (λ (n : ℕ). with_named own export n) count) in
    subst (λ (ns : List Node). AreIndexed ns c.push_reserved-2.new.self.items) (sym nodes)
    (subst (AreIndexed (inside ++ plain_node (alias number export) c.args.kind ∷ [])) (sym all)
    (alias_indexed inside c.self.inside.aliases.items number export c.args.kind own at none c.self.invariant))
