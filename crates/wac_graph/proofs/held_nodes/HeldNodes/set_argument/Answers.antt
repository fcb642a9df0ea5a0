use Rattle.wac_graph.proofs.Common.{◌≡◌, ◌∙◌, ◌<◌, Some, List, length, sym, ap, subst, slice_get, option_and_then, IsSome, IsFresh, stands}
use Rattle.wac_graph.specs.Node.{Node, package_in, is_alias_of}
use Rattle.wac_graph.specs.Graph.{given_too}
use Rattle.wac_graph.specs.HeldNodes.{NodeList, arguments_at, changed_in}
use Rattle.wac_graph.proofs.Calls.{same_alias}
use Rattle.wac_graph.proofs.Changed.{instance_there, instance_at, open_at, changed_here}
use Rattle.wac_graph.proofs.Indexed.{changed_indexed}
use Rattle.wac_graph.proofs.held_nodes.HeldNodes.set_argument.Goals as goal

pub set_argument-requires-clause-instance : goal.set_argument-requires-clause-instance
set_argument-requires-clause-instance c =
    let inside : List Node = c.self.inside.nodes.items in
    let asked : IsSome (option_and_then (λ (n : Node). package_in n.form) (slice_get inside c.args.number)) = subst (λ (l : NodeList). IsSome (option_and_then (λ (n : Node). package_in n.form) (slice_get l.items c.args.number))) (sym c.self.view_is) c.requires.instance in
    let there : c.args.number < length inside = instance_there inside c.args.number asked in
    let at : slice_get inside c.args.number ≡ Some c.index_mut.result.now = stands inside c.args.number c.index_mut.result.now there c.index_mut.ensures.value in
    instance_at inside c.args.number c.index_mut.result.now at asked

pub set_argument-requires-clause-open : goal.set_argument-requires-clause-open
set_argument-requires-clause-open c =
    let inside : List Node = c.self.inside.nodes.items in
    let asked : IsSome (option_and_then (λ (n : Node). package_in n.form) (slice_get inside c.args.number)) = subst (λ (l : NodeList). IsSome (option_and_then (λ (n : Node). package_in n.form) (slice_get l.items c.args.number))) (sym c.self.view_is) c.requires.instance in
    let there : c.args.number < length inside = instance_there inside c.args.number asked in
    let at : slice_get inside c.args.number ≡ Some c.index_mut.result.now = stands inside c.args.number c.index_mut.result.now there c.index_mut.ensures.value in
    open_at inside c.args.number c.index_mut.result.now c.args.import.now at (subst (λ (l : NodeList). IsFresh c.args.import.now (arguments_at l.items c.args.number)) (sym c.self.view_is) c.requires.open)

pub invariant_of-self-2 : goal.invariant_of-self-2
invariant_of-self-2 c =
    let inside : List Node = c.self.inside.nodes.items in
    let asked : IsSome (option_and_then (λ (n : Node). package_in n.form) (slice_get inside c.args.number)) = subst (λ (l : NodeList). IsSome (option_and_then (λ (n : Node). package_in n.form) (slice_get l.items c.args.number))) (sym c.self.view_is) c.requires.instance in
    let there : c.args.number < length inside = instance_there inside c.args.number asked in
    let at : slice_get inside c.args.number ≡ Some c.index_mut.result.now = stands inside c.args.number c.index_mut.result.now there c.index_mut.ensures.value in
    changed_indexed inside c.self.inside.aliases.items c.args.number c.index_mut.result.now c.set_argument.new.self at
    (λ node export. ap (λ (x : Node). is_alias_of node export x.form) c.in_ok-set_argument.ensures.ok ∙ same_alias c.index_mut.result.now.form c.args.import.now c.args.value.0 node export)
    c.self.invariant

pub returns-clause-ok : goal.returns-clause-ok
returns-clause-ok c =
    let inside : List Node = c.self.inside.nodes.items in
    let asked : IsSome (option_and_then (λ (n : Node). package_in n.form) (slice_get inside c.args.number)) = subst (λ (l : NodeList). IsSome (option_and_then (λ (n : Node). package_in n.form) (slice_get l.items c.args.number))) (sym c.self.view_is) c.requires.instance in
    let there : c.args.number < length inside = instance_there inside c.args.number asked in
    let at : slice_get inside c.args.number ≡ Some c.index_mut.result.now = stands inside c.args.number c.index_mut.result.now there c.index_mut.ensures.value in
    changed_here inside c.args.number c.index_mut.result.now c.set_argument.new.self (λ n. record n { form = given_too n.form c.args.import.now c.args.value.0 }) at c.in_ok-set_argument.ensures.ok
    ∙ ap (λ (l : NodeList). changed_in l.items c.args.number (λ n. record n { form = given_too n.form c.args.import.now c.args.value.0 })) c.self.view_is
