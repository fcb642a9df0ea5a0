use Rattle.wac_graph.proofs.Common.{◌≡◌, ◌∙◌, ◌<◌, Some, List, length, sym, ap, subst, slice_get, string_bytes, stands}
use Rattle.wac_graph.specs.Node.{Node, is_alias_of}
use Rattle.wac_graph.specs.HeldNodes.{NodeList, changed_in}
use Rattle.wac_graph.proofs.Changed.{changed_here}
use Rattle.wac_graph.proofs.Indexed.{changed_indexed}
use Rattle.wac_graph.proofs.held_nodes.HeldNodes.set_name.Goals as goal

pub invariant_of-self : goal.invariant_of-self
invariant_of-self c =
    let inside : List Node = c.self.inside.nodes.items in
    let there : c.args.number < length inside = subst (λ (l : NodeList). c.args.number < length l.items) (sym c.self.view_is) c.requires in
    let at : slice_get inside c.args.number ≡ Some c.index_mut.result.now = stands inside c.args.number c.index_mut.result.now there c.index_mut.ensures.value in
    changed_indexed inside c.self.inside.aliases.items c.args.number c.index_mut.result.now c.set_name.new.self at (λ node export. ap (λ (x : Node). is_alias_of node export x.form) c.set_name.ensures) c.self.invariant

pub returns : goal.returns
returns c =
    let inside : List Node = c.self.inside.nodes.items in
    let there : c.args.number < length inside = subst (λ (l : NodeList). c.args.number < length l.items) (sym c.self.view_is) c.requires in
    let at : slice_get inside c.args.number ≡ Some c.index_mut.result.now = stands inside c.args.number c.index_mut.result.now there c.index_mut.ensures.value in
    changed_here inside c.args.number c.index_mut.result.now c.set_name.new.self (λ n. record n { name = Some (string_bytes c.args.name) }) at c.set_name.ensures
    ∙ ap (λ (l : NodeList). changed_in l.items c.args.number (λ n. record n { name = Some (string_bytes c.args.name) })) c.self.view_is
