use Rattle.wac_graph_types.proofs.Common.{◌≡◌, ◌∙◌, List, subst}
use Rattle.wac_graph_types.specs.declared.entry.Entry.{Entry}
use Rattle.wac_graph_types.specs.declared.kind.ItemKind.TheVariants as kinds
use Rattle.wac_graph_types.specs.Meaning.{meaning}
use Rattle.wac_graph_types.specs.Shape.{contains_borrow}
use Rattle.wac_graph_types.proofs.Borrowing.{known_of}
use Rattle.wac_graph_types.proofs.types.Types.contains_borrow.Goals as goal

pub returns : goal.returns
returns c = λ o. subst (λ (es : List Entry). c.child_has_borrow.result ≡ contains_borrow (meaning o es (kinds.Value c.args.value))) c.self.view_is
    (known_of o c.self.inside.entries.items c.self.inside.borrows.items (kinds.Value c.args.value) c.child_has_borrow.result c.self.invariant
    (λ ms known. c.child_has_borrow.ensures ms (c.deref.ensures.value ∙ known)))
