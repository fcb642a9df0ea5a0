use Rattle.wac_graph_types.proofs.Common.{◌≡◌, ◌∙◌, List, [], ◌∷◌, ◌++◌, Bool, sym, ap, subst}
use Rattle.wac_graph_types.specs.declared.entry.Entry.{Entry}
use Rattle.wac_graph_types.specs.Borrows.{AreBorrows}
use Rattle.wac_graph_types.proofs.Borrowing.{borrows_added}
use Rattle.wac_graph_types.proofs.types.Types.add.Goals as goal

pub invariant_of-self-in-Ok : goal.invariant_of-self-in-Ok
invariant_of-self-in-Ok c =
    let entries : c.push_reserved.new.self.items ≡ c.self.inside.entries.items ++ c.args.entry ∷ [] = c.push_reserved.ensures.items ∙ ap (λ (l : List Entry). l ++ c.args.entry ∷ []) c.make_room.ensures.entries in
    let known : c.push_reserved-in-Ok.new.self.items ≡ c.self.inside.borrows.items ++ c.entry_has_borrow-borrow.result ∷ [] = c.push_reserved-in-Ok.ensures.items ∙ ap (λ (l : List Bool). l ++ c.entry_has_borrow-borrow.result ∷ []) c.make_room.ensures.borrows in
    subst (λ (es : List Entry). AreBorrows es c.push_reserved-in-Ok.new.self.items) (sym entries)
    (subst (AreBorrows (c.self.inside.entries.items ++ c.args.entry ∷ [])) (sym known)
    (borrows_added c.self.inside.entries.items c.self.inside.borrows.items c.args.entry c.entry_has_borrow-borrow.result (λ o ms is. c.entry_has_borrow-borrow.ensures o ms (c.deref.ensures.value ∙ is)) c.self.invariant))
