use Rattle.wac_graph_types.proofs.Common.{◌≡◌, List, map}
use Rattle.wac_graph_types.specs.Entry.{children}
use Rattle.wac_graph_types.specs.Meaning.{Meaning, look}
use Rattle.wac_graph_types.specs.Shape.{contains_borrow}
use Rattle.wac_graph_types.proofs.Borrowing.{RestBorrows}
use Rattle.wac_graph_types.proofs.borrows.entry_has_borrow.Given as goal

abbrev pub invariant-loop-at : goal.invariant-loop-at
invariant-loop-at l = (ms : List Meaning) → l.known ≡ map contains_borrow ms → RestBorrows (look ms) (children l.entry) l.at
