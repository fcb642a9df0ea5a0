use Rattle.wac_graph_types.proofs.Common.{sym, arith}
use Rattle.wac_graph_types.specs.Entry.{children, child_view}
use Rattle.wac_graph_types.specs.Meaning.{look}
use Rattle.wac_graph_types.proofs.Rows.{none_within}
use Rattle.wac_graph_types.proofs.Borrowing.{resource_has_none, entry_has, rest_borrows_step, rest_borrows_found, rest_borrows_end}
use Rattle.wac_graph_types.proofs.borrows.entry_has_borrow.Goals as goal

pub returns-then-is_resource : goal.returns-then-is_resource
returns-then-is_resource c = λ o ms known. resource_has_none o ms c.args.entry.now c.if-is_resource.ensures

pub returns-in-None : goal.returns-in-None
returns-in-None c = absurd (none_within (children c.args.entry.now) c.loop-at.at (sym c.in-None.ensures) (omega arith))

pub returns-then-child_has_borrow : goal.returns-then-child_has_borrow
returns-then-child_has_borrow c = λ o ms known. entry_has o ms c.args.entry.now _ c.if-is_resource.ensures
    (rest_borrows_found (look ms) (children c.args.entry.now) c.loop-at.at (child_view c.in-Some.child) (sym c.in-Some.ensures) (c.if-child_has_borrow.ensures ms known) (c.loop-at.invariant ms known))

pub loop-at-preserved : goal.loop-at-preserved
loop-at-preserved c = λ ms known. rest_borrows_step (look ms) (children c.args.entry.now) c.loop-at.at (child_view c.in-Some.child) (sym c.in-Some.ensures) (c.if-child_has_borrow.ensures ms known) (c.loop-at.invariant ms known)

pub returns : goal.returns
returns c = λ o ms known. entry_has o ms c.args.entry.now _ c.if-is_resource.ensures (rest_borrows_end (look ms) (children c.args.entry.now) c.loop-at.at (omega arith) (c.loop-at.invariant ms known))
