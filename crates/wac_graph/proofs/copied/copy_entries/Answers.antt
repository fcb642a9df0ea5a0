use Rattle.wac_graph.proofs.Common.{ℕ, List, length, sym, subst, arith, Entry, children}
use Rattle.wac_graph_types.proofs.Rows.{stands, earlier_from}
use Rattle.wac_graph.specs.Copied.{IsCopy, IsGrown}
use Rattle.wac_graph.proofs.Growing.{growing_step, growing_more}
use Rattle.wac_graph.proofs.Fitting.{children_fit}
use Rattle.wac_graph.proofs.copied.copy_entries.Goals as goal

pub copy_entry-requires : goal.copy_entry-requires
copy_entry-requires c =
    children_fit (length c.entries-n.result.now) c.loop-at.at (children c.index-from-at.result)
    (earlier_from 0 c.loop-at.at c.args.from.now c.loop-at.at c.index-from-at.result (omega arith) c.requires.table.0 (stands c.args.from.now c.loop-at.at c.index-from-at.result (omega arith) c.index-from-at.is))
    (let n = c.loop-at.invariant.1 in omega arith)

pub loop-at-preserved : goal.loop-at-preserved
loop-at-preserved c = (
  growing_step c.args.types.now c.args.from.now c.loop-at.types c.add.new.self c.loop-at.at c.index-from-at.result c.in_ok-copy.copy c.requires.table
      (stands c.args.from.now c.loop-at.at c.index-from-at.result (omega arith) c.index-from-at.is) (omega arith)
      (subst (λ (m : ℕ). IsCopy m c.index-from-at.result c.in_ok-copy.copy) c.loop-at.invariant.1 c.in_ok-copy.ensures)
      c.in_ok-add.ensures.ok c.loop-at.invariant.0,
  c.loop-at.invariant.1,
)

pub returns-in_err-copy-clause-more : goal.returns-in_err-copy-clause-more
returns-in_err-copy-clause-more c = growing_more c.args.types.now c.args.from.now c.loop-at.types c.loop-at.at c.loop-at.invariant.0

pub returns-in_err-add-clause-more : goal.returns-in_err-add-clause-more
returns-in_err-add-clause-more c = subst (λ (l : List Entry). IsGrown c.args.types.now l) (sym c.in_err-add.ensures.err) (growing_more c.args.types.now c.args.from.now c.loop-at.types c.loop-at.at c.loop-at.invariant.0)

pub returns-clause-more : goal.returns-clause-more
returns-clause-more c = growing_more c.args.types.now c.args.from.now c.loop-at.types c.loop-at.at c.loop-at.invariant.0
