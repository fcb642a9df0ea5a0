use Rattle.wac_graph_types.proofs.Common.{refl, sym, arith, IfSome}
use Rattle.wac_graph_types.specs.Entry.{children, child_view}
use Rattle.wac_graph_types.specs.Tests.{Passes}
use Rattle.wac_graph_types.proofs.Rows.{shown}
use Rattle.wac_graph_types.proofs.Each.{rest_passes_step, rest_passes_end, each_all}
use Rattle.wac_graph_types.proofs.package.entry_passes.Goals as goal

pub loop-at-preserved : goal.loop-at-preserved
loop-at-preserved c = rest_passes_step (λ _ x. IfSome x.1 (Passes c.args.test c.args.entries.now c.args.number)) (children c.args.entry.now) c.loop-at.at (child_view c.in-Some.child) (sym c.in-Some.ensures) (c.if-not-child_passes.ensures.0 refl) c.loop-at.invariant

pub returns : goal.returns
returns c = shown (each_all (λ x. IfSome x.1 (Passes c.args.test c.args.entries.now c.args.number)) 0 (children c.args.entry.now) (rest_passes_end _ _ c.loop-at.at (omega arith) c.loop-at.invariant))
