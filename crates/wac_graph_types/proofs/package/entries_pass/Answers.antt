use Rattle.wac_graph_types.proofs.Common.{refl, arith}
use Rattle.wac_graph_types.specs.Entry.{children}
use Rattle.wac_graph_types.specs.Meaning.{EachKind}
use Rattle.wac_graph_types.specs.Tests.{Passes}
use Rattle.wac_graph_types.proofs.Rows.{stands}
use Rattle.wac_graph_types.proofs.Each.{rest_passes_step}
use Rattle.wac_graph_types.proofs.package.entries_pass.Goals as goal

pub loop-number-preserved : goal.loop-number-preserved
loop-number-preserved c = rest_passes_step (λ n e. EachKind (Passes c.args.test c.args.entries.now n) (children e)) c.args.entries.now c.loop-number.number c.index-entries-number.result (stands c.args.entries.now c.loop-number.number c.index-entries-number.result (omega arith) c.index-entries-number.is) (c.if-not-entry_passes.ensures.0 refl) c.loop-number.invariant
