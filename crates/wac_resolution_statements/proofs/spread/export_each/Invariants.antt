use Rattle.wac_resolution_statements.proofs.Each.{SoFar}
use Rattle.wac_resolution_statements.proofs.spread.export_each.Given as goal

abbrev pub invariant-loop-text : goal.invariant-loop-text
invariant-loop-text g l = SoFar l.spread.dots (g.R.Rules.named l.scope.rules.now) l.fn.state.graph l.state.graph l.scope.root.now l.fn.externs l.externs l.spread.node.0 l.names l.text-index
