use Rattle.wac_resolution.proofs.Common.{map, take, statement_of, rules_of}
use Rattle.wac_resolution.specs.Sequences.{StatementsRun}
use Rattle.wac_resolution.proofs.statements.compose.Given as goal

abbrev pub invariant-loop-next : goal.invariant-loop-next
invariant-loop-next g l = StatementsRun l.given.context.now (rules_of g.R.Rules l.given.rules.now) l.fn.state.graph l.state.graph l.fn.root l.root l.fn.externs l.externs (take l.next-index (map statement_of l.statements))
