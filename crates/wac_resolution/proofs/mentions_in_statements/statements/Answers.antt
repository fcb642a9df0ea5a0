use Rattle.wac_resolution.proofs.Common.{statement_of, statement_mentions}
use Rattle.wac_resolution.proofs.Noting.{none, next, all}
use Rattle.wac_resolution.proofs.mentions_in_statements.statements.Goals as goal

pub loop-next-init : goal.loop-next-init
loop-next-init c = none c.args.mentions.now

pub loop-next-preserved : goal.loop-next-preserved
loop-next-preserved c = next statement_of statement_mentions c.args.statements.now c.loop-next.next-index c.next-item.result c.args.mentions.now c.loop-next.mentions c.statement.new.mentions c.loop-next-test.true c.next-item.is c.loop-next.invariant c.in_ok-statement.ensures

pub returns : goal.returns
returns c = all statement_of statement_mentions c.args.statements.now c.loop-next.next-index c.args.mentions.now c.loop-next.mentions c.loop-next-test.false c.loop-next.invariant
