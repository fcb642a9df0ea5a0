use Rattle.wac_declared_packages.proofs.First.{found_here, found_later, found_none}
use Rattle.wac_declared_packages.proofs.header.first_among.Goals as goal

pub loop-statement-preserved : goal.loop-statement-preserved
loop-statement-preserved c = found_later c.args.statements.now c.loop-statement.statement-index c.statement-item.result c.loop-statement-test.true c.statement-item.is c.in_default.ensures c.loop-statement.invariant

pub returns-in-Some : goal.returns-in-Some
returns-in-Some c = found_here c.args.statements.now c.loop-statement.statement-index c.statement-item.result c.in-Some.span c.loop-statement-test.true c.statement-item.is c.in-Some.ensures c.loop-statement.invariant

pub returns : goal.returns
returns c = found_none c.args.statements.now c.loop-statement.statement-index c.loop-statement-test.false c.loop-statement.invariant
