use Rattle.wac_ast.specs.Statements.{statement_of}
use Rattle.wac_names.specs.Steps.{statement_steps}
use Rattle.wac_names.proofs.Taking.{none, next, all}
use Rattle.wac_names.proofs.documents.statements.Goals as goal

pub loop-next-init : goal.loop-next-init
loop-next-init c = none c.args.finder.now

pub loop-next-preserved : goal.loop-next-preserved
loop-next-preserved c = next statement_of statement_steps c.args.statements.now c.loop-next.next-index c.next-item.result c.args.finder.now c.loop-next.finder c.statement.new.finder c.loop-next-test.true c.next-item.is c.loop-next.invariant c.in_ok-statement.ensures

pub returns : goal.returns
returns c = all statement_of statement_steps c.args.statements.now c.loop-next.next-index c.args.finder.now c.loop-next.finder c.loop-next-test.false c.loop-next.invariant
