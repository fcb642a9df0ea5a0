use Rattle.wac_ast_base.proofs.message.ErrorDisplay.fmt.Goals as goal

pub returns-in-EmptyType-clause-writes : goal.returns-in-EmptyType-clause-writes
returns-in-EmptyType-clause-writes g c = rw c.in-EmptyType.is c.write-in-EmptyType.ensures.writes

pub returns-in-InvalidVersion-clause-writes : goal.returns-in-InvalidVersion-clause-writes
returns-in-InvalidVersion-clause-writes g c = rw c.in-InvalidVersion.is c.write-in-InvalidVersion.ensures.writes
