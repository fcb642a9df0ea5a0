use Rattle.wac_declared_packages.proofs.Common.{◌≡◌, map, statement_of}
use Rattle.wac_declared_packages.specs.Refusing.{first_other}
use Rattle.wac_declared_packages.proofs.First.{first_from}
use Rattle.wac_declared_packages.proofs.header.first_among.Given as goal

abbrev pub invariant-loop-statement : goal.invariant-loop-statement
invariant-loop-statement l = first_from l.statement-index l.statements ≡ first_other (map statement_of l.statements)
