use Rattle.wac_declared_packages.proofs.Common.{by_name}
use Rattle.wac_declared_packages.proofs.Defining.{Defining}
use Rattle.wac_declared_packages.proofs.definitions.definitions_of.Given as goal

abbrev pub invariant-loop-name : goal.invariant-loop-name
invariant-loop-name l = Defining l.graph (by_name l.all.entries) l.name-iterator
