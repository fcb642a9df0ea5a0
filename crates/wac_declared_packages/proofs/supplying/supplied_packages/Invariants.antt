use Rattle.wac_declared_packages.proofs.PackageCopies.{Supplying}
use Rattle.wac_declared_packages.proofs.supplying.supplied_packages.Given as goal

abbrev pub invariant-loop-key : goal.invariant-loop-key
invariant-loop-key l = Supplying l.mentioned.entries l.key-iterator l.made.entries l.supplied.entries
