use Rattle.wac_declared_packages.specs.Together.{AreFrom}
use Rattle.wac_declared_packages.proofs.making.make_all.Given as goal

abbrev pub invariant-rounds : goal.invariant-rounds
invariant-rounds l = AreFrom l.sources l.made.entries
