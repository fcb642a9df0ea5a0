use Rattle.wac_declared_packages.specs.Together.{now_of}
use Rattle.wac_declared_packages.proofs.Texts.{ThereBefore}
use Rattle.wac_declared_packages.proofs.ending.first_unmade.Given as goal

abbrev pub invariant-loop-number : goal.invariant-loop-number
invariant-loop-number l = ThereBefore l.number (now_of l.sources.texts.now) l.packages.entries
