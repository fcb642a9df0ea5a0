use Rattle.wac_declared_packages.proofs.Common.{◌≡◌, ◌++◌, by_name}
use Rattle.wac_declared_packages.specs.Definitions.{worlds_in}
use Rattle.wac_declared_packages.proofs.worlds.worlds.Given as goal

abbrev pub invariant-loop-kind : goal.invariant-loop-kind
invariant-loop-kind l = l.worlds.items ++ worlds_in (by_name l.kind-iterator) ≡ worlds_in (by_name l.fn.definitions.entries)
