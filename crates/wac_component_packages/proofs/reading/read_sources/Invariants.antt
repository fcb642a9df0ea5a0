use Rattle.std.proofs.Common.{◌≡◌}
use Rattle.wac_component_packages.proofs.reading.read_sources.Given as goal

abbrev pub invariant-loop-source : goal.invariant-loop-source
invariant-loop-source g l = g.F.FileSystem.replaced l.files ≡ g.F.FileSystem.replaced l.fn.files
