use Rattle.std.proofs.Common.{◌≡◌}
use Rattle.wac_component_packages.proofs.folders.folders_in.Given as goal

abbrev pub invariant-loop-name : goal.invariant-loop-name
invariant-loop-name g l = g.F.FileSystem.replaced l.files ≡ g.F.FileSystem.replaced l.fn.files
