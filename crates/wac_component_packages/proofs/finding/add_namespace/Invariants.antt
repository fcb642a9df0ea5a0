use Rattle.std.proofs.Common.{◌≡◌}
use Rattle.wac_component_packages.proofs.finding.add_namespace.Given as goal

abbrev pub invariant-loop-entry : goal.invariant-loop-entry
invariant-loop-entry g l = g.F.FileSystem.replaced l.files ≡ g.F.FileSystem.replaced l.fn.files
