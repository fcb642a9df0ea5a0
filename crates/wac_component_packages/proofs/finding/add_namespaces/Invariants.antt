use Rattle.std.proofs.Common.{◌≡◌}
use Rattle.wac_component_packages.proofs.finding.add_namespaces.Given as goal

abbrev pub invariant-loop-namespace : goal.invariant-loop-namespace
invariant-loop-namespace g l = g.F.FileSystem.replaced l.files ≡ g.F.FileSystem.replaced l.fn.files
