use Rattle.std.proofs.Common.{◌≡◌}
use Rattle.wac_cli_packages.proofs.sources.places_of.Given as goal

abbrev pub invariant-loop-path : goal.invariant-loop-path
invariant-loop-path g l = g.F.FileSystem.replaced l.files ≡ g.F.FileSystem.replaced l.fn.files
