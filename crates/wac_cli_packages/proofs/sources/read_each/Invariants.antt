use Rattle.std.proofs.Common.{◌≡◌}
use Rattle.wac_cli_packages.proofs.sources.read_each.Given as goal

abbrev pub invariant-loop-one : goal.invariant-loop-one
invariant-loop-one g l = g.F.FileSystem.replaced l.files ≡ g.F.FileSystem.replaced l.fn.files
