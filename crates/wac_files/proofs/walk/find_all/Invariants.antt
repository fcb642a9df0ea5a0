use Rattle.std.proofs.Common.{◌≡◌}
use Rattle.wac_files.proofs.walk.find_all.Given as goal

abbrev pub invariant-loop : goal.invariant-loop
invariant-loop g l = g.F.FileSystem.replaced l.files ≡ g.F.FileSystem.replaced l.fn.files
