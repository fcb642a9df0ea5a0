use Rattle.std.proofs.Common.{◌≡◌}
use Rattle.wac_component_packages.proofs.listing.Listing.add_found.Given as goal

abbrev pub invariant-loop-file : goal.invariant-loop-file
invariant-loop-file g l = g.F.FileSystem.replaced l.files ≡ g.F.FileSystem.replaced l.fn.files
