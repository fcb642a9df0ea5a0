use Rattle.std.proofs.Common.{◌≡◌}
use Rattle.wac_component_packages.proofs.listing.Listing.add_named.Given as goal

abbrev pub invariant-loop-pair : goal.invariant-loop-pair
invariant-loop-pair g l = g.F.FileSystem.replaced l.files ≡ g.F.FileSystem.replaced l.fn.files
