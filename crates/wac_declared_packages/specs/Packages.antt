-- Copies of packages.
use Rattle.std.specs.Prelude.{◌≡◌}
use Rattle.wac_graph_types.specs.Growth.{KeepsMeanings}
use Rattle.wac_graph_types.specs.Package.{PackageParts}

-- the second has the numbers of the first, and each kind means in it what it means there
pub record IsCopy (from copy : PackageParts) : Type 0 where
  pub of_world : copy.world ≡ from.world
  pub of_instance : copy.instance ≡ from.instance
  pub of_definitions : copy.definitions ≡ from.definitions
  pub means : KeepsMeanings from.types copy.types
