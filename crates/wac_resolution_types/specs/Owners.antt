-- Whose body it is.
use Rattle.std.specs.Prelude.{option_map}
use Rattle.wac_resolution_rules.specs.BrokenBodies.{Owner, of_interface, of_world}
use Rattle.wac_resolution_types.specs.declared.owner.Owner.{Owner as CodeOwner}
use Rattle.wac_resolution_types.specs.declared.owner.Owner.TheVariants as owners

abbrev pub owner_of : CodeOwner → Owner
owner_of (owners.Interface name) = of_interface (option_map (λ n. n.now) name)
owner_of (owners.World name) = of_world name.now
