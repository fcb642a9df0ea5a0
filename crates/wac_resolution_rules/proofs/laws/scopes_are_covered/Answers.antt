use Rattle.wac_resolution_rules.proofs.Scopes.{interface_covered, world_covered}
use Rattle.wac_resolution_rules.proofs.laws.scopes_are_covered.Goals as goal

pub returns-clause-interface : goal.returns-clause-interface
returns-clause-interface c = interface_covered

pub returns-clause-world : goal.returns-clause-world
returns-clause-world c = world_covered
