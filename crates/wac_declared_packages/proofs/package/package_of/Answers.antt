use Rattle.wac_declared_packages.proofs.Common.{subst, sym, by_name}
use Rattle.wac_declared_packages.specs.Definitions.{AreExported}
use Rattle.wac_declared_packages.proofs.Assembling.{copy_keeps, has_world}
use Rattle.wac_declared_packages.proofs.package.package_of.Goals as goal

pub returns-clause-definitions : goal.returns-clause-definitions
returns-clause-definitions c = subst (AreExported c.args.graph.now) (sym c.in_ok-package.ensures.definitions) c.in_ok-definitions.ensures

pub returns-clause-means : goal.returns-clause-means
returns-clause-means c =
    copy_keeps c.args.graph.now.types c.types-table.result.now c.in_ok-types.types c.in_ok-package.package.types c.types-table.ensures.types c.in_ok-types.ensures.len c.in_ok-types.ensures.means c.in_ok-package.ensures.grown

pub returns-clause-world : goal.returns-clause-world
returns-clause-world c = has_world _ c.in_ok-package.package (by_name c.in_ok-definitions.definitions.entries) c.in_ok-world.world c.in_ok-package.ensures.definitions c.in_ok-world.ensures c.in_ok-package.ensures.world
