use Rattle.wac_graph_types.proofs.Common.{subst}
use Rattle.wac_graph_types.specs.Package.{IsPackage}
use Rattle.wac_graph_types.proofs.Packages.{package_table}
use Rattle.wac_graph_types.proofs.package.Package.types.Goals as goal

pub returns-clause-table : goal.returns-clause-table
returns-clause-table c = package_table c.args.self.now (subst IsPackage c.self.view_is c.self.invariant)
