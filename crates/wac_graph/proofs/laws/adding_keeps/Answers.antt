use Rattle.wac_graph.proofs.Stays.{entry_keeps, package_keeps}
use Rattle.wac_graph.proofs.laws.adding_keeps.Goals as goal

pub returns-clause-entries : goal.returns-clause-entries
returns-clause-entries c = entry_keeps

pub returns-clause-packages : goal.returns-clause-packages
returns-clause-packages c = package_keeps
