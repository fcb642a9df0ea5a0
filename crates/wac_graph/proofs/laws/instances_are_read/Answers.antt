use Rattle.wac_graph.proofs.Calls.{instance_arguments, instance_imports, instance_exports_are, instance_alias}
use Rattle.wac_graph.proofs.laws.instances_are_read.Goals as goal

pub returns-clause-arguments : goal.returns-clause-arguments
returns-clause-arguments c = instance_arguments

pub returns-clause-imports : goal.returns-clause-imports
returns-clause-imports c = instance_imports

pub returns-clause-exports : goal.returns-clause-exports
returns-clause-exports c = instance_exports_are

pub returns-clause-aliases : goal.returns-clause-aliases
returns-clause-aliases c = instance_alias
