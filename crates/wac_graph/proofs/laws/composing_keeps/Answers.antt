use Rattle.wac_graph.proofs.Stays.{import_keeps, definition_keeps, export_keeps, alias_keeps, instantiation_keeps, name_keeps, argument_keeps}
use Rattle.wac_graph.proofs.laws.composing_keeps.Goals as goal

pub returns-clause-imports : goal.returns-clause-imports
returns-clause-imports c = import_keeps

pub returns-clause-definitions : goal.returns-clause-definitions
returns-clause-definitions c = definition_keeps

pub returns-clause-exports : goal.returns-clause-exports
returns-clause-exports c = export_keeps

pub returns-clause-aliases : goal.returns-clause-aliases
returns-clause-aliases c = alias_keeps

pub returns-clause-instances : goal.returns-clause-instances
returns-clause-instances c = instantiation_keeps

pub returns-clause-names : goal.returns-clause-names
returns-clause-names c = name_keeps

pub returns-clause-arguments : goal.returns-clause-arguments
returns-clause-arguments c = argument_keeps
