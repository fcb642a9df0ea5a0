use Rattle.wac_graph.proofs.Calls.{name_is, name_arguments, name_alias}
use Rattle.wac_graph.proofs.laws.names_are_read.Goals as goal

pub returns-clause-named : goal.returns-clause-named
returns-clause-named c = name_is

pub returns-clause-arguments : goal.returns-clause-arguments
returns-clause-arguments c = name_arguments

pub returns-clause-aliases : goal.returns-clause-aliases
returns-clause-aliases c = name_alias
