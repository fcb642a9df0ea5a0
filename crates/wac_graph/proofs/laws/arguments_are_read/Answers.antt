use Rattle.wac_graph.proofs.Calls.{argument_found, argument_others, argument_nodes, argument_alias}
use Rattle.wac_graph.proofs.laws.arguments_are_read.Goals as goal

pub returns-clause-given : goal.returns-clause-given
returns-clause-given c = argument_found

pub returns-clause-others : goal.returns-clause-others
returns-clause-others c = argument_others

pub returns-clause-nodes : goal.returns-clause-nodes
returns-clause-nodes c = argument_nodes

pub returns-clause-aliases : goal.returns-clause-aliases
returns-clause-aliases c = argument_alias
