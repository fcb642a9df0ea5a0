use Rattle.wac_resolution_expressions.proofs.Extending.{extends_self, expands_extends, nodes_extend, extends_on}
use Rattle.wac_resolution_expressions.proofs.laws.graphs_extend.Goals as goal

pub returns-clause-nothing : goal.returns-clause-nothing
returns-clause-nothing c = extends_self

pub returns-clause-expands : goal.returns-clause-expands
returns-clause-expands c = expands_extends

pub returns-clause-nodes : goal.returns-clause-nodes
returns-clause-nodes c = nodes_extend

pub returns-clause-twice : goal.returns-clause-twice
returns-clause-twice c = extends_on
